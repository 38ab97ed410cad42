-- What is claimed of running calls. Definitions only; proofs/Claims.antt proves it.
use Rattle.std.specs.Prelude.{◌≡◌, ◌||◌, List, ℕ, suc, ◌+◌, ◌^◌, ◌<◌, ltb, ℤ, pos, ◌+ℤ◌, ◌*ℤ◌, length, get_or, take}
use Rattle.std.specs.Int.{w64}
use Rattle.std.proofs.Common.{to_z}
use Rattle.refusal.specs.Answer.{given, refused}
use Rattle.run_convolution.specs.Words.{wrapped}
use Rattle.run_convolution.specs.Sums.{output_sum, register_sum, held}
use Rattle.run_convolution.specs.Bounds.{Words}
use Rattle.network.specs.Rows.{network_of}
use Rattle.network.specs.Coefficients.{coefficients}
use Rattle.network.specs.Checked.{NetworkChecked}
use Rattle.network.specs.Claims.{NetworkRefusals}
use Rattle.run_calls.specs.Run.{Ran}
use Rattle.run_calls.specs.Memory.{Step}
use Rattle.run_calls.specs.Demand.{Calls, Demand}

-- "Sums wrap modulo 2^64 and are read as signed, so any register content is legal": a call with the coefficients h met the registers r and left r' and o'. Each is the sum
-- over the call's own samples and what the old content adds, which moves down one register a sample
pub record AnyContent (h samples : List ℤ) (r r' : List ℕ) (o' : List ℤ) : Type 0 where
  pub registers : (k : ℕ) → k < 256 → get_or r' k 0 ≡ wrapped (pos (held r (length samples + k)) +ℤ register_sum h samples k)
  pub outputs : (i : ℕ) → i < length samples → get_or o' i (pos 0) ≡ to_z w64 (wrapped (pos (held r i) +ℤ output_sum h (take (suc i) samples)))

-- "Sums wrap modulo 2^64": the 64-bit word n differs from z by a multiple of 2^64
pub record WordOf (z : ℤ) (n : ℕ) : Type 0 where
  pub word : n < 2 ^ 64
  pub turns : ℤ
  pub congruent : z ≡ pos n +ℤ turns *ℤ pos (2 ^ 64)

pub record RunningClaims : Type 0 where
  -- demand 3 of running calls, with every network that `check` passes
  pub running_sums : (rows : List ℕ) (row_count_of : ℕ) (taps : List ℕ) (tap_count : ℕ) → NetworkChecked rows row_count_of taps tap_count (given tt)
      → (calls : List Step) → Calls (network_of rows row_count_of taps tap_count) calls
      → Demand (coefficients (network_of rows row_count_of taps tap_count)) (network_of rows row_count_of taps tap_count) calls
  -- what is stored of a sum
  pub wraps : (z : ℤ) → WordOf z (wrapped z)
  -- what a refusal of a call means, "registers 256 .. outputs one per sample" being the other tables
  pub run_refusals : (rows : List ℕ) (row_count_of : ℕ) (taps : List ℕ) (tap_count : ℕ) (samples : List ℤ) (r : List ℕ) (o : List ℤ) (number place : ℕ) (r' : List ℕ) (o' : List ℤ)
      → Ran rows row_count_of taps tap_count samples r o (refused number place) r' o'
      → NetworkRefusals (ltb (length r) 256 || ltb (length o) (length samples)) rows row_count_of taps tap_count number place
  -- a call that is accepted, whatever the registers hold
  pub any_content : (rows : List ℕ) (row_count_of : ℕ) (taps : List ℕ) (tap_count : ℕ) (samples : List ℤ) (r : List ℕ) (o : List ℤ) (r' : List ℕ) (o' : List ℤ) → Words r
      → Ran rows row_count_of taps tap_count samples r o (given tt) r' o' → AnyContent (coefficients (network_of rows row_count_of taps tap_count)) samples r r' o'
