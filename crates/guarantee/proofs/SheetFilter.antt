-- Document 01, "Bench figures": the sheet's filter, cleared, samples 1, 2, -32768 gives 3, 0, -98271. Assumes nothing.
use mathlib.Core.Path.{◌≡◌, refl, ap, ◌∙◌}
use mathlib.Core.Bool.{Bool, true, false, ◌||◌}
use mathlib.Core.List.{List, [], ◌∷◌, ◌++◌}
use Prim.Native.Nat.{ℕ, zero, suc, ◌<◌, ◌≤◌}
use native.Mathlib.Omega.{arith}
use borrow.Author.Tests.{ltb-true, ltb-false, le-ltb}
use lib.Dec.{ltb, lit≤}
use lib.IntN.{ℤ}
use lib.ListN.{length, replicate, get_or-replicate, length-append, length-replicate, get_or-append}
use mir.Syntax.{w16, w32}
use Rattle.refusal.specs.Answer.{given}
use Rattle.run_convolution.specs.Bounds.{Within}
use Rattle.run_convolution.specs.Sums.{held, output_sum, output_sums}
use Rattle.run_convolution.proofs.Steps.{held_low, held_high}
use Rattle.run_convolution.proofs.Theorems.{Cleared, holds_start, outputs_exact}
use Rattle.network.specs.Rows.{row_table, tap_table}
use Rattle.network.specs.Check.{network_answer}
use Rattle.network.proofs.Figures.{sheet_network_lem}
use Rattle.run_calls.specs.Run.{run_answer, run_outputs}
use Rattle.network.specs.Figures.{sheet_coefficients, sheet_rows, sheet_tap_rows}
use Rattle.guarantee.specs.Sheet.{sheet_samples, sheet_outputs}

abbrev cleared : List ℕ → List ℕ
cleared beyond = replicate 256 0 ++ beyond

sums : output_sums sheet_coefficients [] sheet_samples ≡ sheet_outputs
unfolding output_sums output_sum
sums = refl

is_cleared : (beyond : List ℕ) → Cleared (cleared beyond)
is_cleared beyond k = by k (ltb k 256) refl
  where
    by : (k : ℕ) (t : Bool) → ltb k 256 ≡ t → held (cleared beyond) k ≡ 0
    by k true e =
        let l : k < 256 = ltb-true k 256 e in
        held_low (cleared beyond) k l ∙ get_or-append (replicate 256 0) beyond 0 k (omega (arith, length-replicate {A = ℕ} 256 0)) ∙ get_or-replicate 256 k 0 0 l
    by k false e = held_high (cleared beyond) k (ltb-false k 256 e)

coefficients_fit : Within w32 sheet_coefficients
coefficients_fit zero = record { sfits = lit≤ tt }
coefficients_fit (suc zero) = record { sfits = lit≤ tt }
coefficients_fit (suc (suc zero)) = record { sfits = lit≤ tt }
coefficients_fit (suc (suc (suc zero))) = record { sfits = lit≤ tt }
coefficients_fit (suc (suc (suc (suc k)))) = record { sfits = lit≤ tt }

samples_fit : Within w16 sheet_samples
samples_fit zero = record { sfits = lit≤ tt }
samples_fit (suc zero) = record { sfits = lit≤ tt }
samples_fit (suc (suc zero)) = record { sfits = lit≤ tt }
samples_fit (suc (suc (suc k))) = record { sfits = lit≤ tt }

-- the call is accepted, and leaves these outputs, whatever lies past the tables, the registers and the outputs
pub record Filtered (r t beyond : List ℕ) (a b c : ℤ) (rest : List ℤ) : Type 0 where
  pub answer : run_answer (sheet_rows r) 3 (sheet_tap_rows t) 4 sheet_samples (length (cleared beyond)) (length (a ∷ b ∷ c ∷ rest)) ≡ given sheet_coefficients
  pub outputs : run_outputs (given sheet_coefficients) sheet_samples (cleared beyond) (a ∷ b ∷ c ∷ rest) ≡ sheet_outputs ++ rest

pub sheet_filter : (r t beyond : List ℕ) (a b c : ℤ) (rest : List ℤ) → row_table ≤ length (sheet_rows r) → tap_table ≤ length (sheet_tap_rows t) → Filtered r t beyond a b c rest
sheet_filter r t beyond a b c rest lr lt =
    record {
      answer =
          ap (λ (short : Bool). network_answer short (sheet_rows r) 3 (sheet_tap_rows t) 4) long ∙ sheet_network_lem r t lr lt;
      outputs =
          ap (λ (o : List ℤ). o ++ rest)
          (outputs_exact sheet_coefficients (lit≤ tt) coefficients_fit (cleared beyond) (is_cleared beyond) sheet_samples [] (cleared beyond) (λ k. record { sfits = lit≤ tt }) samples_fit
          (holds_start sheet_coefficients (cleared beyond) (λ k. omega (arith, is_cleared beyond k))) ∙ sums);
    }
  where
    size : 256 ≤ length (cleared beyond)
    size = omega (arith, length-append (replicate 256 0) beyond, length-replicate {A = ℕ} 256 0)

    long : (ltb (length (cleared beyond)) 256 || ltb (length (a ∷ b ∷ c ∷ rest)) (length sheet_samples)) ≡ false
    long = rw (le-ltb (length (cleared beyond)) 256 size, le-ltb (length (a ∷ b ∷ c ∷ rest)) 3 (omega arith))
