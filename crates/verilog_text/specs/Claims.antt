-- What is claimed of a network written as Verilog text. Definitions only; proofs/Claims.antt proves it.
use Rattle.std.specs.Prelude.{◌≡◌, false, List, ℕ, ◌≤◌, ◌<◌, ℤ, length, get_or, take, drop}
use Rattle.std.specs.Int.{w16}
use Rattle.std.proofs.Common.{SFits}
use Rattle.refusal.specs.Answer.{Answer, given, refused}
use Rattle.network.specs.Rows.{Network, network_of}
use Rattle.network.specs.Coefficients.{coefficients}
use Rattle.network.specs.Accepted.{KeepsRules, Accepted}
use Rattle.network.specs.Checked.{NetworkChecked}
use Rattle.network.specs.Claims.{NetworkRefusals}
use Rattle.verilog.specs.Reading.{reads}
use Rattle.verilog.specs.Syntax.{Module}
use Rattle.verilog.specs.Values.{Values}
use Rattle.verilog.specs.Meaning.{meaning, Settled}
use Rattle.verilog_text.specs.Text.{verilog_text_of}
use Rattle.verilog_text.specs.Written.{text_in, most_bytes, VerilogWritten}
use Rattle.verilog_text.specs.Promise.{Multiplies, AsRunning, FromCleared}

-- the coefficients of the network that two tables hold
abbrev pub coefficients_in : List ℕ → ℕ → List ℕ → ℕ → List ℤ
coefficients_in rows row_count_of taps tap_count = coefficients (network_of rows row_count_of taps tap_count)

-- "Errors": what a number and a place mean that writing returns; it returns no others. The area is so many bytes long
pub data VerilogRefusals (rows : List ℕ) (row_count_of : ℕ) (taps : List ℕ) (tap_count room number place : ℕ) : Type 0 where
  -- 1, 2, 3, 10 and 11, as checking has them
  by_network : NetworkRefusals false rows row_count_of taps tap_count number place → VerilogRefusals rows row_count_of taps tap_count room number place
  -- "13 if the text is longer than the lent area, checked after 11, place 0"
  text_too_long : number ≡ 13 → place ≡ 0 → Accepted false rows row_count_of taps tap_count (coefficients_in rows row_count_of taps tap_count)
      → room < length (text_in rows row_count_of taps tap_count) → VerilogRefusals rows row_count_of taps tap_count room number place

-- what is left in the area of a text that is written: the text, and what was there past it
pub record Left (text : List ℕ) (area : List ℕ) (size : ℕ) (area' : List ℕ) : Type 0 where
  pub size_is : size ≡ length text
  pub text_is : take size area' ≡ text
  pub rest_is : drop size area' ≡ drop size area

pub record VerilogClaims : Type 0 where
  -- ---- the text multiplies: of every network that keeps the rules, built or not
  pub text_multiplies : (net : Network) (h : List ℤ) → KeepsRules net h → Multiplies (verilog_text_of net) h
  -- so do the bytes that writing leaves, with the coefficients that checking reads
  pub written_multiplies : (rows : List ℕ) (n : ℕ) (taps : List ℕ) (m : ℕ) (area : List ℕ) (size : ℕ) (area' : List ℕ)
      → VerilogWritten rows n taps m area (given size) area' → Multiplies (take size area') (coefficients_in rows n taps m)
  -- ---- as running does: any values that settle what those bytes mean, for any 16-bit sample and from any registers
  pub as_running : (rows : List ℕ) (n : ℕ) (taps : List ℕ) (m : ℕ) (area : List ℕ) (size : ℕ) (area' : List ℕ)
      → VerilogWritten rows n taps m area (given size) area' → (w : Module) → meaning (take size area') ≡ reads w → (x : ℤ) → SFits w16 x → (v : Values) → Settled w x v
      → (r : List ℕ) → AsRunning (coefficients_in rows n taps m) r x v
  pub from_cleared : (rows : List ℕ) (n : ℕ) (taps : List ℕ) (m : ℕ) (area : List ℕ) (size : ℕ) (area' : List ℕ)
      → VerilogWritten rows n taps m area (given size) area' → (w : Module) → meaning (take size area') ≡ reads w → (x : ℤ) → SFits w16 x → (v : Values) → Settled w x v
      → (r : List ℕ) → ((k : ℕ) → get_or r k 0 ≡ 0) → FromCleared (coefficients_in rows n taps m) x v r
  -- ---- "the text depends on the network alone"
  pub text_alone : (rows : List ℕ) (n : ℕ) (taps : List ℕ) (m : ℕ) (area : List ℕ) (size : ℕ) (area' : List ℕ) → VerilogWritten rows n taps m area (given size) area'
      → (rows₂ : List ℕ) (n₂ : ℕ) (taps₂ : List ℕ) (m₂ : ℕ) (area₂ : List ℕ) (size₂ : ℕ) (area₂' : List ℕ) → VerilogWritten rows₂ n₂ taps₂ m₂ area₂ (given size₂) area₂'
      → network_of rows n taps m ≡ network_of rows₂ n₂ taps₂ m₂ → take size area' ≡ take size₂ area₂'
  -- ---- which networks are written: those that checking passes, where the text is no longer than the area
  pub accepts : (rows : List ℕ) (n : ℕ) (taps : List ℕ) (m : ℕ) → NetworkChecked rows n taps m (given tt) → (area : List ℕ) → length (text_in rows n taps m) ≤ length area
      → (a : Answer ℕ) (area' : List ℕ) → VerilogWritten rows n taps m area a area' → a ≡ given (length (text_in rows n taps m))
  pub accepts_only : (rows : List ℕ) (n : ℕ) (taps : List ℕ) (m : ℕ) (area : List ℕ) (size : ℕ) (area' : List ℕ) → VerilogWritten rows n taps m area (given size) area'
      → Accepted false rows n taps m (coefficients_in rows n taps m) × (length (text_in rows n taps m) ≤ length area)
  pub refusals : (rows : List ℕ) (n : ℕ) (taps : List ℕ) (m : ℕ) (area : List ℕ) (number place : ℕ) (area' : List ℕ)
      → VerilogWritten rows n taps m area (refused number place) area' → VerilogRefusals rows n taps m (length area) number place
  -- ---- room: no text is longer, and an area of so many bytes never meets 13
  pub most : (rows : List ℕ) (n : ℕ) (taps : List ℕ) (m : ℕ) (area : List ℕ) (size : ℕ) (area' : List ℕ) → VerilogWritten rows n taps m area (given size) area' → size ≤ most_bytes
  pub enough : (rows : List ℕ) (n : ℕ) (taps : List ℕ) (m : ℕ) (area : List ℕ) (number place : ℕ) (area' : List ℕ) → most_bytes ≤ length area
      → VerilogWritten rows n taps m area (refused number place) area' → NetworkRefusals false rows n taps m number place
  -- ---- the area: "area unchanged" on a refusal, else the text, and what was there past it
  pub left : (rows : List ℕ) (n : ℕ) (taps : List ℕ) (m : ℕ) (area : List ℕ) (size : ℕ) (area' : List ℕ) → VerilogWritten rows n taps m area (given size) area'
      → Left (text_in rows n taps m) area size area'
  pub unchanged : (rows : List ℕ) (n : ℕ) (taps : List ℕ) (m : ℕ) (area : List ℕ) (number place : ℕ) (area' : List ℕ)
      → VerilogWritten rows n taps m area (refused number place) area' → area' ≡ area
