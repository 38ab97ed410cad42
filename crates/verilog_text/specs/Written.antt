-- What writing a network as Verilog text answers and leaves. Document 02, request 1, and document 01, "Turned down". Definitions only.
use Rattle.std.specs.Prelude.{◌≡◌, false, List, ℕ, ltb, ℤ, length}
use Rattle.refusal.specs.Answer.{Answer, given, refuse_if, and_then, filled}
use Rattle.network.specs.Rows.{network_of}
use Rattle.network.specs.Check.{network_answer}
use Rattle.verilog_text.specs.Text.{verilog_text_of}

-- the text of the network that two tables hold
abbrev pub text_in : List ℕ → ℕ → List ℕ → ℕ → List ℕ
text_in rows row_count_of taps tap_count = verilog_text_of (network_of rows row_count_of taps tap_count)

-- the length of a text, or "13 if the text is longer than the lent area", which has so many bytes
abbrev pub length_answer : ℕ → List ℕ → Answer ℕ
length_answer room text = refuse_if (ltb room (length text)) 13 (given (length text))

-- "checked after 11, place 0"
abbrev pub verilog_answer : List ℕ → ℕ → List ℕ → ℕ → ℕ → Answer ℕ
verilog_answer rows row_count_of taps tap_count room = and_then (network_answer false rows row_count_of taps tap_count) (λ (h : List ℤ). length_answer room (text_in rows row_count_of taps tap_count))

-- no text is longer, so an area of so many bytes has room for any
abbrev pub most_bytes : ℕ
most_bytes = 276457

-- writing the network that rows and taps hold into the lent area answers a and leaves area': the contract of `write_verilog`, and what every claim about it
-- speaks of. "area unchanged" on a refusal
pub record VerilogWritten (rows : List ℕ) (row_count_of : ℕ) (taps : List ℕ) (tap_count : ℕ) (area : List ℕ) (a : Answer ℕ) (area' : List ℕ) : Type 0 where
  pub answer : a ≡ verilog_answer rows row_count_of taps tap_count (length area)
  pub text : area' ≡ filled (verilog_answer rows row_count_of taps tap_count (length area)) (text_in rows row_count_of taps tap_count) area
