-- The sheet of an input and an argument. Document 01, "The sheet". Definitions only.
use Rattle.std.specs.Prelude.{◌≡◌, false, List, ◌++◌, ℕ, ◌≤◌, Float, length, take, drop, replicate}
use Rattle.refusal.specs.Answer.{Answer, given, refused, and_then}
use Rattle.tap_set.specs.declared.Report.{Report}
use Rattle.tap_set.specs.Set.{rounded_taps, coefficients_of}
use Rattle.network.specs.Rows.{Network}
use Rattle.build_steps.specs.TapRows.{built}
use Rattle.sheet_kinds.specs.Text.{network_text, refused_text}
use Rattle.sheet_input.specs.Argument.{Argument}
use Rattle.sheet_input.specs.Taps.{taps_of}
use Rattle.sheet_input.specs.Input.{input_answer}

-- "all choices 0": one for each of 256 taps, the most that there are
unfoldable pub choices : List ℕ
choices = replicate 256 0

-- the network of some taps, "not normalised, all choices 0". Rounding makes the checks 5 and 6; building turns down no coefficients that come of it
-- (`never_turned_down` in specs/Claims.antt)
unfoldable pub taps_answer : ℕ → List Float → Answer Network
taps_answer F taps = and_then (rounded_taps F false taps 256) (λ (report : Report). given (built (coefficients_of F taps) choices))

-- the network of the taps on standard input, after the checks 1, 2, 12 and 4
unfoldable pub sheet_answer : List ℕ → Argument → Answer Network
sheet_answer input argument = and_then (input_answer input argument) (λ (F : ℕ). taps_answer F (taps_of input))

-- what is printed of an answer
abbrev pub text_of : Answer Network → List ℕ
text_of (given net) = network_text net
text_of (refused number place) = refused_text number place

-- "a program that prints the sheet": its bytes, for an input and a first argument
unfoldable pub sheet_of : List ℕ → Argument → List ℕ
sheet_of input argument = text_of (sheet_answer input argument)

-- the sheet of an input and an argument stands at the start of the area, which was `area` and is now area', and its length is n: the contract of `sheet`, and what
-- every claim about it speaks of
pub record SheetWritten (input : List ℕ) (argument : Argument) (area : List ℕ) (n : ℕ) (area' : List ℕ) : Type 0 where
  pub size : n ≡ length (sheet_of input argument)
  pub text : area' ≡ sheet_of input argument ++ drop n area
  -- the area has room for every sheet
  pub room : length area' ≡ length area
  -- so its first n bytes, which the program writes, are the sheet
  pub within : (n ≤ length area') × (n ≡ length (take n area'))
