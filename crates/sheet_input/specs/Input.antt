-- What the program's input and argument are turned down for before a tap is looked at. Document 01, "Turned down". Definitions only.
use Rattle.std.specs.Prelude.{not, List, ℕ, ◌%◌, eqb, ltb, length}
use Rattle.refusal.specs.Answer.{Answer, refuse_if}
use Rattle.sheet_input.specs.Argument.{Argument, fraction_bits_of}
use Rattle.sheet_input.specs.Taps.{whole_taps}

-- F, or the first check that applies: "12 comes after 2, and both 1 and 2 count whole taps"; 12 is "input ends inside a tap"
unfoldable pub input_answer : List ℕ → Argument → Answer ℕ
input_answer input argument =
    refuse_if (eqb (whole_taps input) 0) 1
    (refuse_if (ltb 256 (whole_taps input)) 2
    (refuse_if (not (eqb (length input % 8) 0)) 12
    (fraction_bits_of argument)))
