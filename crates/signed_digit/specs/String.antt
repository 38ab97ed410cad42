-- Document 01: "A signed-digit string is a list, of any length, of digits 1, 0 and -1, place 0 lowest."
use Rattle.std.specs.Prelude.{ℕ, List, get_or}
use Rattle.signed_digit.specs.Digit.{Digit, nought}

abbrev pub DigitString : Type 0
DigitString = List Digit

-- the digit at place i: 0 at every place that the list does not reach
abbrev pub digit_at : DigitString → ℕ → Digit
digit_at s i = get_or s i nought
