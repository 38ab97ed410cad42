-- Document 01: "Leading zeros aside, two strings are the same when dropping all zeros at their high ends leaves the same list."
use Rattle.std.specs.Prelude.{◌≡◌, [], ◌∷◌}
use Rattle.signed_digit.specs.Digit.{Digit, one, nought, minus_one}
use Rattle.signed_digit.specs.String.{DigitString}

-- d below s: a zero with nothing above it is dropped
abbrev pub below : Digit → DigitString → DigitString
below one s = one ∷ s
below minus_one s = minus_one ∷ s
below nought [] = []
below nought (e ∷ s) = nought ∷ e ∷ s

-- s without the zeros at its high end
abbrev pub stripped : DigitString → DigitString
stripped [] = []
stripped (d ∷ s) = below d (stripped s)

abbrev pub Same : DigitString → DigitString → Type 0
Same s t = stripped s ≡ stripped t
