-- Document 01: "A form is stored as two 32-bit masks: places holding 1 and places holding -1."
use Rattle.std.specs.Prelude.{ℕ, zero, suc, ◌+◌, ◌*◌, ◌/◌, ◌%◌, ◌^◌, Bool, [], ◌∷◌, eqb}
use Rattle.signed_digit.specs.Digit.{Digit, one, nought, minus_one}
use Rattle.signed_digit.specs.String.{DigitString}

-- the number whose binary digit at each place is f of the string's digit there
abbrev pub mask : (Digit → ℕ) → DigitString → ℕ
mask f [] = 0
mask f (d ∷ s) = f d + 2 * mask f s

abbrev pub plus_bit : Digit → ℕ
plus_bit one = 1
plus_bit nought = 0
plus_bit minus_one = 0

abbrev pub minus_bit : Digit → ℕ
minus_bit one = 0
minus_bit nought = 0
minus_bit minus_one = 1

-- the places holding 1
abbrev pub plus_mask : DigitString → ℕ
plus_mask s = mask plus_bit s

-- the places holding -1
abbrev pub minus_mask : DigitString → ℕ
minus_mask s = mask minus_bit s

-- whether a mask holds a place
abbrev pub holds : ℕ → ℕ → Bool
holds mask place = eqb (mask / 2 ^ place % 2) 1

-- the digit of a place, by its bits in the two masks
abbrev pub digit_of : ℕ → ℕ → Digit
digit_of zero zero = nought
digit_of zero (suc y) = minus_one
digit_of (suc x) y = one

-- the string of p places with these two masks
abbrev pub from_masks : ℕ → ℕ → ℕ → DigitString
from_masks zero x y = []
from_masks (suc p) x y = digit_of (x % 2) (y % 2) ∷ from_masks p (x / 2) (y / 2)
