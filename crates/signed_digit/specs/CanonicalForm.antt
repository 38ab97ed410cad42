-- The canonical string of a number over p places, worked out from the low end. Contracts cite it. A reader need not believe it:
-- `canonical_form` (specs/Claims) says that it is the one canonical string of its value.
use Rattle.std.specs.Prelude.{ℕ, zero, suc, ◌+◌, ◌/◌, ◌%◌, [], ◌∷◌, ℤ, pos, negsuc}
use Rattle.signed_digit.specs.Digit.{Digit, one, nought, minus_one}
use Rattle.signed_digit.specs.String.{DigitString}
use Rattle.signed_digit.specs.Masks.{minus_bit}

-- the lowest digit, by the number's remainder by 4
abbrev pub lowest_digit : ℕ → Digit
lowest_digit zero = nought
lowest_digit (suc zero) = one
lowest_digit (suc (suc zero)) = nought
lowest_digit (suc (suc (suc r))) = minus_one

-- of a natural number
unfoldable pub canonical_nat : ℕ → ℕ → DigitString
canonical_nat zero n = []
canonical_nat (suc p) n = lowest_digit (n % 4) ∷ canonical_nat p ((n + minus_bit (lowest_digit (n % 4))) / 2)

-- the digit of the opposite value
abbrev pub opposite : Digit → Digit
opposite one = minus_one
opposite nought = nought
opposite minus_one = one

-- the string of the opposite value
abbrev pub negated : DigitString → DigitString
negated [] = []
negated (d ∷ s) = opposite d ∷ negated s

-- of a whole number
abbrev pub canonical : ℕ → ℤ → DigitString
canonical p (pos n) = canonical_nat p n
canonical p (negsuc n) = negated (canonical_nat p (suc n))
