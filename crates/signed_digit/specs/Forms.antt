-- The listing of a number over p places, worked out from the high end. Contracts cite it. A reader need not believe it:
-- `listing_is` and `listing_unique` (specs/Claims) say that it is the listing, and that no other list is.
use Rattle.std.specs.Prelude.{ℕ, zero, suc, ◌+◌, ◌^◌, Bool, true, false, List, [], ◌∷◌, ◌++◌, map, eqb, ℤ, pos, negsuc}
use Rattle.signed_digit.specs.Digit.{Digit, one, nought, minus_one}
use Rattle.signed_digit.specs.String.{DigitString}
use Rattle.signed_digit.specs.Weight.{weight}
use Rattle.signed_digit.specs.CanonicalForm.{canonical}

-- s with the digit d above it
abbrev pub top : Digit → DigitString → DigitString
top d s = s ++ (d ∷ [])

-- the string of no places, if there is to be one
abbrev pub empty_if : Bool → List DigitString
empty_if true = [] ∷ []
empty_if false = []

-- the strings of p places, of weight k and of value a - b
unfoldable pub forms : ℕ → ℕ → ℕ → ℕ → List DigitString
forms zero zero a b = empty_if (eqb a b)
forms zero (suc k) a b = []
forms (suc p) zero a b = map (top nought) (forms p zero a b)
forms (suc p) (suc k) a b = map (top one) (forms p k a (b + 2 ^ p)) ++ (map (top minus_one) (forms p k (a + 2 ^ p) b) ++ map (top nought) (forms p (suc k) a b))

-- a whole number is the first of these less the second
abbrev pub positive_part : ℤ → ℕ
positive_part (pos n) = n
positive_part (negsuc n) = 0

abbrev pub negative_part : ℤ → ℕ
negative_part (pos n) = 0
negative_part (negsuc n) = suc n

-- The strings of value n with the weight of its canonical string, which has places enough: if p places hold a string of n, then p + 1
-- hold the canonical one.
unfoldable pub listing : ℕ → ℤ → List DigitString
listing p n = forms p (weight (canonical (suc p) n)) (positive_part n) (negative_part n)
