-- Numbers in decimal digits, as ASCII bytes, written and read. Definitions only.
use Rattle.std.specs.Prelude.{Bool, true, false, ◌&&◌, List, [], ◌∷◌, ◌++◌, ℕ, zero, suc, ◌+◌, ◌-◌, ◌*◌, ◌/◌, ◌%◌, leb, ltb, ℤ, pos, negsuc}

-- one digit, or those of n / 10, which `rest` gives, and the last digit
abbrev pub digits_by : Bool → (ℕ → List ℕ) → ℕ → List ℕ
digits_by true rest n = (48 + n) ∷ []
digits_by false rest n = rest (n / 10) ++ ((48 + n % 10) ∷ [])

-- the decimal digits of n, by at most k divisions
unfoldable pub decimal_by : ℕ → ℕ → List ℕ
decimal_by zero n = (48 + n) ∷ []
decimal_by (suc k) n = digits_by (ltb n 10) (decimal_by k) n

-- the decimal digits of n, with no leading zeros: n divisions are more than enough
unfoldable pub decimal : ℕ → List ℕ
decimal n = decimal_by n n

-- a whole number: its digits, after `-` where it is negative
unfoldable pub integer : ℤ → List ℕ
integer (pos n) = decimal n
integer (negsuc n) = 45 ∷ decimal (suc n)

-- an ASCII digit
abbrev pub is_digit : ℕ → Bool
is_digit b = leb 48 b && leb b 57

unfoldable pub are_digits : List ℕ → Bool
are_digits [] = true
are_digits (b ∷ bs) = is_digit b && are_digits bs

-- the decimal number whose digits follow those of a
unfoldable pub number_from : ℕ → List ℕ → ℕ
number_from a [] = a
number_from a (b ∷ bs) = number_from (10 * a + (b - 48)) bs
