-- Document 01: "Reduction: a nonzero coefficient is sign × odd part × 2^shift, the odd part positive. Zero has no odd part." Definitions only.
use Rattle.std.specs.Prelude.{◌≡◌, Bool, true, false, cond, ℕ, ◌/◌, ◌^◌, ℤ, pos, negsuc, nat_abs, Option, Some, None}
use Rattle.std.specs.Int.Count.{count_trailing_zeros}
use Rattle.word.specs.Zero.{is_zero}
use Rattle.signed_digit.specs.Reduction.{Sign, positive, negative}
use Rattle.coefficient.specs.declared.Reduction.{Reduction}

-- "sign"
abbrev pub sign_of : ℤ → Sign
sign_of (pos m) = positive
sign_of (negsuc m) = negative

-- "shift": the zeros at the low end of the magnitude's binary digits, of which a number m has no more than m
unfoldable pub shift_of : ℤ → ℕ
shift_of n = count_trailing_zeros (nat_abs n) (nat_abs n)

-- "odd part": what is left of the magnitude when 2^shift is taken out
unfoldable pub odd_part_of : ℤ → ℕ
odd_part_of n = nat_abs n / 2 ^ shift_of n

pub data Parts : Type 0 where
  no_odd_part : Parts
  parts : Sign → ℕ → ℕ → Parts

-- the sign, odd part and shift of a coefficient
unfoldable pub parts_of : ℤ → Parts
parts_of n = cond (is_zero n) no_odd_part (parts (sign_of n) (odd_part_of n) (shift_of n))

-- the sign that the field `negative` stands for
abbrev pub sign_if : Bool → Sign
sign_if true = negative
sign_if false = positive

-- what the `Option` of a reduction says: no odd part, or the sign, the odd part and the shift
abbrev pub parts_in : Option Reduction → Parts
parts_in None = no_odd_part
parts_in (Some r) = parts (sign_if r.negative) r.odd_part r.shift

-- p are the parts of n: the contract of `reduce`, and what every claim about it speaks of
pub record ReducedTo (n : ℤ) (p : Parts) : Type 0 where
  pub split : p ≡ parts_of n
