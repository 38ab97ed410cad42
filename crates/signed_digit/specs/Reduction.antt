-- Document 01: "Reduction: a nonzero coefficient is sign × odd part × 2^shift, the odd part positive."
use Rattle.std.specs.Prelude.{ℕ, ◌%◌, ◌^◌, ◌≡◌, ℤ, pos, neg_ℤ, ◌*ℤ◌}

pub data Sign : Type 0 where
  positive : Sign
  negative : Sign

abbrev pub sign_value : Sign → ℤ
sign_value positive = pos 1
sign_value negative = neg_ℤ (pos 1)

-- the odd part is a natural number, and being odd it is positive
pub record Reduction (n : ℤ) : Type 0 where
  pub sign : Sign
  pub odd_part : ℕ
  pub shift : ℕ
  pub odd : odd_part % 2 ≡ 1
  pub product : n ≡ sign_value sign *ℤ pos odd_part *ℤ pos (2 ^ shift)
