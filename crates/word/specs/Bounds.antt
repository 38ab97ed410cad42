-- Document 01, "Bounds": "coefficients from -2^31 to 2^31 - 1". Definitions only.
use Rattle.std.specs.Prelude.{Bool, ◌&&◌, ◌-◌, ◌^◌, ℤ, pos, neg_ℤ, ◌≤ℤ◌}
use Rattle.std.specs.Int.Signed.{le_z}

abbrev pub least_coefficient : ℤ
least_coefficient = neg_ℤ (pos (2 ^ 31))

abbrev pub greatest_coefficient : ℤ
greatest_coefficient = pos (2 ^ 31 - 1)

pub record Coefficient (n : ℤ) : Type 0 where
  pub from_least : least_coefficient ≤ℤ n
  pub to_greatest : n ≤ℤ greatest_coefficient

-- computed
abbrev pub within_bounds : ℤ → Bool
within_bounds n = le_z least_coefficient n && le_z n greatest_coefficient
