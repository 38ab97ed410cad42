-- What the least weight of a whole number of any size is, in document 01's words, "Digits", and how it behaves; and what the rounded-up logarithm is.
-- Statements only; proofs/Claims.antt proves `LeastWeightClaims`.
use Rattle.std.specs.Prelude.{◌≡◌, ℕ, suc, ◌+◌, ◌*◌, ◌^◌, ◌≤◌, ◌<◌, ℤ, pos, neg_ℤ, nat_abs, ◌+ℤ◌, ◌-ℤ◌, ◌*ℤ◌}
use Rattle.signed_digit.specs.String.{DigitString}
use Rattle.signed_digit.specs.Value.{value}
use Rattle.signed_digit.specs.Weight.{weight}
use Rattle.signed_digit.specs.Minimal.{Minimal}
use Rattle.signed_digit.specs.CanonicalForm.{canonical}
use Rattle.least_weight.specs.Logarithm.{log2up}
use Rattle.least_weight.specs.Weight.{minimal_weight}

pub record LeastWeightClaims : Type 0 where
  -- "no string of that value, of any length, has fewer nonzero digits"; one has as many, and so has every minimal one
  pub none_below : (z : ℤ) (s : DigitString) → value s ≡ z → minimal_weight z ≤ weight s
  pub attained : (z : ℤ) → (s : DigitString) × (Minimal z s) × (weight s ≡ minimal_weight z)
  pub every_minimal : (z : ℤ) (s : DigitString) → Minimal z s → weight s ≡ minimal_weight z
  -- the canonical string has it, in any places that hold that string
  pub in_places : (p : ℕ) (z : ℤ) → 3 * nat_abs z ≤ 2 * 2 ^ p → weight (canonical p z) ≡ minimal_weight z
  -- that of a sum or a difference is at most that of both; the opposite number and the shifted one have the same
  pub of_sum : (y z : ℤ) → minimal_weight (y +ℤ z) ≤ minimal_weight y + minimal_weight z
  pub of_difference : (y z : ℤ) → minimal_weight (y -ℤ z) ≤ minimal_weight y + minimal_weight z
  pub of_opposite : (z : ℤ) → minimal_weight (neg_ℤ z) ≡ minimal_weight z
  pub of_shifted : (s : ℕ) (z : ℤ) → minimal_weight (pos (2 ^ s) *ℤ z) ≡ minimal_weight z
  -- "the rounded-up base-2 logarithm": 2 to it is enough, and no smaller number is; so it is one more than d above 2^d, up to the next power
  pub log_enough : (w : ℕ) → w ≤ 2 ^ log2up w
  pub log_least : (w d : ℕ) → w ≤ 2 ^ d → log2up w ≤ d
  pub log_between : (w d : ℕ) → 2 ^ d < w → w ≤ 2 ^ suc d → log2up w ≡ suc d
