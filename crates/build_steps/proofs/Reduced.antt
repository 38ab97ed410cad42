-- What a coefficient's parts tell: a 32-bit coefficient is sign × odd part × 2^shift, with an odd part below 2^31 and a shift of at most 31.
-- Assumes nothing.
use mathlib.Core.Path.{◌≡◌, sym, ap, ◌∙◌}
use Prim.Native.Nat.{ℕ, ◌*◌, ◌%◌, ◌^◌, ◌≤◌, ◌<◌}
use native.Mathlib.Omega.{arith}
use lib.IntN.{ℤ, pos, neg_ℤ, ◌*ℤ◌}
use Rattle.word.specs.Bounds.{Coefficient}
use Rattle.signed_digit.specs.Reduction.{Sign, positive, negative, sign_value, Reduction}
use Rattle.word.proofs.Bounds.{coefficient_magnitude}
use Rattle.word.proofs.Multiples.{negative_times}
use Rattle.signed_digit.proofs.Reduction.{reduction}
use Rattle.coefficient.specs.Parts.{parts, parts_of}
use Rattle.coefficient.proofs.PartsOf.{same_parts, not_zero, reduction_parts, reduction_bounds}

pub record Reduced (n : ℤ) (s : Sign) (v t : ℕ) : Type 0 where
  pub odd : v % 2 ≡ 1
  pub below : v < 2 ^ 31
  pub shift_to : t ≤ 31
  pub product : sign_value s *ℤ pos v *ℤ pos (2 ^ t) ≡ n

by_reduction : (n : ℤ) (s : Sign) (v t : ℕ) → Coefficient n → parts_of n ≡ parts s v t → Reduction n → Reduced n s v t
by_reduction n s v t c e r =
    let q = same_parts s r.sign v r.odd_part t r.shift (sym e ∙ reduction_parts n r) in
    let b = reduction_bounds n r (coefficient_magnitude n c) in
    record {
      odd = rw q.1 r.odd;
      below = omega (arith, q.1, b.0);
      shift_to = omega (arith, q.2, b.1);
      product = rw (q.0, q.1, q.2) (sym r.product);
    }

pub parts_reduced : (n : ℤ) (s : Sign) (v t : ℕ) → Coefficient n → parts_of n ≡ parts s v t → Reduced n s v t
parts_reduced n s v t c e = by_reduction n s v t c e (reduction n (not_zero n s v t e))

-- ---- the product as tap rows have it
pub positive_product : (v t : ℕ) → sign_value positive *ℤ pos v *ℤ pos (2 ^ t) ≡ pos (2 ^ t * v)
positive_product v t = ap pos (omega arith)

pub negative_product : (v t : ℕ) → sign_value negative *ℤ pos v *ℤ pos (2 ^ t) ≡ neg_ℤ (pos (2 ^ t * v))
negative_product v t = let q : 1 * v * 2 ^ t ≡ 2 ^ t * v = omega arith in negative_times (pos (2 ^ t)) (pos (1 * v)) ∙ ap (λ (m : ℕ). neg_ℤ (pos m)) q
