-- What `reduce` answers is the reduction of n in the sense of signed_digit, and there is no other. Assumes nothing.
use mathlib.Core.Path.{◌≡◌, refl, sym, ap, ◌∙◌}
use Prim.Native.Nat.{ℕ, ◌%◌, ◌^◌}
use native.Mathlib.Omega.{arith}
use lib.IntN.{ℤ, pos, ◌*ℤ◌}
use Rattle.signed_digit.specs.Reduction.{Sign, sign_value, Reduction}
use Rattle.word.proofs.Bounds.{coefficient_magnitude}
use Rattle.signed_digit.proofs.Reduction.{reduction}
use Rattle.coefficient.specs.Parts.{Parts, no_odd_part, parts, parts_of, ReducedTo}
use Rattle.coefficient.specs.Claims.{TheReduction, Right}
use Rattle.coefficient.proofs.PartsOf.{same_parts, zero_parts, not_zero, reduction_parts, reduction_bounds}

-- the parts of sign × odd part × 2^shift are these
pub product_parts : (s : Sign) (x i : ℕ) → x % 2 ≡ 1 → parts_of (sign_value s *ℤ pos x *ℤ pos (2 ^ i)) ≡ parts s x i
product_parts s x i o = reduction_parts _ (record { sign = s; odd_part = x; shift = i; odd = o; product = refl })

module _ (n : ℤ) (r : Reduction n) (s : Sign) (x i : ℕ) (e : parts s x i ≡ parts_of n) where
  same : (q : Reduction n) → (q.sign ≡ s) × (q.odd_part ≡ x) × (q.shift ≡ i)
  same q = same_parts q.sign s q.odd_part x q.shift i (sym (e ∙ reduction_parts n q))

  the_reduction : TheReduction n s x i
  the_reduction =
      let p = same r in
      record {
        product = rw (sym p.0, sym p.1, sym p.2) (sym r.product);
        odd = sym (ap (λ (y : ℕ). y % 2) p.1) ∙ r.odd;
        above_zero = omega (arith, p.1, r.odd);
        only = same;
        bounds = λ c. (let b = reduction_bounds n r (coefficient_magnitude n c) in omega (arith, p.1, p.2));
      }

-- an answer that meets the contract of `reduce` is right
pub answer_right : (n : ℤ) (p : Parts) → ReducedTo n p → Right p n
answer_right n no_odd_part e = zero_parts n (sym e.split)
answer_right n (parts s x i) e = the_reduction n (reduction n (not_zero n s x i (sym e.split))) s x i e.split
