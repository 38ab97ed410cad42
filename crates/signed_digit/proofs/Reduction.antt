-- Every nonzero number is sign × odd part × 2^shift in exactly one way; zero is not. Assumes nothing.
use mathlib.Core.Path.{◌≡◌, refl, ap, sym, ◌∙◌, subst}
use mathlib.Core.Logic.{◌≢◌}
use Prim.Native.Nat.{ℕ, zero, suc, ◌+◌, ◌*◌, ◌≤◌, ◌^◌, ◌%◌}
use native.Mathlib.Nat.{one-mul}
use native.Mathlib.Omega.{arith}
use lib.IntN.{ℤ, pos, negsuc, neg_ℤ, ◌*ℤ◌}
use Rattle.word.proofs.LowZeros.{odd_part, one_odd_part, product_above}
use Rattle.word.proofs.Multiples.{negative_times}
use Rattle.signed_digit.specs.Reduction.{Sign, positive, negative, sign_value, Reduction}
use Rattle.signed_digit.specs.Forms.{positive_part, negative_part}
use Rattle.signed_digit.proofs.Value.{parts_eq, negative_parts}

-- ---- with a sign
abbrev when_positive : Sign → ℕ → ℕ
when_positive positive m = m
when_positive negative m = 0

abbrev when_negative : Sign → ℕ → ℕ
when_negative positive m = 0
when_negative negative m = m

-- n has the sign g and the magnitude m
record Signed (g : Sign) (m : ℕ) (n : ℤ) : Type 0 where
  above : positive_part n ≡ when_positive g m
  under : negative_part n ≡ when_negative g m

product_signed : (g : Sign) (x i : ℕ) → Signed g (x * 2 ^ i) (sign_value g *ℤ pos x *ℤ pos (2 ^ i))
product_signed positive x i = record { above = ap (λ (z : ℕ). z * 2 ^ i) (one-mul x); under = refl }
product_signed negative x i =
    let q = negative_times (pos (2 ^ i)) (pos (1 * x)) ∙ ap (λ (z : ℕ). neg_ℤ (pos (z * 2 ^ i))) (one-mul x) in
    let r = negative_parts (x * 2 ^ i) in
    record { above = ap positive_part q ∙ r.0; under = ap negative_part q ∙ r.1 }

reduced : (g : Sign) (m : ℕ) (n : ℤ) → 1 ≤ m → Signed g m n → Reduction n
reduced g m n h s =
    let o = odd_part m h in
    let p = product_signed g o.part o.shift in
    let q = ap (when_positive g) o.product in
    let r = ap (when_negative g) o.product in
    record {
      sign = g;
      odd_part = o.part;
      shift = o.shift;
      odd = o.odd;
      product = parts_eq n (sign_value g *ℤ pos o.part *ℤ pos (2 ^ o.shift)) (omega arith);
    }

pub reduction : (n : ℤ) → n ≢ pos 0 → Reduction n
reduction (pos zero) h = absurd (h refl)
reduction (pos (suc m)) h = reduced positive (suc m) (pos (suc m)) (omega arith) (record { above = refl; under = refl })
reduction (negsuc m) h = reduced negative (suc m) (negsuc m) (omega arith) (record { above = refl; under = refl })

-- ---- in one way only
signed_of : {n : ℤ} (r : Reduction n) → Signed r.sign (r.odd_part * 2 ^ r.shift) n
signed_of r =
    let p = product_signed r.sign r.odd_part r.shift in
    record { above = ap positive_part r.product ∙ p.above; under = ap negative_part r.product ∙ p.under }

at_least_one : (x i : ℕ) → x % 2 ≡ 1 → 1 ≤ x * 2 ^ i
at_least_one x i h = omega (arith, product_above x i (omega arith))

magnitude : (g : Sign) (m : ℕ) (n : ℤ) → Signed g m n → m ≡ positive_part n + negative_part n
magnitude positive m n s = omega (arith, s.above, s.under)
magnitude negative m n s = omega (arith, s.above, s.under)

same_sign : (g h : Sign) (m : ℕ) (n : ℤ) → 1 ≤ m → Signed g m n → Signed h m n → g ≡ h
same_sign positive positive m n i s t = refl
same_sign negative negative m n i s t = refl
same_sign positive negative m n i s t = absurd (omega (arith, s.above, t.above))
same_sign negative positive m n i s t = absurd (omega (arith, s.above, t.above))

pub reduction_only : (n : ℤ) (r q : Reduction n) → (r.sign ≡ q.sign) × (r.odd_part ≡ q.odd_part) × (r.shift ≡ q.shift)
reduction_only n r q =
    let m : ℕ = r.odd_part * 2 ^ r.shift in
    let e = magnitude r.sign m n (signed_of r) ∙ sym (magnitude q.sign (q.odd_part * 2 ^ q.shift) n (signed_of q)) in
    let s = one_odd_part r.odd_part q.odd_part r.shift q.shift r.odd q.odd e in
    let t = subst (λ (x : ℕ). Signed q.sign x n) (sym e) (signed_of q) in
    (same_sign r.sign q.sign m n (at_least_one r.odd_part r.shift r.odd) (signed_of r) t, s.0, s.1)

-- Document 01: "Zero has no odd part."
pub zero_irreducible : Reduction (pos 0) → ⊥
zero_irreducible r =
    let m = magnitude r.sign (r.odd_part * 2 ^ r.shift) (pos 0) (signed_of r) in
    omega (arith, at_least_one r.odd_part r.shift r.odd)
