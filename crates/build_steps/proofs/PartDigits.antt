-- An odd part has a nonzero digit (`odd_least`), and no more of them than a coefficient that has it (`part_light`). Assumes nothing.
use mathlib.Core.Path.{◌≡◌, refl, sym, ap, ap₂, subst, ◌∙◌}
use Prim.Native.Nat.{ℕ, zero, suc, ◌+◌, ◌*◌, ◌/◌, ◌%◌, ◌^◌, ◌≤◌}
use native.Mathlib.Nat.{pow-suc}
use native.Mathlib.Omega.{arith}
use lib.IntN.{ℤ, pos, neg_ℤ, nat_abs}
use lib.Pow.{pow_mono}
use Rattle.word.specs.Bounds.{Coefficient}
use Rattle.word.proofs.Bounds.{coefficient_magnitude}
use Rattle.signed_digit.specs.Digit.{nonzero}
use Rattle.signed_digit.specs.Weight.{weight}
use Rattle.signed_digit.specs.Masks.{minus_bit}
use Rattle.signed_digit.specs.Reduction.{Sign, positive, negative}
use Rattle.signed_digit.specs.CanonicalForm.{lowest_digit, canonical_nat, canonical}
use Rattle.signed_digit.proofs.Strings.{negated_is}
use Rattle.signed_digit.proofs.Canonical.{canonical_minimal}
use Rattle.signed_digit.proofs.CanonicalForm.{canonical_nat_canonical, canonical_value}
use Rattle.build_steps.specs.Parts.{least_weight_of}
use Rattle.build_steps.proofs.Reduced.{Reduced, positive_product, negative_product}

-- ---- zeros at the low end weigh nothing
low_zero : (p m : ℕ) → weight (canonical_nat (suc p) (2 * m)) ≡ weight (canonical_nat p m)
unfolding canonical_nat
low_zero p m = go (2 * m % 4) refl
  where
    go : (r : ℕ) → 2 * m % 4 ≡ r → nonzero (lowest_digit r) + weight (canonical_nat p ((2 * m + minus_bit (lowest_digit r)) / 2)) ≡ weight (canonical_nat p m)
    go zero e = let q : (2 * m + 0) / 2 ≡ m = omega arith in omega (arith, ap (λ (x : ℕ). weight (canonical_nat p x)) q)
    go (suc zero) e = absurd (omega arith)
    go (suc (suc zero)) e = let q : (2 * m + 0) / 2 ≡ m = omega arith in omega (arith, ap (λ (x : ℕ). weight (canonical_nat p x)) q)
    go (suc (suc (suc r))) e = absurd (omega arith)

low_zeros : (k p v : ℕ) → weight (canonical_nat (k + p) (2 ^ k * v)) ≡ weight (canonical_nat p v)
low_zeros zero p v =
    let a : 0 + p ≡ p = omega arith in
    let b : 2 ^ 0 * v ≡ v = omega arith in
    ap₂ (λ (x y : ℕ). weight (canonical_nat x y)) a b
low_zeros (suc k) p v =
    let a : suc k + p ≡ suc (k + p) = omega arith in
    let b : 2 ^ suc k * v ≡ 2 * (2 ^ k * v) = omega (arith, ap (λ (x : ℕ). x * v) (pow-suc 2 k)) in
    ap₂ (λ (x y : ℕ). weight (canonical_nat x y)) a b ∙ low_zero (k + p) (2 ^ k * v) ∙ low_zeros k p v

-- ---- an odd part has a nonzero digit
odd_weighs : (p v : ℕ) → v % 2 ≡ 1 → 1 ≤ weight (canonical_nat (suc p) v)
unfolding canonical_nat
odd_weighs p v o = go (v % 4) refl
  where
    go : (r : ℕ) → v % 4 ≡ r → 1 ≤ nonzero (lowest_digit r) + weight (canonical_nat p ((v + minus_bit (lowest_digit r)) / 2))
    go zero e = absurd (omega arith)
    go (suc zero) e = omega arith
    go (suc (suc zero)) e = absurd (omega arith)
    go (suc (suc (suc r))) e = omega arith

pub odd_least : (v : ℕ) → v % 2 ≡ 1 → 1 ≤ least_weight_of v
unfolding least_weight_of
odd_least v o = odd_weighs 31 v o

-- ---- and no more of them than a coefficient that has it: both are those of one string, of k places more
part_weighs : (v k : ℕ) → 2 ^ k * v ≤ 2 ^ 31 → least_weight_of v ≤ weight (canonical_nat 32 (2 ^ k * v))
unfolding least_weight_of
part_weighs v k h =
    let m : ℕ = 2 ^ k * v in
    let wide : 2 ^ 32 ≤ 2 ^ (k + 32) = pow_mono {i = 32} {j = k + 32} (omega arith) in
    let least = (canonical_minimal (pos m) (canonical_nat (k + 32) m) (canonical_nat_canonical (k + 32) m) (canonical_value (k + 32) (pos m) (omega (arith, wide)))).least in
    omega (arith, low_zeros k 32 v, least (canonical_nat 32 m) (canonical_value 32 (pos m) (omega arith)))

negative_weighs : (m : ℕ) → (nat_abs (neg_ℤ (pos m)) ≡ m) × (weight (canonical 32 (neg_ℤ (pos m))) ≡ weight (canonical_nat 32 m))
negative_weighs zero = (refl, refl)
negative_weighs (suc m) = (refl, (negated_is (canonical_nat 32 (suc m))).weighs)

pub part_light : (s : Sign) (v k : ℕ) (n : ℤ) → Coefficient n → Reduced n s v k → least_weight_of v ≤ weight (canonical 32 n)
part_light positive v k n c r =
    let e : pos (2 ^ k * v) ≡ n = sym (positive_product v k) ∙ r.product in
    subst (λ (z : ℤ). least_weight_of v ≤ weight (canonical 32 z)) e (part_weighs v k (omega (arith, ap nat_abs e, coefficient_magnitude n c)))
part_light negative v k n c r =
    let e : neg_ℤ (pos (2 ^ k * v)) ≡ n = sym (negative_product v k) ∙ r.product in
    subst (λ (z : ℤ). least_weight_of v ≤ weight (canonical 32 z)) e
    (let w = negative_weighs (2 ^ k * v) in omega (arith, w.1, part_weighs v k (omega (arith, ap nat_abs e, w.0, coefficient_magnitude n c))))
