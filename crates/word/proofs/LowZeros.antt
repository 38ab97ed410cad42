-- A number that is not 0 is an odd one with zeros below it, in one way; and the number of zeros at its low end. Assumes nothing.
use mathlib.Core.Path.{◌≡◌, refl, ap, ◌∙◌}
use Prim.Native.Nat.{ℕ, zero, suc, ◌*◌, ◌≤◌, ◌<◌, ◌/◌, ◌%◌, ◌^◌}
use native.Mathlib.Nat.{lt_of_not-le, mul-one, pow-suc}
use native.Mathlib.Omega.{arith}
use lib.Bits.{shifted_half, shifted_even}
use lib.Count.{count_trailing_zeros}
use lib.Pow.{pow_mono}

-- ---- the odd part
pub record OddPart (m : ℕ) : Type 0 where
  pub part : ℕ
  pub shift : ℕ
  pub odd : part % 2 ≡ 1
  pub product : m ≡ part * 2 ^ shift

-- n bounds m
odd_part_below : (n m : ℕ) → m ≤ n → 1 ≤ m → OddPart m
odd_part_below zero m h p = absurd (omega arith)
odd_part_below (suc n) m h p = go (m % 2) refl (odd_part_below n (m / 2))
  where
    go : (r : ℕ) → m % 2 ≡ r → (m / 2 ≤ n → 1 ≤ m / 2 → OddPart (m / 2)) → OddPart m
    go zero e ih =
        let o = ih (omega arith) (omega arith) in
        let q = ap (λ (x : ℕ). o.part * x) (pow-suc 2 o.shift) in
        record { part = o.part; shift = suc o.shift; odd = o.odd; product = omega (arith, o.product) }
    go (suc zero) e ih = record { part = m; shift = 0; odd = e; product = omega arith }
    go (suc (suc r)) e ih = absurd (omega arith)

pub odd_part : (m : ℕ) → 1 ≤ m → OddPart m
odd_part m p = odd_part_below m m (omega arith) p

pub one_odd_part : (x y i j : ℕ) → x % 2 ≡ 1 → y % 2 ≡ 1 → x * 2 ^ i ≡ y * 2 ^ j → (x ≡ y) × (i ≡ j)
one_odd_part x y zero zero p q e = (omega arith, refl)
one_odd_part x y zero (suc j) p q e = absurd (omega (arith, ap (λ (z : ℕ). y * z) (pow-suc 2 j)))
one_odd_part x y (suc i) zero p q e = absurd (omega (arith, ap (λ (z : ℕ). x * z) (pow-suc 2 i)))
one_odd_part x y (suc i) (suc j) p q e =
    let r = one_odd_part x y i j p q (omega (arith, ap (λ (z : ℕ). x * z) (pow-suc 2 i), ap (λ (z : ℕ). y * z) (pow-suc 2 j))) in
    (r.0, ap suc r.1)

-- neither factor is above the product
pub product_above : (x i : ℕ) → 1 ≤ x → (x ≤ x * 2 ^ i) × (2 ^ i ≤ x * 2 ^ i)
product_above x zero h = omega arith
product_above x (suc i) h = let p = product_above x i h in omega (arith, pow-suc 2 i, ap (λ (y : ℕ). x * y) (pow-suc 2 i))

pub power_above : (i : ℕ) → i < 2 ^ i
power_above zero = omega arith
power_above (suc i) = omega (arith, power_above i, pow-suc 2 i)

pub exponent_below : (i k : ℕ) → 2 ^ i < 2 ^ k → i < k
exponent_below i k h = lt_of_not-le (λ (g : k ≤ i). omega (arith, pow_mono g))

-- ---- the zeros at the low end, k digits being looked at
pub low_zeros : (k x i : ℕ) → x % 2 ≡ 1 → i < k → count_trailing_zeros k (x * 2 ^ i) ≡ i
unfolding count_trailing_zeros
low_zeros zero x i o h = absurd (omega arith)
low_zeros (suc k) x zero o h = rw (mul-one x, o)
low_zeros (suc k) x (suc i) o h = rw (shifted_even x i, shifted_half x i) (ap suc (low_zeros k x i o (omega arith)))

module _ (k x : ℕ) (l : x < 2 ^ k) where
  pub zeros_are : (y i : ℕ) → y % 2 ≡ 1 → x ≡ y * 2 ^ i → count_trailing_zeros k x ≡ i
  zeros_are y i o e = ap (count_trailing_zeros k) e ∙ low_zeros k y i o (exponent_below i k (omega (arith, product_above y i (omega arith))))

  module _ (h : 1 ≤ x) where
    pub zeros_power : 2 ^ count_trailing_zeros k x ≤ x
    zeros_power =
        let o = odd_part x h in
        rw (zeros_are o.part o.shift o.odd o.product) (omega (arith, o.product, product_above o.part o.shift (omega (arith, o.odd))))

    pub zeros_below : count_trailing_zeros k x < k
    zeros_below = exponent_below (count_trailing_zeros k x) k (omega (arith, zeros_power))
