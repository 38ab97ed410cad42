-- The least weight of whole numbers of any size: what it is, of a sum, of the opposite, of a shifted one. Assumes nothing.
use mathlib.Core.Path.{◌≡◌, refl, ap, ◌∙◌}
use mathlib.Core.List.{◌∷◌}
use Prim.Native.Nat.{ℕ, zero, suc, ◌+◌, ◌*◌, ◌≤◌, ◌^◌}
use native.Mathlib.Nat.{pow-suc}
use native.Mathlib.Omega.{arith}
use lib.IntN.{ℤ, pos, negsuc, neg_ℤ, nat_abs, ◌+ℤ◌, ◌-ℤ◌, ◌*ℤ◌}
use Rattle.signed_digit.specs.Digit.{nought}
use Rattle.signed_digit.specs.String.{DigitString, digit_at}
use Rattle.signed_digit.specs.Value.{value}
use Rattle.signed_digit.specs.Weight.{weight}
use Rattle.signed_digit.specs.Minimal.{Minimal}
use Rattle.signed_digit.specs.Canonical.{Canonical}
use Rattle.signed_digit.specs.CanonicalForm.{canonical_nat, canonical}
use Rattle.signed_digit.proofs.Strings.{bit, negated_is}
use Rattle.signed_digit.proofs.Value.{sum_parts, value_eq}
use Rattle.signed_digit.proofs.Canonical.{canonical_minimal}
use Rattle.signed_digit.proofs.CanonicalForm.{canonical_nat_canonical, canonical_nat_worth}
use Rattle.signed_digit.proofs.Listing.{canonical_form}
use Rattle.least_weight.specs.Logarithm.{least_from, log2up}
use Rattle.least_weight.specs.Weight.{places_for, nat_weight, minimal_weight}
use Rattle.least_weight.proofs.Logarithm.{log_enough}
use Rattle.least_weight.proofs.Addition.{sum}

-- ---- what the least weight is

canonical_weighs : (p : ℕ) (z : ℤ) → weight (canonical p z) ≡ weight (canonical_nat p (nat_abs z))
canonical_weighs p (pos n) = refl
canonical_weighs p (negsuc n) = (negated_is (canonical_nat p (suc n))).weighs

places_enough : (n : ℕ) → 3 * n ≤ 2 * 2 ^ places_for n
places_enough n = omega (arith, log_enough n, pow-suc 2 (log2up n))

-- a minimal string of z that has it
pub record Attained (z : ℤ) : Type 0 where
  pub string : DigitString
  pub minimal : Minimal z string
  pub weighs : weight string ≡ minimal_weight z

pub attained : (z : ℤ) → Attained z
unfolding nat_weight
attained z = record {
  string = canonical (places_for (nat_abs z)) z;
  minimal = (canonical_form (places_for (nat_abs z)) z (places_enough (nat_abs z))).minimal;
  weighs = canonical_weighs (places_for (nat_abs z)) z;
}

-- no string of value z weighs less, and every minimal one weighs as much
pub weight_least : (z : ℤ) (s : DigitString) → value s ≡ z → minimal_weight z ≤ weight s
weight_least z s e = let a = attained z in omega (arith, a.minimal.least s e, a.weighs)

pub weight_is : (z : ℤ) (s : DigitString) → Minimal z s → weight s ≡ minimal_weight z
weight_is z s m = let a = attained z in omega (arith, weight_least z s m.has_value, m.least a.string a.minimal.has_value, a.weighs)

-- the canonical string in any places that are enough
pub weight_in_lem : (p : ℕ) (z : ℤ) → 3 * nat_abs z ≤ 2 * 2 ^ p → weight (canonical p z) ≡ minimal_weight z
weight_in_lem p z l = weight_is z (canonical p z) (canonical_form p z l).minimal

-- ---- sum, opposite, difference

pub weight_sum : (y z : ℤ) → minimal_weight (y +ℤ z) ≤ minimal_weight y + minimal_weight z
weight_sum y z =
    let a = attained y in
    let b = attained z in
    let r = sum a.string b.string nought in
    let p = (value_eq a.string y).0 a.minimal.has_value in
    let q = (value_eq b.string z).0 b.minimal.has_value in
    let v = (value_eq r.string (y +ℤ z)).1 (omega (arith, sum_parts y z)) in
    omega (arith, weight_least (y +ℤ z) r.string v, a.weighs, b.weighs)

pub weight_neg : (z : ℤ) → minimal_weight (neg_ℤ z) ≡ minimal_weight z
weight_neg (pos zero) = refl
weight_neg (pos (suc n)) = refl
weight_neg (negsuc n) = refl

pub weight_difference : (y z : ℤ) → minimal_weight (y -ℤ z) ≤ minimal_weight y + minimal_weight z
weight_difference y z = omega (arith, weight_sum y (neg_ℤ z), weight_neg z)

-- ---- shifts

below_zero : (c : DigitString) → Canonical c → Canonical (nought ∷ c)
below_zero c h zero = omega (arith, bit (digit_at c 0))
below_zero c h (suc i) = h i

weight_double : (n : ℕ) → nat_weight (2 * n) ≡ nat_weight n
unfolding nat_weight
weight_double n =
    let c : DigitString = canonical_nat (places_for n) n in
    let k = below_zero c (canonical_nat_canonical (places_for n) n) in
    let w = canonical_nat_worth (places_for n) n (places_enough n) in
    let v = (value_eq (nought ∷ c) (pos (2 * n))).1 (omega arith) in
    omega (arith, weight_is (pos (2 * n)) (nought ∷ c) (canonical_minimal (pos (2 * n)) (nought ∷ c) k v))

pub weight_power : (s n : ℕ) → nat_weight (2 ^ s * n) ≡ nat_weight n
weight_power zero n = let e : 2 ^ 0 * n ≡ n = omega arith in ap nat_weight e
weight_power (suc s) n =
    let e : 2 ^ suc s * n ≡ 2 * (2 ^ s * n) = omega (arith, ap (λ (x : ℕ). x * n) (pow-suc 2 s)) in
    ap nat_weight e ∙ weight_double (2 ^ s * n) ∙ weight_power s n

pub weight_shift : (s : ℕ) (z : ℤ) → minimal_weight (pos (2 ^ s) *ℤ z) ≡ minimal_weight z
weight_shift s (pos n) = weight_power s n
weight_shift s (negsuc n) = weight_neg (pos (2 ^ s * suc n)) ∙ weight_power s (suc n)

-- ---- of 0 and 1

pub weight_zero : minimal_weight (pos 0) ≡ 0
unfolding nat_weight canonical_nat log2up least_from
weight_zero = refl

pub weight_one : minimal_weight (pos 1) ≡ 1
unfolding nat_weight canonical_nat log2up least_from
weight_one = refl
