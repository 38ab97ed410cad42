-- The two masks of a string have no place in common, give the string back, and have its nonzero digits as their ones.
-- Two such masks below 2^p are the masks of a string of p places.
use mathlib.Core.Path.{◌≡◌, refl, ap, ap₂, sym, ◌∙◌}
use mathlib.Core.List.{[], ◌∷◌}
use Prim.Native.Nat.{ℕ, zero, suc, ◌+◌, ◌*◌, ◌<◌, ◌^◌, ◌/◌, ◌%◌, min}
use native.Mathlib.Nat.{pow-suc, zero-div, div-div-eq-div-mul}
use native.Mathlib.Omega.{arith}
use lib.Bits.{bit_and, and_step}
use lib.Count.{ones, ones_step}
use lib.ListN.{length}
use Rattle.signed_digit.specs.Digit.{Digit, one, nought, minus_one}
use Rattle.signed_digit.specs.String.{DigitString, digit_at}
use Rattle.signed_digit.specs.Weight.{weight}
use Rattle.signed_digit.specs.Masks.{mask, plus_bit, minus_bit, plus_mask, minus_mask, digit_of, from_masks}
use Rattle.signed_digit.proofs.Strings.{bit}

-- ---- a number by its lowest bit
pub half_of : (x i : ℕ) → i < 2 → (i + 2 * x) / 2 ≡ x
half_of x i h = omega arith

pub rest_of : (x i : ℕ) → i < 2 → (i + 2 * x) % 2 ≡ i
rest_of x i h = omega arith

pub plus_bit_small : (d : Digit) → plus_bit d < 2
plus_bit_small d = omega (arith, bit d)

pub minus_bit_small : (d : Digit) → minus_bit d < 2
minus_bit_small d = omega (arith, bit d)

-- ---- the masks of a string
mask_bit : (f : Digit → ℕ) → f nought ≡ 0 → ((d : Digit) → f d < 2) → (s : DigitString) (i : ℕ) → mask f s / 2 ^ i % 2 ≡ f (digit_at s i)
mask_bit f z h [] i = ap (λ (x : ℕ). x % 2) (zero-div (2 ^ i)) ∙ sym z
mask_bit f z h (d ∷ s) zero = omega (arith, h d)
mask_bit f z h (d ∷ s) (suc i) =
    let x : ℕ = f d + 2 * mask f s in
    let q : 2 ^ suc i ≡ 2 * 2 ^ i = omega (arith, pow-suc 2 i) in
    let r = ap (λ (y : ℕ). x / y) q ∙ sym (div-div-eq-div-mul x 2 (2 ^ i)) ∙ ap (λ (y : ℕ). y / 2 ^ i) (half_of (mask f s) (f d) (h d)) in
    ap (λ (y : ℕ). y % 2) r ∙ mask_bit f z h s i

-- document 01's "places holding 1 and places holding -1"
pub masks_bits : (s : DigitString) (place : ℕ)
    → (plus_mask s / 2 ^ place % 2 ≡ plus_bit (digit_at s place)) × (minus_mask s / 2 ^ place % 2 ≡ minus_bit (digit_at s place))
masks_bits s place = (mask_bit plus_bit refl plus_bit_small s place, mask_bit minus_bit refl minus_bit_small s place)

pub masks_disjoint : (s : DigitString) → bit_and (plus_mask s) (minus_mask s) ≡ 0
masks_disjoint [] = refl
masks_disjoint (d ∷ s) =
    let u = plus_bit_small d in
    let v = minus_bit_small d in
    let x = ap₂ bit_and (half_of (plus_mask s) (plus_bit d) u) (half_of (minus_mask s) (minus_bit d) v) in
    let y = ap₂ min (rest_of (plus_mask s) (plus_bit d) u) (rest_of (minus_mask s) (minus_bit d) v) in
    omega (arith, masks_disjoint s, bit d, and_step (plus_bit d + 2 * plus_mask s) (minus_bit d + 2 * minus_mask s))

pub ones_bit : (x i : ℕ) → i < 2 → ones (i + 2 * x) ≡ i + ones x
ones_bit x i h = ones_step (i + 2 * x) ∙ ap₂ (λ (u v : ℕ). u + v) (rest_of x i h) (ap ones (half_of x i h))

pub masks_weight : (s : DigitString) → ones (plus_mask s) + ones (minus_mask s) ≡ weight s
unfolding ones
masks_weight [] = refl
masks_weight (d ∷ s) =
    let x = ones_bit (plus_mask s) (plus_bit d) (plus_bit_small d) in
    let y = ones_bit (minus_mask s) (minus_bit d) (minus_bit_small d) in
    omega (arith, masks_weight s, bit d)

digit_of_bits : (d : Digit) → digit_of (plus_bit d) (minus_bit d) ≡ d
digit_of_bits one = refl
digit_of_bits nought = refl
digit_of_bits minus_one = refl

pub masks_string : (s : DigitString) → from_masks (length s) (plus_mask s) (minus_mask s) ≡ s
masks_string [] = refl
masks_string (d ∷ s) =
    let u = plus_bit_small d in
    let v = minus_bit_small d in
    let x = half_of (plus_mask s) (plus_bit d) u in
    let y = half_of (minus_mask s) (minus_bit d) v in
    cc (rest_of (plus_mask s) (plus_bit d) u, rest_of (minus_mask s) (minus_bit d) v, digit_of_bits d, masks_string s)

-- ---- the string of two masks
pub from_masks_places : (p x y : ℕ) → length (from_masks p x y) ≡ p
from_masks_places zero x y = refl
from_masks_places (suc p) x y = ap suc (from_masks_places p (x / 2) (y / 2))

digit_of_plus : (i j : ℕ) → i < 2 → plus_bit (digit_of i j) ≡ i
digit_of_plus zero zero h = refl
digit_of_plus zero (suc j) h = refl
digit_of_plus (suc i) j h = omega arith

digit_of_minus : (i j : ℕ) → j < 2 → min i j ≡ 0 → minus_bit (digit_of i j) ≡ j
digit_of_minus zero zero h e = refl
digit_of_minus zero (suc j) h e = omega arith
digit_of_minus (suc i) j h e = omega arith

pub from_masks_plus : (p x y : ℕ) → x < 2 ^ p → plus_mask (from_masks p x y) ≡ x
from_masks_plus zero x y h = omega arith
from_masks_plus (suc p) x y h = omega (arith, digit_of_plus (x % 2) (y % 2) (omega arith), from_masks_plus p (x / 2) (y / 2) (omega (arith, pow-suc 2 p)))

pub from_masks_minus : (p x y : ℕ) → y < 2 ^ p → bit_and x y ≡ 0 → minus_mask (from_masks p x y) ≡ y
from_masks_minus zero x y h e = omega arith
from_masks_minus (suc p) x y h e =
    let q = and_step x y in
    omega (arith, digit_of_minus (x % 2) (y % 2) (omega arith) (omega arith), from_masks_minus p (x / 2) (y / 2) (omega (arith, pow-suc 2 p)) (omega arith))
