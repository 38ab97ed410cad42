-- A power of 2 by its bits, and a number as a whole one and the rest. Assumes nothing.
use mathlib.Core.Path.{◌≡◌, refl, sym, ap, ◌∙◌, subst}
use mathlib.Core.Bool.{Bool, true, false, not, ◌&&◌, cond}
use Prim.Native.Nat.{ℕ, suc, ◌+◌, ◌-◌, ◌*◌, ◌/◌, ◌%◌, ◌≤◌, ◌<◌, ◌^◌}
use native.Mathlib.Omega.{arith}
use lib.IntN.{ℤ, pos, negsuc}
use lib.Dec.{T, leb, eqb}
use lib.Ieee.{Float, inf, fin, binary64, of_int, of_fields, of_bits, nan_bits, odd, minus, eq, sub}
use borrow.Author.Tests.{le-leb, lt-leb, ne_eqb}
use Rattle.tap.specs.Rounding.{exact, rounded}
use Rattle.tap.specs.Inner.{parted}

-- ---- scaled: 2 ^ k by its bits, a sign of 0, an exponent's field of 1023 + k and digits of 0
abbrev bits : ℕ → ℕ
bits k = (1023 + k) * 2 ^ 52

fields : (k : ℕ) → k ≤ 31 → (leb (2 ^ 63) (bits k) ≡ false) × (bits k % 2 ^ 63 / 2 ^ 52 ≡ suc (1022 + k)) × (bits k % 2 ^ 52 ≡ 0)
fields k h = (lt-leb (2 ^ 63) (bits k) (low k h), field k h, digits k)
  where
    low : (k : ℕ) → k ≤ 31 → bits k < 2 ^ 63
    low k h = omega arith

    field : (k : ℕ) → k ≤ 31 → bits k % 2 ^ 63 / 2 ^ 52 ≡ suc (1022 + k)
    field k h = omega arith

    digits : (k : ℕ) → bits k % 2 ^ 52 ≡ 0
    digits k = omega arith

as_fields : (b : ℕ) → of_bits binary64 b ≡ of_fields binary64 (leb (2 ^ 63) b) (b % 2 ^ 63 / 2 ^ 52) (b % 2 ^ 52)
unfolding of_bits
as_fields b = refl

of_power : (k : ℕ) → k ≤ 31 → of_fields binary64 false (suc (1022 + k)) 0 ≡ fin false 1 (pos k)
unfolding of_fields odd
of_power k h =
    ap (λ (b : Bool). cond b (inf false) (fin false 1 (minus (1022 + k + 52) 1074))) (ne_eqb (suc (1022 + k)) 2047 (other k h))
    ∙ ap (λ (b : Bool). fin false 1 (cond b (pos (1022 + k + 52 - 1074)) (negsuc (1074 - suc (1022 + k + 52))))) (le-leb 1074 (1022 + k + 52) (high k))
    ∙ ap (λ (n : ℕ). fin false 1 (pos n)) (left k)
  where
    other : (k : ℕ) → k ≤ 31 → suc (1022 + k) ≡ 2047 → ⊥
    other k h e = omega arith

    high : (k : ℕ) → 1074 ≤ 1022 + k + 52
    high k = omega arith

    left : (k : ℕ) → 1022 + k + 52 - 1074 ≡ k
    left k = omega arith

pub power_is : (k : ℕ) → k ≤ 31 → of_bits binary64 (bits k) ≡ fin false 1 (pos k)
power_is k h =
    let f = fields k h in
    as_fields (bits k)
    ∙ ap (λ (s : Bool). of_fields binary64 s (bits k % 2 ^ 63 / 2 ^ 52) (bits k % 2 ^ 52)) f.0
    ∙ ap (λ (x : ℕ). of_fields binary64 false x (bits k % 2 ^ 52)) f.1
    ∙ ap (λ (t : ℕ). of_fields binary64 false (suc (1022 + k)) t) f.2
    ∙ of_power k h

pub power_number : (k : ℕ) → k ≤ 31 → T (not (nan_bits binary64 (bits k)))
unfolding nan_bits
power_number k h =
    let f = fields k h in
    subst (λ (t : ℕ). T (not (eqb (bits k % 2 ^ 63 / 2 ^ 52) 2047 && not (eqb t 0)))) (sym f.2) (no_digits (eqb (bits k % 2 ^ 63 / 2 ^ 52) 2047))
  where
    no_digits : (b : Bool) → T (not (b && false))
    no_digits true = tt
    no_digits false = tt

-- ---- part
parted_is : (x : Float) (z : ℤ) → parted x z ≡ cond (eq x (of_int binary64 z)) (exact z) (rounded z (sub binary64 x (of_int binary64 z)))
unfolding parted
parted_is x z = refl

pub parted_yes : (x : Float) (z : ℤ) → eq x (of_int binary64 z) ≡ true → exact z ≡ parted x z
parted_yes x z h = sym (parted_is x z ∙ ap (λ (b : Bool). cond b (exact z) (rounded z (sub binary64 x (of_int binary64 z)))) h)

pub parted_no : (x : Float) (z : ℤ) → eq x (of_int binary64 z) ≡ false → rounded z (sub binary64 x (of_int binary64 z)) ≡ parted x z
parted_no x z h = sym (parted_is x z ∙ ap (λ (b : Bool). cond b (exact z) (rounded z (sub binary64 x (of_int binary64 z)))) h)
