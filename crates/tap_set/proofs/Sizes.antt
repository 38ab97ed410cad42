-- Floats compared by their magnitudes: -0 is not below zero and keeps its sign, and its size is 0. Assumes nothing.
use mathlib.Core.Path.{◌≡◌, refl, sym, ap, ◌∙◌, subst}
use mathlib.Core.Bool.{Bool, true, false, not, cond, false≢true}
use Prim.Native.Nat.{ℕ, ◌+◌, ◌*◌, ◌≤◌}
use native.Mathlib.Nat.{mul-one, zero-mul, zero-add}
use native.Mathlib.Omega.{arith}
use lib.IntN.{ℤ}
use lib.Dec.{T, ltb, nltb→le}
use lib.Ieee.{Float, nan, inf, fin, up, down, lt, neg}
use borrow.Author.Tests.{le-ltb}
use Rattle.tap.specs.Rounding.{abs_of}
use Rattle.tap.proofs.Value.{nought}
use Rattle.tap_set.specs.Set.{larger_of}
use Rattle.tap_set.specs.Inner.{magnitude_of}

-- ---- `magnitude_of`
magnitude_is : (x : Float) → magnitude_of x ≡ cond (lt x nought) (neg x) x
unfolding magnitude_of
magnitude_is x = refl

pub magnitude_at : (x : Float) (b : Bool) → lt x nought ≡ b → magnitude_of x ≡ cond b (neg x) x
magnitude_at x b h = magnitude_is x ∙ ap (λ (t : Bool). cond t (neg x) x) h

not_below : (a b : ℕ) → b ≡ 0 → ltb a b ≡ false
not_below a b h = le-ltb a b (go a b h)
  where
    go : (a b : ℕ) → b ≡ 0 → b ≤ a
    go a b h = omega arith

positive_is : (m : ℕ) (e : ℤ) → lt (fin false m e) nought ≡ false
unfolding lt
positive_is m e = not_below (m * up e * 1) (0 * 1 * down e) (zero-mul (down e))

neg_is : (m : ℕ) (e : ℤ) → neg (fin true m e) ≡ fin false m e
unfolding neg
neg_is m e = refl

-- the magnitude of a finite float is it but for its sign, which is clear unless the size is 0
magnitude_fin : (s : Bool) (m : ℕ) (e : ℤ) → (t : Bool) × (magnitude_of (fin s m e) ≡ fin t m e) × (lt (fin t m e) nought ≡ false)
magnitude_fin false m e = (false, magnitude_at (fin false m e) false (positive_is m e), positive_is m e)
magnitude_fin true m e = go (lt (fin true m e) nought) refl
  where
    go : (b : Bool) → lt (fin true m e) nought ≡ b → (t : Bool) × (magnitude_of (fin true m e) ≡ fin t m e) × (lt (fin t m e) nought ≡ false)
    go true h = (false, magnitude_at (fin true m e) true h ∙ neg_is m e, positive_is m e)
    go false h = (true, magnitude_at (fin true m e) false h, h)

magnitude_inf : (s : Bool) → magnitude_of (inf s) ≡ inf false
unfolding magnitude_of
magnitude_inf true = refl
magnitude_inf false = refl

magnitude_nan : magnitude_of nan ≡ nan
unfolding magnitude_of
magnitude_nan = refl

-- ---- two values, each not negative or of size 0
-- where the sign is set, the size is 0
abbrev Plain : Bool → ℕ → Type 0
Plain s A = s ≡ true → A ≡ 0

none : (a b : ℕ) → a + b ≤ 0 → a ≡ 0
none a b h = omega arith

unsigned : (s : Bool) (m : ℕ) (e : ℤ) → lt (fin s m e) nought ≡ false → Plain s (m * up e)
unfolding lt
unsigned false m e h p = absurd (false≢true p)
unsigned true m e h p = sym (mul-one (m * up e)) ∙ none (m * up e * 1) (0 * 1 * down e) (nltb→le 0 (m * up e * 1 + 0 * 1 * down e) (subst (λ (b : Bool). T (not b)) (sym h) tt))

of_zero : (x c : ℕ) → x ≡ 0 → x * c ≡ 0
of_zero x c h = ap (λ (k : ℕ). k * c) h ∙ zero-mul c

plain_lt : (s : Bool) (m : ℕ) (e : ℤ) (t : Bool) (n : ℕ) (d : ℤ) → Plain s (m * up e) → Plain t (n * up d) → lt (fin s m e) (fin t n d) ≡ ltb (m * up e * down d) (n * up d * down e)
unfolding lt
plain_lt false m e false n d p q = refl
plain_lt false m e true n d p q = sym (not_below (m * up e * down d) (n * up d * down e) (of_zero (n * up d) (down e) (q refl)))
plain_lt true m e false n d p q =
    let z : m * up e * down d ≡ 0 = of_zero (m * up e) (down d) (p refl) in
    ap (λ (k : ℕ). ltb 0 (k + n * up d * down e)) z ∙ ap (λ (k : ℕ). ltb 0 k) (zero-add (n * up d * down e)) ∙ sym (ap (λ (k : ℕ). ltb k (n * up d * down e)) z)
plain_lt true m e true n d p q =
    not_below (n * up d * down e) (m * up e * down d) (of_zero (m * up e) (down d) (p refl))
    ∙ sym (not_below (m * up e * down d) (n * up d * down e) (of_zero (n * up d) (down e) (q refl)))

clear : (m : ℕ) (e : ℤ) → Plain false (m * up e)
clear m e k = absurd (false≢true k)

-- ---- magnitudes compared are sizes compared, whatever the sign of a zero
with_inf : (y : Float) → lt (inf false) (magnitude_of y) ≡ lt (inf false) (abs_of y)
unfolding lt
with_inf nan = ap (λ (y : Float). lt (inf false) y) magnitude_nan
with_inf (inf t) = ap (λ (y : Float). lt (inf false) y) (magnitude_inf t)
with_inf (fin t n d) = ap (λ (y : Float). lt (inf false) y) (magnitude_fin t n d).1

with_nan : (y z : Float) → lt nan y ≡ lt nan z
unfolding lt
with_nan y z = refl

to_inf : (s t : Bool) (m : ℕ) (e : ℤ) → lt (fin s m e) (inf false) ≡ lt (fin t m e) (inf false)
unfolding lt
to_inf s t m e = refl

to_nan : (s t : Bool) (m : ℕ) (e : ℤ) → lt (fin s m e) nan ≡ lt (fin t m e) nan
unfolding lt
to_nan s t m e = refl

smaller_is : (x y : Float) → lt (magnitude_of x) (magnitude_of y) ≡ lt (abs_of x) (abs_of y)
smaller_is nan y = ap (λ (x : Float). lt x (magnitude_of y)) magnitude_nan ∙ with_nan (magnitude_of y) (abs_of y)
smaller_is (inf s) y = ap (λ (x : Float). lt x (magnitude_of y)) (magnitude_inf s) ∙ with_inf y
smaller_is (fin s m e) nan =
    let u = magnitude_fin s m e in
    ap (λ (x : Float). lt x (magnitude_of nan)) u.1 ∙ ap (λ (y : Float). lt (fin u.0 m e) y) magnitude_nan ∙ to_nan u.0 false m e
smaller_is (fin s m e) (inf t) =
    let u = magnitude_fin s m e in
    ap (λ (x : Float). lt x (magnitude_of (inf t))) u.1 ∙ ap (λ (y : Float). lt (fin u.0 m e) y) (magnitude_inf t) ∙ to_inf u.0 false m e
smaller_is (fin s m e) (fin t n d) =
    let u = magnitude_fin s m e in
    let v = magnitude_fin t n d in
    ap (λ (x : Float). lt x (magnitude_of (fin t n d))) u.1
    ∙ ap (λ (y : Float). lt (fin u.0 m e) y) v.1
    ∙ plain_lt u.0 m e v.0 n d (unsigned u.0 m e u.2) (unsigned v.0 n d v.2)
    ∙ sym (plain_lt false m e false n d (clear m e) (clear n d))

-- ---- of two leftovers the larger
pub larger_is : (x y : Float) → larger_of x y ≡ cond (lt (abs_of x) (abs_of y)) y x
unfolding larger_of
larger_is x y = refl

pub larger_at : (x y : Float) (b : Bool) → lt (magnitude_of x) (magnitude_of y) ≡ b → cond b y x ≡ larger_of x y
larger_at x y b h = sym (larger_is x y ∙ ap (λ (t : Bool). cond t y x) (sym (smaller_is x y) ∙ h))
