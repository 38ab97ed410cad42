-- The sums that can be divided by. Assumes nothing.
use mathlib.Core.Path.{◌≡◌, refl, sym, ap, ◌∙◌}
use mathlib.Core.Bool.{Bool, true, false, not, ◌&&◌, ◌||◌, beq, or-true, true≢false, false≢true}
use Prim.Native.Nat.{ℕ, zero, suc, ◌*◌, ◌<◌}
use native.Mathlib.Nat.{zero-mul, mul-pos, zero-lt-suc}
use native.Mathlib.Omega.{arith}
use lib.IntN.{ℤ}
use lib.Dec.{eqb, eqb-suc-zero}
use lib.Ieee.{Float, nan, inf, fin, up, down, ne}
use lib.Ieee.Fits.{up_pos}
use borrow.Author.Tests.{eq-eqb, ne_eqb}
use Rattle.tap.specs.Rounding.{finite}
use Rattle.tap.proofs.Value.{nought}
use Rattle.tap_normalise.specs.Normalised.{unusable}

-- ---- a sum that is not zero
ne_at : (s : Bool) (m : ℕ) (e : ℤ) → ne (fin s m e) nought ≡ not (eqb (m * up e * 1) (0 * 1 * down e) && (beq s false || eqb (m * up e * 1) 0))
unfolding ne
ne_at s m e = refl

both_zero : (s : Bool) (A B : ℕ) → A ≡ 0 → B ≡ 0 → (eqb A B && (beq s false || eqb A 0)) ≡ true
both_zero s A B p q =
    ap (λ (b : Bool). b && (beq s false || eqb A 0)) (eq-eqb A B (p ∙ sym q)) ∙ ap (λ (b : Bool). beq s false || b) (eq-eqb A 0 p) ∙ or-true (beq s false)

one_zero : (s : Bool) (A B : ℕ) → 0 < A → B ≡ 0 → (eqb A B && (beq s false || eqb A 0)) ≡ false
one_zero s A B p q = ap (λ (b : Bool). b && (beq s false || eqb A 0)) (ne_eqb A B (go A B p q))
  where
    go : (A B : ℕ) → 0 < A → B ≡ 0 → A ≡ B → ⊥
    go A B p q r = omega arith

zero_test : (s : Bool) (m : ℕ) (e : ℤ) → ne (fin s m e) nought ≡ not (eqb m 0)
zero_test s zero e = ne_at s 0 e ∙ ap not (both_zero s (0 * up e * 1) (0 * 1 * down e) (ap (λ (k : ℕ). k * 1) (zero-mul (up e))) (zero-mul (down e)))
zero_test s (suc m) e =
    ne_at s (suc m) e
    ∙ ap not (one_zero s (suc m * up e * 1) (0 * 1 * down e) (mul-pos (mul-pos (zero-lt-suc m) (up_pos e)) (zero-lt-suc 0)) (zero-mul (down e)))
    ∙ sym (ap not (eqb-suc-zero m))

pub usable_finite : (x : Float) → finite x ≡ true → ne x nought ≡ not (unusable x)
usable_finite nan h = absurd (false≢true h)
usable_finite (inf s) h = absurd (false≢true h)
usable_finite (fin s m e) h = zero_test s m e

pub usable_never : (x : Float) → finite x ≡ false → false ≡ not (unusable x)
usable_never nan h = refl
usable_never (inf s) h = refl
usable_never (fin s m e) h = absurd (true≢false h)
