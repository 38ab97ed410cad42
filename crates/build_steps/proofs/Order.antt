-- The order in which odd parts are built, "by least weight, then by smaller value", is strict, and of two odd parts one comes first.
-- Assumes nothing.
use mathlib.Core.Path.{◌≡◌, refl, sym, ap, ◌∙◌}
use mathlib.Core.Bool.{Bool, true, false, ◌&&◌, ◌||◌, true≢false, false≢true}
use Prim.Native.Nat.{ℕ, ◌<◌, ◌≤◌}
use native.Mathlib.Nat.{lt_of_not-le}
use native.Mathlib.Omega.{arith}
use borrow.Author.Tests.{ltb-true, ltb-false, eqb-true, eqb-false, lt-ltb, le-ltb, eq-eqb}
use lib.Dec.{eqb, ltb}
use Rattle.build_steps.specs.Parts.{least_weight_of, comes_before}
use Rattle.build_steps.specs.PartOrder.{Before, lighter, smaller}

pub before_is : (v w : ℕ) → comes_before v w ≡ true → Before v w
unfolding comes_before
before_is v w e = go (ltb (least_weight_of v) (least_weight_of w)) (eqb (least_weight_of v) (least_weight_of w)) (ltb v w) refl refl refl e
  where
    go : (x y z : Bool) → ltb (least_weight_of v) (least_weight_of w) ≡ x → eqb (least_weight_of v) (least_weight_of w) ≡ y → ltb v w ≡ z → (x || y && z) ≡ true → Before v w
    go true y z p q r h = lighter (ltb-true _ _ p)
    go false true true p q r h = smaller (eqb-true _ _ q) (ltb-true _ _ r)
    go false true false p q r h = absurd (false≢true h)
    go false false z p q r h = absurd (false≢true h)

pub is_before : (v w : ℕ) → Before v w → comes_before v w ≡ true
unfolding comes_before
is_before v w (lighter l) = rw (lt-ltb (least_weight_of v) (least_weight_of w) l)
is_before v w (smaller e l) = rw (le-ltb (least_weight_of v) (least_weight_of w) (omega arith), eq-eqb (least_weight_of v) (least_weight_of w) e, lt-ltb v w l)

-- strict
pub before_apart : (v w : ℕ) → Before v w → v ≡ w → ⊥
before_apart v w (lighter l) e = let q = ap least_weight_of e in omega arith
before_apart v w (smaller q l) e = omega arith

pub before_trans : (u v w : ℕ) → Before u v → Before v w → Before u w
before_trans u v w (lighter a) (lighter b) = lighter (omega arith)
before_trans u v w (lighter a) (smaller e b) = lighter (omega arith)
before_trans u v w (smaller d a) (lighter b) = lighter (omega arith)
before_trans u v w (smaller d a) (smaller e b) = smaller (d ∙ e) (omega arith)

-- of two odd parts one comes first
pub else_before : (v w : ℕ) → (v ≡ w → ⊥) → comes_before v w ≡ false → Before w v
unfolding comes_before
else_before v w n e = go (ltb (least_weight_of v) (least_weight_of w)) (eqb (least_weight_of v) (least_weight_of w)) (ltb v w) refl refl refl e
  where
    apart : (a b : ℕ) → b ≤ a → (a ≡ b → ⊥) → b < a
    apart a b l n = lt_of_not-le (λ (m : a ≤ b). n (omega arith))

    go : (x y z : Bool) → ltb (least_weight_of v) (least_weight_of w) ≡ x → eqb (least_weight_of v) (least_weight_of w) ≡ y → ltb v w ≡ z → (x || y && z) ≡ false → Before w v
    go true y z p q r h = absurd (true≢false h)
    go false true true p q r h = absurd (true≢false h)
    go false true false p q r h = smaller (sym (eqb-true _ _ q)) (apart v w (ltb-false _ _ r) n)
    go false false z p q r h = lighter (apart (least_weight_of v) (least_weight_of w) (ltb-false _ _ p) (eqb-false _ _ q))
