-- A test that is computed for each number below a bound. Assumes nothing.
use mathlib.Core.Path.{◌≡◌, refl, ap, ◌∙◌}
use mathlib.Core.Bool.{Bool, true, false, ◌&&◌, false≢true}
use Prim.Native.Nat.{ℕ, zero, suc, ◌<◌}
use native.Mathlib.Omega.{arith}
use borrow.Author.Tests.{eqb-true, eqb-false}
use lib.Dec.{eqb}

pub and_true : (a b : Bool) → a && b ≡ true → (a ≡ true) × (b ≡ true)
and_true true b e = (refl, e)
and_true false b e = absurd (false≢true e)

abbrev pub all_below : ℕ → (ℕ → Bool) → Bool
all_below zero f = true
all_below (suc n) f = f n && all_below n f

pub all_at : (n : ℕ) (f : ℕ → Bool) → all_below n f ≡ true → (i : ℕ) → i < n → f i ≡ true
all_at zero f e i h = absurd (omega arith)
all_at (suc n) f e i h = let w = and_true (f n) (all_below n f) e in go (eqb i n) refl w.0 (λ (l : i < n). all_at n f w.1 i l)
  where
    less : (i n : ℕ) → i < suc n → (i ≡ n → ⊥) → i < n
    less i n h d = omega arith

    go : (t : Bool) → eqb i n ≡ t → f n ≡ true → (i < n → f i ≡ true) → f i ≡ true
    go true q last below = ap f (eqb-true i n q) ∙ last
    go false q last below = below (less i n h (eqb-false i n q))
