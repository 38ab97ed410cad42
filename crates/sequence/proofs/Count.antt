-- How many elements of a list pass a test: place by place, and under two tests that agree. Assumes nothing.
use mathlib.Core.Path.{◌≡◌, refl, ap₂}
use mathlib.Core.Bool.{Bool, true, false, cond}
use mathlib.Core.List.{List, [], ◌∷◌, map}
use Prim.Native.Nat.{ℕ, zero, suc, ◌+◌, ◌≤◌, ◌<◌}
use native.Mathlib.Omega.{arith}
use lib.ListN.{length, get_or, take}
use Rattle.sequence.specs.Count.{how_many}

module _ {A : Type 0} (test : A → Bool) where
  at_most_1 : (b : Bool) → cond b 1 0 ≤ 1
  at_most_1 true = omega arith
  at_most_1 false = omega arith

  pub count_few : (l : List A) → how_many test l ≤ length l
  unfolding how_many
  count_few [] = omega arith
  count_few (a ∷ l) = omega (arith, at_most_1 (test a), count_few l)

  -- one place more
  pub count_next : (l : List A) (n : ℕ) (d : A) → n < length l → how_many test (take (suc n) l) ≡ how_many test (take n l) + cond (test (get_or l n d)) 1 0
  unfolding how_many
  count_next [] n d h = absurd (omega arith)
  count_next (a ∷ l) zero d h = omega arith
  count_next (a ∷ l) (suc n) d h = omega (arith, count_next l n d (omega arith))

-- the elements of the lists pass alike, place by place
pub count_same : {A B : Type 0} (p : A → Bool) (q : B → Bool) (f : A → B) (l : List A) (d : A) → ((i : ℕ) → i < length l → p (get_or l i d) ≡ q (f (get_or l i d)))
    → how_many p l ≡ how_many q (map f l)
unfolding how_many
count_same p q f [] d h = refl
count_same p q f (a ∷ l) d h = ap₂ (λ (b : Bool) (n : ℕ). cond b 1 0 + n) (h 0 (omega arith)) (count_same p q f l d (λ i b. h (suc i) (omega arith)))
