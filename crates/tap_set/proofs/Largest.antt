-- The largest of finite numbers by magnitude, the earliest of equals. Assumes nothing.
use mathlib.Core.Path.{◌≡◌, refl, sym, ap, ◌∙◌, subst}
use mathlib.Core.Logic.{◌⊎◌, inl, inr}
use mathlib.Core.Bool.{Bool, true, false, cond, false≢true}
use mathlib.Core.List.{List, [], ◌∷◌}
use Prim.Native.Nat.{ℕ, zero, suc, ◌*◌, ◌≤◌, ◌<◌, suc-le-suc}
use native.Mathlib.Nat.{le_of_eq, le_of_lt, lt_of_lt_of_le, lt_irrefl, lt_of_not-le, not-suc-le-zero, zero-lt-suc, le_of_suc-le-suc}
use lib.Dec.{ltb}
use lib.ListN.{length, get_or}
use lib.Ieee.{Float, nan, inf, fin, up, down, lt}
use lib.Ieee.Fits.{down_pos}
use lib.Ieee.Positive.{through}
use borrow.Author.Tests.{ltb-true, ltb-false, lt-ltb, le-ltb}
use Rattle.tap.specs.Rounding.{finite, abs_of}
use Rattle.tap_set.specs.Set.{larger_of}
use Rattle.tap_set.proofs.Sizes.{larger_is}

-- the magnitude of a finite number, as a fraction
abbrev top : Float → ℕ
top nan = 0
top (inf s) = 0
top (fin s m e) = m * up e

abbrev bottom : Float → ℕ
bottom nan = 1
bottom (inf s) = 1
bottom (fin s m e) = down e

bottom_pos : (x : Float) → 0 < bottom x
bottom_pos nan = zero-lt-suc 0
bottom_pos (inf s) = zero-lt-suc 0
bottom_pos (fin s m e) = down_pos e

pub record Smaller (x y : Float) : Type 0 where
  pub below : top x * bottom y < top y * bottom x

pub record AtMost (x y : Float) : Type 0 where
  pub up_to : top x * bottom y ≤ top y * bottom x

pub compared : (x y : Float) → finite x ≡ true → finite y ≡ true → lt (abs_of x) (abs_of y) ≡ ltb (top x * bottom y) (top y * bottom x)
unfolding lt
compared nan y h k = absurd (false≢true h)
compared (inf s) y h k = absurd (false≢true h)
compared (fin s m e) nan h k = absurd (false≢true k)
compared (fin s m e) (inf t) h k = absurd (false≢true k)
compared (fin s m e) (fin t n d) h k = refl

-- ---- the order of fractions
pub same : (x : Float) → AtMost x x
same x = record { up_to = le_of_eq refl }

up_from : (x y : Float) → Smaller x y → AtMost x y
up_from x y h = record { up_to = le_of_lt h.below }

along : (x y z : Float) → AtMost x y → AtMost y z → AtMost x z
along x y z h k = record { up_to = through (top x) (top y) (top z) (bottom x) (bottom y) (bottom z) (bottom_pos y) h.up_to k.up_to }

less_then : (x y z : Float) → Smaller x y → AtMost y z → Smaller x z
less_then x y z h k = record {
  below = lt_of_not-le (λ (g : top z * bottom x ≤ top x * bottom z). lt_irrefl (top x * bottom y)
      (lt_of_lt_of_le h.below (through (top y) (top z) (top x) (bottom y) (bottom z) (bottom x) (bottom_pos z) k.up_to g)));
}

then_less : (x y z : Float) → AtMost x y → Smaller y z → Smaller x z
then_less x y z h k = record {
  below = lt_of_not-le (λ (g : top z * bottom x ≤ top x * bottom z). lt_irrefl (top y * bottom z)
      (lt_of_lt_of_le k.below (through (top z) (top x) (top y) (bottom z) (bottom x) (bottom y) (bottom_pos x) g h.up_to)));
}

-- ---- handed on from number to number
module _ (f : Float → Float) where
  unfoldable pub best : Float → List Float → Float
  best l [] = l
  best l (x ∷ xs) = best (larger_of l (f x)) xs

  abbrev pub AllFinite : List Float → Type 0
  AllFinite [] = Unit {0}
  AllFinite (x ∷ xs) = (finite (f x) ≡ true) × AllFinite xs

  pub record First (l : Float) (xs : List Float) (b : Float) : Type 0 where
    pub place : ℕ
    pub within : place < length xs
    pub taken : b ≡ f (get_or xs place nan)
    pub above : Smaller l b
    pub earlier : (j : ℕ) → j < place → Smaller (f (get_or xs j nan)) b

  pub record Best (l : Float) (xs : List Float) (b : Float) : Type 0 where
    pub number : finite b ≡ true
    pub start : AtMost l b
    pub none_larger : (i : ℕ) → i < length xs → AtMost (f (get_or xs i nan)) b
    pub which : (b ≡ l) ⊎ First l xs b

  -- one number more, at the front: b is the best of the rest from y on, and y is l or the number
  grown : (l : Float) (x : Float) (xs : List Float) (b : Float) → Smaller l (f x) → Best (f x) xs b → Best l (x ∷ xs) b
  grown l x xs b s w = record {
    number = w.number;
    start = along l (f x) b (up_from l (f x) s) w.start;
    none_larger = each;
    which = inr (pick w.which);
  }
    where
      each : (i : ℕ) → i < suc (length xs) → AtMost (f (get_or (x ∷ xs) i nan)) b
      each zero h = w.start
      each (suc i) h = w.none_larger i (le_of_suc-le-suc h)

      pick : (b ≡ f x) ⊎ First (f x) xs b → First l (x ∷ xs) b
      pick (inl e) = record {
        place = 0;
        within = zero-lt-suc (length xs);
        taken = e;
        above = subst (Smaller l) (sym e) s;
        earlier = λ j h. absurd (not-suc-le-zero h);
      }
      pick (inr v) = record {
        place = suc v.place;
        within = suc-le-suc v.within;
        taken = v.taken;
        above = less_then l (f x) b s w.start;
        earlier = before;
      }
        where
          before : (j : ℕ) → j < suc v.place → Smaller (f (get_or (x ∷ xs) j nan)) b
          before zero h = v.above
          before (suc j) h = v.earlier j (le_of_suc-le-suc h)

  stayed : (l : Float) (x : Float) (xs : List Float) (b : Float) → AtMost (f x) l → Best l xs b → Best l (x ∷ xs) b
  stayed l x xs b s w = record { number = w.number; start = w.start; none_larger = each; which = pick w.which }
    where
      each : (i : ℕ) → i < suc (length xs) → AtMost (f (get_or (x ∷ xs) i nan)) b
      each zero h = along (f x) l b s w.start
      each (suc i) h = w.none_larger i (le_of_suc-le-suc h)

      pick : (b ≡ l) ⊎ First l xs b → (b ≡ l) ⊎ First l (x ∷ xs) b
      pick (inl e) = inl e
      pick (inr v) = inr (record { place = suc v.place; within = suc-le-suc v.within; taken = v.taken; above = v.above; earlier = before })
        where
          before : (j : ℕ) → j < suc v.place → Smaller (f (get_or (x ∷ xs) j nan)) b
          before zero h = then_less (f x) l b s v.above
          before (suc j) h = v.earlier j (le_of_suc-le-suc h)

  pub best_is : (l : Float) (xs : List Float) → finite l ≡ true → AllFinite xs → Best l xs (best l xs)
  unfolding best
  best_is l [] h a = record { number = h; start = same l; none_larger = λ i k. absurd (not-suc-le-zero k); which = inl refl }
  best_is l (x ∷ xs) h a = go (lt (abs_of l) (abs_of (f x))) refl (best_is (f x) xs a.0 a.1) (best_is l xs h a.1)
    where
      go : (b : Bool) → lt (abs_of l) (abs_of (f x)) ≡ b → Best (f x) xs (best (f x) xs) → Best l xs (best l xs) → Best l (x ∷ xs) (best (larger_of l (f x)) xs)
      go true e v w =
          subst (λ (y : Float). Best l (x ∷ xs) (best y xs)) (sym (larger_is l (f x) ∙ ap (λ (t : Bool). cond t (f x) l) e))
          (grown l x xs (best (f x) xs) (record { below = ltb-true _ _ (sym (compared l (f x) h a.0) ∙ e) }) v)
      go false e v w =
          subst (λ (y : Float). Best l (x ∷ xs) (best y xs)) (sym (larger_is l (f x) ∙ ap (λ (t : Bool). cond t (f x) l) e))
          (stayed l x xs (best l xs) (record { up_to = ltb-false _ _ (sym (compared l (f x) h a.0) ∙ e) }) w)

-- ---- as the test has it
pub smaller_test : (x y : Float) → finite x ≡ true → finite y ≡ true → Smaller x y → lt (abs_of x) (abs_of y) ≡ true
smaller_test x y h k s = compared x y h k ∙ lt-ltb (top x * bottom y) (top y * bottom x) s.below

pub at_most_test : (x y : Float) → finite x ≡ true → finite y ≡ true → AtMost y x → lt (abs_of x) (abs_of y) ≡ false
at_most_test x y h k s = compared x y h k ∙ le-ltb (top x * bottom y) (top y * bottom x) s.up_to
