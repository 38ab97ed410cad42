-- The lowest place that breaks a rule, in words: `lowest_is` and `is_lowest`, and `is_nowhere` where nothing breaks it. Assumes nothing.
use mathlib.Core.Path.{◌≡◌, refl, ap, ap₂, ◌∙◌}
use mathlib.Core.Bool.{Bool, true, false, cond}
use mathlib.Core.List.{List, [], ◌∷◌}
use Prim.Native.Nat.{ℕ, zero, suc, ◌+◌, ◌<◌, zero-le, suc-le-suc}
use native.Mathlib.Nat.{le_of_suc-le-suc, not-suc-le-zero}
use native.Mathlib.Omega.{arith}
use lib.ListN.{length, get_or}
use borrow.Author.Tests.{lt-ltb}
use Rattle.std.specs.Prelude.{Some, None, not, nat_lt}
use Rattle.std.specs.List.{position, position_or_len}
use Rattle.refusal.specs.Answer.{Place, nowhere, at_place, found_at, lowest_from, lowest}
use Rattle.refusal.specs.Claims.{Lowest}

module _ {A : Type 0} (a : A) (test : A → Bool) where
  lowest_first : (x : A) (xs : List A) → test x ≡ true → Lowest a test (x ∷ xs) 0
  lowest_first x xs t = record { within = suc-le-suc zero-le; holds = t; not_before = λ k l. absurd (not-suc-le-zero l) }

  lowest_next : (x : A) (xs : List A) (i : ℕ) → test x ≡ false → Lowest a test xs i → Lowest a test (x ∷ xs) (suc i)
  lowest_next x xs i t w = record { within = suc-le-suc w.within; holds = w.holds; not_before = before }
    where
      before : (k : ℕ) → k < suc i → test (get_or (x ∷ xs) k a) ≡ false
      before zero l = t
      before (suc k) l = w.not_before k (le_of_suc-le-suc l)

  from_place : (xs : List A) (k j : ℕ) → lowest_from k test xs ≡ at_place j → (i : ℕ) × (j ≡ k + i) × Lowest a test xs i
  unfolding lowest_from
  from_place [] k j e = let z : ◌≡◌ {A = ℕ} 0 1 = cc in absurd (omega arith)
  from_place (x ∷ xs) k j e = go (test x) refl e (from_place xs (suc k) j)
    where
      go : (b : Bool) → test x ≡ b → cond b (at_place k) (lowest_from (suc k) test xs) ≡ at_place j
          → (lowest_from (suc k) test xs ≡ at_place j → (i : ℕ) × (j ≡ suc k + i) × Lowest a test xs i) → (i : ℕ) × (j ≡ k + i) × Lowest a test (x ∷ xs) i
      go true t e ih = let q : k ≡ j = cc in (0, omega arith, lowest_first x xs t)
      go false t e ih = let h = ih e in (suc h.0, omega (arith, h.1), lowest_next x xs h.0 t h.2)

  pub lowest_is : (xs : List A) (j : ℕ) → lowest test xs ≡ at_place j → Lowest a test xs j
  lowest_is xs j e = let h = from_place xs 0 j e in let q : h.0 ≡ j = omega (arith, h.1) in rw q at h.2

  to_place : (xs : List A) (k i : ℕ) → Lowest a test xs i → lowest_from k test xs ≡ at_place (k + i)
  unfolding lowest_from
  to_place [] k i w = absurd (not-suc-le-zero w.within)
  to_place (x ∷ xs) k zero w = rw w.holds (ap at_place (omega arith))
  to_place (x ∷ xs) k (suc i) w =
      rw (w.not_before 0 (suc-le-suc zero-le))
      (to_place xs (suc k) i (record { within = le_of_suc-le-suc w.within; holds = w.holds; not_before = λ m l. w.not_before (suc m) (suc-le-suc l) })
      ∙ ap at_place (omega arith))

  pub is_lowest : (xs : List A) (i : ℕ) → Lowest a test xs i → lowest test xs ≡ at_place i
  is_lowest xs i w = to_place xs 0 i w ∙ ap at_place (omega arith)

  -- where nothing breaks it
  pub is_nowhere : (xs : List A) (k : ℕ) → ((i : ℕ) → i < length xs → test (get_or xs i a) ≡ false) → lowest_from k test xs ≡ nowhere
  unfolding lowest_from
  is_nowhere [] k h = refl
  is_nowhere (x ∷ xs) k h = rw (h 0 (suc-le-suc zero-le)) (is_nowhere xs (suc k) (λ i l. h (suc i) (suc-le-suc l)))

-- the library's word for the same: where the first element that passes stands, if one does
placed : ℕ → ℕ → ℕ → Place
placed k i n = found_at (cond (nat_lt i n) (Some (k + i)) None)

placed_next : (k i n : ℕ) → placed k (1 + i) (suc n) ≡ placed (suc k) i n
unfolding placed
placed_next k i n = ap₂ (λ b j. found_at (cond b (Some j) None)) (grind arith) (omega arith)

found_from : {A : Type 0} (test : A → Bool) (k : ℕ) (xs : List A) → placed k (position_or_len test xs) (length xs) ≡ lowest_from k test xs
unfolding lowest_from placed
found_from test k [] = refl
found_from test k (x ∷ xs) = go (test x) (found_from test (suc k) xs)
  where
    go : (b : Bool) → placed (suc k) (position_or_len test xs) (length xs) ≡ lowest_from (suc k) test xs
        → placed k (cond (not b) (1 + position_or_len test xs) 0) (suc (length xs)) ≡ cond b (at_place k) (lowest_from (suc k) test xs)
    go true h =
        let less : nat_lt 0 (suc (length xs)) ≡ true = lt-ltb _ _ (omega arith) in
        let same : k + 0 ≡ k = omega arith in ap₂ (λ c j. found_at (cond c (Some j) None)) less same
    go false h = placed_next k (position_or_len test xs) (length xs) ∙ h

pub found_position : {A : Type 0} (test : A → Bool) (xs : List A) → found_at (position test xs) ≡ lowest test xs
unfolding placed
found_position test xs = ap (λ i. found_at (cond (nat_lt (position_or_len test xs) (length xs)) (Some i) None)) (omega arith) ∙ found_from test 0 xs
