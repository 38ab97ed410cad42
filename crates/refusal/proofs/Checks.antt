-- Laws on the checks of specs/Answer.antt. Assumes nothing.
use mathlib.Core.Path.{◌≡◌, refl, sym, ap, ◌∙◌}
use mathlib.Core.Bool.{Bool, true, false, cond, ◌||◌, true≢false, false≢true}
use mathlib.Core.List.{List, [], ◌∷◌}
use Prim.Native.Nat.{ℕ, zero, suc, ◌+◌, ◌≤◌, ◌<◌}
use native.Mathlib.Nat.{le_of_suc-le-suc, not-suc-le-zero}
use native.Mathlib.Numerals.{add-one}
use native.Mathlib.Omega.{arith}
use lib.ListN.{length, drop, get_or, drop_of_length-le}
use lib.Seq.{drop-cons}
use Rattle.refusal.specs.Answer.{Answer, given, refused, refuse_if, refuse_at, Place, nowhere, at_place, lowest_from, lowest, place_or}

-- an answer that is given has one result, and is no refusal
pub given_same : {A : Type 0} (a b : A) → given a ≡ given b → a ≡ b
given_same a b e = cc

pub given_refused : {A C : Type 0} (a : A) (number place : ℕ) → given a ≡ refused number place → C
given_refused a number place e = let z : ◌≡◌ {A = ℕ} 0 1 = cc in absurd (omega arith)

-- two tests of one check: neither applies
pub neither : (a b : Bool) → (a || b) ≡ false → (a ≡ false) × (b ≡ false)
neither true b e = absurd (true≢false e)
neither false b e = (refl, e)

-- one of them does
pub either : {C : Type 0} (a b : Bool) → (a || b) ≡ true → (a ≡ true → C) → (b ≡ true → C) → C
either true b e f g = f refl
either false b e f g = g e

-- a check that applies, and one that does not
pub check_applies : {A : Type 0} (b : Bool) (number : ℕ) (rest : Answer A) → b ≡ true → refuse_if b number rest ≡ refused number 0
check_applies true number rest h = refl
check_applies false number rest h = absurd (false≢true h)

pub check_passes : {A : Type 0} (b : Bool) (number : ℕ) (rest : Answer A) → b ≡ false → refuse_if b number rest ≡ rest
check_passes true number rest h = absurd (true≢false h)
check_passes false number rest h = refl

-- an answer that is given has passed the check
pub given_if : {A : Type 0} (b : Bool) (number : ℕ) (rest : Answer A) (a : A) → refuse_if b number rest ≡ given a → (b ≡ false) × (rest ≡ given a)
given_if true number rest a h = let z : ◌≡◌ {A = ℕ} 0 1 = cc in absurd (omega arith)
given_if false number rest a h = (refl, h)

pub given_at : {A : Type 0} (p : Place) (number : ℕ) (rest : Answer A) (a : A) → refuse_at p number rest ≡ given a → (p ≡ nowhere) × (rest ≡ given a)
given_at nowhere number rest a h = (refl, h)
given_at (at_place k) number rest a h = let z : ◌≡◌ {A = ℕ} 0 1 = cc in absurd (omega arith)

-- a refusal: the check applied, or it passed and what comes after it refuses
pub refused_if : {A C : Type 0} (b : Bool) (n : ℕ) (rest : Answer A) (number place : ℕ) → refuse_if b n rest ≡ refused number place
    → (b ≡ true → number ≡ n → place ≡ 0 → C) → (b ≡ false → rest ≡ refused number place → C) → C
refused_if true n rest number place e applied passed = applied refl (let q : n ≡ number = cc in sym q) (let q : ◌≡◌ {A = ℕ} 0 place = cc in sym q)
refused_if false n rest number place e applied passed = passed refl e

pub refused_at : {A C : Type 0} (p : Place) (n : ℕ) (rest : Answer A) (number place : ℕ) → refuse_at p n rest ≡ refused number place
    → (p ≡ at_place place → number ≡ n → C) → (p ≡ nowhere → rest ≡ refused number place → C) → C
refused_at nowhere n rest number place e applied passed = passed refl e
refused_at (at_place k) n rest number place e applied passed = applied (let q : k ≡ place = cc in ap at_place q) (let q : n ≡ number = cc in sym q)

-- ---- the lowest place that breaks a rule, looked for from place i on
module _ {A : Type 0} (a : A) (breaks : A → Bool) (xs : List A) (i : ℕ) where
  opened : i < length xs → lowest_from i breaks (drop i xs) ≡ cond (breaks (get_or xs i a)) (at_place i) (lowest_from (suc i) breaks (drop (suc i) xs))
  unfolding lowest_from
  opened h = ap (λ (l : List A). lowest_from i breaks l) (drop-cons xs i a h)

  pub lowest_here : i < length xs → breaks (get_or xs i a) ≡ true → lowest_from i breaks (drop i xs) ≡ at_place i
  lowest_here h b = opened h ∙ ap (λ (t : Bool). cond t (at_place i) (lowest_from (suc i) breaks (drop (suc i) xs))) b

  pub lowest_later : i < length xs → breaks (get_or xs i a) ≡ false → lowest_from i breaks (drop i xs) ≡ lowest_from (i + 1) breaks (drop (i + 1) xs)
  lowest_later h b =
      opened h
      ∙ ap (λ (t : Bool). cond t (at_place i) (lowest_from (suc i) breaks (drop (suc i) xs))) b
      ∙ ap (λ (k : ℕ). lowest_from k breaks (drop k xs)) (sym (add-one i))

  pub lowest_none : length xs ≤ i → lowest_from i breaks (drop i xs) ≡ nowhere
  unfolding lowest_from
  lowest_none h = ap (λ (l : List A). lowest_from i breaks l) (drop_of_length-le xs h)

-- a place that breaks the rule lies within the list
pub lowest_within : {A : Type 0} (breaks : A → Bool) (k j : ℕ) (xs : List A) → lowest_from k breaks xs ≡ at_place j → (k ≤ j) × (j < k + length xs)
unfolding lowest_from
lowest_within breaks k j [] h = let z : ◌≡◌ {A = ℕ} 0 1 = cc in absurd (omega arith)
lowest_within breaks k j (x ∷ xs) h = go (breaks x) h (lowest_within breaks (suc k) j xs)
  where
    here : (k j n : ℕ) → k ≡ j → (k ≤ j) × (j < k + suc n)
    here k j n e = omega arith

    later : (k j n : ℕ) → suc k ≤ j → j < suc k + n → (k ≤ j) × (j < k + suc n)
    later k j n h l = omega arith

    go : (b : Bool) → cond b (at_place k) (lowest_from (suc k) breaks xs) ≡ at_place j
        → (lowest_from (suc k) breaks xs ≡ at_place j → (suc k ≤ j) × (j < suc k + length xs)) → (k ≤ j) × (j < k + suc (length xs))
    go true e w = here k j (length xs) cc
    go false e w = later k j (length xs) (w e).0 (w e).1

-- where nothing breaks the rule, no element does
pub lowest_all : {A : Type 0} (breaks : A → Bool) (k : ℕ) (x : A) (xs : List A) → lowest_from k breaks (x ∷ xs) ≡ nowhere → (breaks x ≡ false) × (lowest_from (suc k) breaks xs ≡ nowhere)
unfolding lowest_from
lowest_all breaks k x xs h = go (breaks x) refl h
  where
    go : (b : Bool) → breaks x ≡ b → cond b (at_place k) (lowest_from (suc k) breaks xs) ≡ nowhere → (breaks x ≡ false) × (lowest_from (suc k) breaks xs ≡ nowhere)
    go true e h = let z : ◌≡◌ {A = ℕ} 0 1 = cc in absurd (omega arith)
    go false e h = (e, h)

-- two rules that agree on every element are broken at the same place
pub lowest_alike : {A : Type 0} (p q : A → Bool) (k : ℕ) (x : A) (xs : List A) → p x ≡ q x → lowest_from (suc k) p xs ≡ lowest_from (suc k) q xs → lowest_from k p (x ∷ xs) ≡ lowest_from k q (x ∷ xs)
unfolding lowest_from
lowest_alike p q k x xs e r =
    ap (λ (b : Bool). cond b (at_place k) (lowest_from (suc k) p xs)) e ∙ ap (λ (w : Place). cond (q x) (at_place k) w) r

pub lowest_none_at : {A : Type 0} (a : A) (breaks : A → Bool) (k : ℕ) (xs : List A) (i : ℕ) → lowest_from k breaks xs ≡ nowhere → i < length xs → breaks (get_or xs i a) ≡ false
lowest_none_at a breaks k [] i h l = absurd (not-suc-le-zero l)
lowest_none_at a breaks k (x ∷ xs) zero h l = (lowest_all breaks k x xs h).0
lowest_none_at a breaks k (x ∷ xs) (suc i) h l = lowest_none_at a breaks (suc k) xs i (lowest_all breaks k x xs h).1 (le_of_suc-le-suc l)

-- ---- the place that a scan found, or that it found none
module _ {A : Type 0} (breaks : A → Bool) (xs : List A) (i n : ℕ) (e : i ≡ place_or (length xs) (lowest breaks xs)) (s : length xs ≡ n) where
  pub found : i < n → lowest breaks xs ≡ at_place i
  found h = go (lowest breaks xs) e
    where
      go : (p : Place) → i ≡ place_or (length xs) p → p ≡ at_place i
      go nowhere q = absurd (same i (length xs) n q s h)
        where
          same : (i l n : ℕ) → i ≡ l → l ≡ n → i < n → ⊥
          same i l n p q h = omega arith
      go (at_place k) q = ap at_place (sym q)

  pub found_none : n ≤ i → lowest breaks xs ≡ nowhere
  found_none h = go (lowest breaks xs) refl e
    where
      go : (p : Place) → lowest breaks xs ≡ p → i ≡ place_or (length xs) p → p ≡ nowhere
      go nowhere w q = refl
      go (at_place k) w q = absurd (past i k (length xs) n q s (lowest_within breaks 0 k xs w).1 h)
        where
          past : (i k l n : ℕ) → i ≡ k → l ≡ n → k < 0 + l → n ≤ i → ⊥
          past i k l n p q r h = omega arith
