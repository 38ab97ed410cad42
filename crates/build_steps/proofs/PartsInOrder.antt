-- The odd parts to be built: they stand in order, so they are distinct; they are the odd parts of the taps and no others; and each has the choice
-- of the earliest tap with that odd part. Assumes nothing.
use mathlib.Core.Path.{◌≡◌, refl, sym, ap, ◌∙◌, subst}
use mathlib.Core.Bool.{Bool, true, false, cond}
use mathlib.Core.List.Memᴰ
use mathlib.Core.List.{List, [], ◌∷◌, Memᴰ}
use mathlib.Core.Logic.{◌⊎◌, inl, inr, ⊎_elim}
use Prim.Native.Nat.{ℕ, zero, suc, ◌+◌, ◌≤◌, ◌<◌, zero-le, suc-le-suc}
use native.Mathlib.Nat.{le_of_suc-le-suc, not-suc-le-zero}
use native.Mathlib.Omega.{arith}
use borrow.Author.Tests.{eqb-true, eqb-false}
use lib.Dec.{eqb}
use lib.IntN.{ℤ, pos}
use lib.ListN.{length, get_or}
use Rattle.coefficient.specs.Parts.{Parts, no_odd_part, parts, parts_of}
use Rattle.coefficient.proofs.PartsOf.{no_parts, same_parts}
use Rattle.build_steps.specs.Parts.{Part, comes_before, insert, insert_tap, taken_from, parts_to_build}
use Rattle.build_steps.specs.PartOrder.{Before, InOrder, HasOddPart, Earliest, PartsInOrder}
use Rattle.build_steps.proofs.Order.{before_is, before_apart, before_trans, else_before}

-- ---- the statements

-- no part has the value v
abbrev Without : List Part → ℕ → Type 0
Without ps v = (q : Part) → Memᴰ q ps → q.value ≡ v → ⊥

-- a part of value v stands there
abbrev Holds : List Part → ℕ → Type 0
Holds ps v = (q : Part) × Memᴰ q ps × (q.value ≡ v)

-- ---- one part more
record Inserted (p : Part) (ps rs : List Part) : Type 0 where
  ordered : InOrder rs
  old : (q : Part) → Memᴰ q ps → Memᴰ q rs
  new : Holds rs p.value
  only : (q : Part) → Memᴰ q rs → Memᴰ q ps ⊎ ((q ≡ p) × Without ps p.value)
  few : length rs ≤ suc (length ps)

alone : (p : Part) → Inserted p [] (p ∷ [])
alone p = record {
  ordered = (λ q m. absurd (Memᴰ.not-nil m), tt);
  old = λ q m. absurd (Memᴰ.not-nil m);
  new = (p, Memᴰ.head refl, refl);
  only = λ q m. inr (Memᴰ.eq_of_singleton m, λ x k. absurd (Memᴰ.not-nil k));
  few = omega arith;
}

there_already : (p q : Part) (qs : List Part) → InOrder (q ∷ qs) → p.value ≡ q.value → Inserted p (q ∷ qs) (q ∷ qs)
there_already p q qs o e = record { ordered = o; old = λ x m. m; new = (q, Memᴰ.head refl, sym e); only = λ x m. inl m; few = omega arith }

in_front : (p q : Part) (qs : List Part) → InOrder (q ∷ qs) → Before p.value q.value → Inserted p (q ∷ qs) (p ∷ q ∷ qs)
in_front p q qs o b = record {
  ordered = (all, o);
  old = λ x m. Memᴰ.tail m;
  new = (p, Memᴰ.head refl, refl);
  only = λ x m. ⊎_elim (λ e. inr (e, λ y k h. before_apart p.value y.value (all y k) (sym h))) (λ k. inl k) (Memᴰ.cases_cons m);
  few = omega arith;
}
  where
    all : (x : Part) → Memᴰ x (q ∷ qs) → Before p.value x.value
    all x m =
        ⊎_elim (λ e. subst (λ (y : Part). Before p.value y.value) (sym e) b) (λ k. before_trans p.value q.value x.value b (o.0 x k)) (Memᴰ.cases_cons m)

further : (p q : Part) (qs rs : List Part) → InOrder (q ∷ qs) → (p.value ≡ q.value → ⊥) → Before q.value p.value → Inserted p qs rs → Inserted p (q ∷ qs) (q ∷ rs)
further p q qs rs o n b r = record {
  ordered = (λ x m. ⊎_elim (λ k. o.0 x k) (λ h. subst (λ (y : Part). Before q.value y.value) (sym h.0) b) (r.only x m), r.ordered);
  old = λ x m. ⊎_elim (λ e. Memᴰ.head e) (λ k. Memᴰ.tail (r.old x k)) (Memᴰ.cases_cons m);
  new = (r.new.0, Memᴰ.tail r.new.1, r.new.2);
  only = λ x m. ⊎_elim (λ e. inl (Memᴰ.head e)) (λ k. ⊎_elim (λ h. inl (Memᴰ.tail h)) (λ h. inr (h.0, apart h.1)) (r.only x k)) (Memᴰ.cases_cons m);
  few = omega (arith, r.few);
}
  where
    apart : Without qs p.value → Without (q ∷ qs) p.value
    apart f x m e = ⊎_elim (λ h. n (sym e ∙ ap (λ (y : Part). y.value) h)) (λ k. f x k e) (Memᴰ.cases_cons m)

inserted : (p : Part) (ps : List Part) → InOrder ps → Inserted p ps (insert p ps)
unfolding insert
inserted p [] o = alone p
inserted p (q ∷ qs) o = go (eqb p.value q.value) (comes_before p.value q.value) refl refl (inserted p qs o.1)
  where
    go : (x y : Bool) → eqb p.value q.value ≡ x → comes_before p.value q.value ≡ y → Inserted p qs (insert p qs)
        → Inserted p (q ∷ qs) (cond x (q ∷ qs) (cond y (p ∷ q ∷ qs) (q ∷ insert p qs)))
    go true y e b r = there_already p q qs o (eqb-true _ _ e)
    go false true e b r = in_front p q qs o (before_is _ _ b)
    go false false e b r = further p q qs (insert p qs) o (eqb-false _ _ e) (else_before _ _ (eqb-false _ _ e) b) r

-- ---- one tap more
record TapTaken (n : ℤ) (choice : ℕ) (taken rs : List Part) : Type 0 where
  ordered : InOrder rs
  old : (q : Part) → Memᴰ q taken → Memᴰ q rs
  new : (v : ℕ) → HasOddPart n v → Holds rs v
  only : (q : Part) → Memᴰ q rs → Memᴰ q taken ⊎ (HasOddPart n q.value × (choice ≡ q.choice) × Without taken q.value)
  few : length rs ≤ suc (length taken)

tap_taken : (n : ℤ) (choice : ℕ) (taken : List Part) (x : Parts) → InOrder taken → parts_of n ≡ x → TapTaken n choice taken (insert_tap x choice taken)
unfolding insert_tap
tap_taken n choice taken no_odd_part o e = record {
  ordered = o;
  old = λ q m. m;
  new = λ v h. absurd (no_parts h.0 v h.1 (sym e ∙ h.2));
  only = λ q m. inl m;
  few = omega arith;
}
tap_taken n choice taken (parts s u t) o e =
    let p : Part = record { value = u; choice = choice } in
    let r = inserted p taken o in
    record {
      ordered = r.ordered;
      old = r.old;
      new = λ v h. (r.new.0, r.new.1, r.new.2 ∙ (same_parts s h.0 u v t h.1 (sym e ∙ h.2)).1);
      only = λ q m. ⊎_elim (λ k. inl k) (λ k. inr (from q k.0 k.1)) (r.only q m);
      few = r.few;
    }
  where
    from : (q : Part) → q ≡ record { value = u; choice = choice } → Without taken u → HasOddPart n q.value × (choice ≡ q.choice) × Without taken q.value
    from q h f =
        let v_is : q.value ≡ u = ap (λ (y : Part). y.value) h in
        ((s, t, e ∙ ap (λ (v : ℕ). parts s v t) (sym v_is)), sym (ap (λ (y : Part). y.choice) h), λ y m k. f y m (k ∙ v_is))

-- ---- all taps
record Taken (taken : List Part) (cs : List ℤ) (ks : List ℕ) (rs : List Part) : Type 0 where
  ordered : InOrder rs
  old : (q : Part) → Memᴰ q taken → Memᴰ q rs
  every : (i v : ℕ) → i < length cs → HasOddPart (get_or cs i (pos 0)) v → Holds rs v
  only : (q : Part) → Memᴰ q rs → Memᴰ q taken ⊎ (Earliest cs ks q × Without taken q.value)
  few : length rs ≤ length taken + length cs

taken_more : (n : ℤ) (cs : List ℤ) (k : ℕ) (ks : List ℕ) (taken middle rs : List Part) → TapTaken n k taken middle → Taken middle cs ks rs → Taken taken (n ∷ cs) (k ∷ ks) rs
taken_more n cs k ks taken middle rs t r = record {
  ordered = r.ordered;
  old = λ q m. r.old q (t.old q m);
  every = every;
  only = λ q m. ⊎_elim (λ h. ⊎_elim (λ i. inl i) (λ i. inr (here q i.0 i.1, i.2)) (t.only q h)) (λ h. inr (later q h.0 h.1, λ x i. h.1 x (t.old x i))) (r.only q m);
  few = omega (arith, r.few, t.few);
}
  where
    every : (i v : ℕ) → i < suc (length cs) → HasOddPart (get_or (n ∷ cs) i (pos 0)) v → Holds rs v
    every zero v l h = let w = t.new v h in (w.0, r.old w.0 w.1, w.2)
    every (suc i) v l h = r.every i v (le_of_suc-le-suc l) h

    here : (q : Part) → HasOddPart n q.value → k ≡ q.choice → Earliest (n ∷ cs) (k ∷ ks) q
    here q h e = record { tap = 0; within = suc-le-suc zero-le; has = h; choice = e; not_before = λ j l. absurd (not-suc-le-zero l) }

    later : (q : Part) → Earliest cs ks q → Without middle q.value → Earliest (n ∷ cs) (k ∷ ks) q
    later q w f = record { tap = suc w.tap; within = suc-le-suc w.within; has = w.has; choice = w.choice; not_before = not_before }
      where
        not_before : (j : ℕ) → j < suc w.tap → HasOddPart (get_or (n ∷ cs) j (pos 0)) q.value → ⊥
        not_before zero l h = let x = t.new q.value h in f x.0 x.1 x.2
        not_before (suc j) l h = w.not_before j (le_of_suc-le-suc l) h

taken_all : (taken : List Part) (cs : List ℤ) (ks : List ℕ) → InOrder taken → length cs ≤ length ks → Taken taken cs ks (taken_from taken cs ks)
unfolding taken_from
taken_all taken [] ks o l = record { ordered = o; old = λ q m. m; every = λ i v h. absurd (not-suc-le-zero h); only = λ q m. inl m; few = omega arith }
taken_all taken (n ∷ cs) [] o l = absurd (not-suc-le-zero l)
taken_all taken (n ∷ cs) (k ∷ ks) o l =
    let t = tap_taken n k taken (parts_of n) o refl in
    taken_more n cs k ks taken (insert_tap (parts_of n) k taken) _ t (taken_all (insert_tap (parts_of n) k taken) cs ks t.ordered (le_of_suc-le-suc l))

-- ---- the theorem
pub parts_in_order : (coefficients : List ℤ) (choices : List ℕ) → length coefficients ≤ length choices → PartsInOrder coefficients choices (parts_to_build coefficients choices)
parts_in_order cs ks l =
    let t = taken_all [] cs ks tt l in
    record {
      in_order = t.ordered;
      every = t.every;
      earliest = λ p m. ⊎_elim (λ k. absurd (Memᴰ.not-nil k)) (λ h. h.0) (t.only p m);
      few = omega (arith, t.few);
    }
