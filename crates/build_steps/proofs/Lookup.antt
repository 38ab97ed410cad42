-- The row that has a value: what a look-up tells, what tells its answer, and that an answer stays while rows are added. Assumes nothing.
use mathlib.Core.Path.{◌≡◌, ap, ◌∙◌}
use mathlib.Core.Bool.{Bool, true, false, cond}
use mathlib.Core.List.{List, [], ◌∷◌, ◌++◌}
use Prim.Native.Nat.{ℕ, suc, ◌+◌, ◌<◌}
use native.Mathlib.Omega.{arith}
use borrow.Author.Tests.{eqb-true, eqb-false, eq-eqb, ne_eqb}
use lib.Dec.{eqb}
use lib.ListN.{length}
use Rattle.refusal.specs.Answer.{nowhere, at_place, lowest_from}
use Rattle.refusal.proofs.Checks.{lowest_none_at}
use Rattle.refusal.proofs.Lowest.{lowest_is, is_lowest, is_nowhere}
use Rattle.network.specs.declared.Row.{Row}
use Rattle.network.specs.Rows.{row_in, no_row}
use Rattle.build_steps.specs.Search.{row_with}

-- ---- elements added at the end
module _ {A : Type 0} (test : A → Bool) where
  stays : (xs ys : List A) (k j : ℕ) → lowest_from k test xs ≡ at_place j → lowest_from k test (xs ++ ys) ≡ at_place j
  unfolding lowest_from
  stays [] ys k j e = let z : ◌≡◌ {A = ℕ} 0 1 = cc in absurd (omega arith)
  stays (x ∷ xs) ys k j e = go (test x) e (stays xs ys (suc k) j)
    where
      go : (b : Bool) → cond b (at_place k) (lowest_from (suc k) test xs) ≡ at_place j
          → (lowest_from (suc k) test xs ≡ at_place j → lowest_from (suc k) test (xs ++ ys) ≡ at_place j) → cond b (at_place k) (lowest_from (suc k) test (xs ++ ys)) ≡ at_place j
      go true e ih = e
      go false e ih = ih e

  joins : (xs : List A) (x : A) (k : ℕ) → lowest_from k test xs ≡ nowhere → test x ≡ true → lowest_from k test (xs ++ (x ∷ [])) ≡ at_place (k + length xs)
  unfolding lowest_from
  joins [] x k e t = rw t (ap at_place (omega arith))
  joins (y ∷ xs) x k e t = go (test y) e (λ h. joins xs x (suc k) h t)
    where
      go : (b : Bool) → cond b (at_place k) (lowest_from (suc k) test xs) ≡ nowhere
          → (lowest_from (suc k) test xs ≡ nowhere → lowest_from (suc k) test (xs ++ (x ∷ [])) ≡ at_place (suc k + length xs))
          → cond b (at_place k) (lowest_from (suc k) test (xs ++ (x ∷ []))) ≡ at_place (k + suc (length xs))
      go true e ih = let z : ◌≡◌ {A = ℕ} 0 1 = cc in absurd (omega arith)
      go false e ih = ih e ∙ ap at_place (omega arith)

-- ---- rows by their value
module _ (rows : List Row) (v : ℕ) where
  pub row_within : (i : ℕ) → row_with rows v ≡ at_place i → i < length rows
  unfolding row_with
  row_within i e = (lowest_is no_row (λ (r : Row). eqb r.value v) rows i e).within

  pub row_value : (i : ℕ) → row_with rows v ≡ at_place i → (row_in rows i).value ≡ v
  unfolding row_with
  row_value i e = eqb-true _ _ (lowest_is no_row (λ (r : Row). eqb r.value v) rows i e).holds

  pub row_absent : row_with rows v ≡ nowhere → (i : ℕ) → i < length rows → (row_in rows i).value ≡ v → ⊥
  unfolding row_with
  row_absent e i l = eqb-false _ _ (lowest_none_at no_row (λ (r : Row). eqb r.value v) 0 rows i e l)

  -- a row of this value, and none before it
  pub row_is : (i : ℕ) → i < length rows → (row_in rows i).value ≡ v → ((k : ℕ) → k < i → (row_in rows k).value ≡ v → ⊥) → row_with rows v ≡ at_place i
  unfolding row_with
  row_is i l e f =
      is_lowest no_row (λ (r : Row). eqb r.value v) rows i
      (record { within = l; holds = eq-eqb _ _ e; not_before = λ k m. ne_eqb _ _ (f k m) })

  pub row_none : ((i : ℕ) → i < length rows → (row_in rows i).value ≡ v → ⊥) → row_with rows v ≡ nowhere
  unfolding row_with
  row_none f = is_nowhere no_row (λ (r : Row). eqb r.value v) rows 0 (λ i l. ne_eqb _ _ (f i l))

  -- rows that are added leave it
  pub row_stays : (more : List Row) (i : ℕ) → row_with rows v ≡ at_place i → row_with (rows ++ more) v ≡ at_place i
  unfolding row_with
  row_stays more i e = stays (λ (r : Row). eqb r.value v) rows more 0 i e

  -- a row that is added is the row of its value
  pub row_joins : (r : Row) → r.value ≡ v → row_with rows v ≡ nowhere → row_with (rows ++ (r ∷ [])) v ≡ at_place (length rows)
  unfolding row_with
  row_joins r e n = joins (λ (q : Row). eqb q.value v) rows r 0 n (eq-eqb _ _ e) ∙ ap at_place (omega arith)
