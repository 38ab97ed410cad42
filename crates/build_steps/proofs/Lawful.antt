-- Rows that grow one by one, each keeping the row rule over the rows before it and bringing a value that none of them has: then every row keeps
-- the row rule, and no two have one value. Assumes nothing.
use mathlib.Core.Path.{◌≡◌, refl, sym, ap, ◌∙◌, subst}
use mathlib.Core.List.{List, [], ◌∷◌, ◌++◌}
use mathlib.Core.Logic.{◌⊎◌, inl, inr}
use Prim.Native.Nat.{ℕ, zero, suc, ◌+◌, ◌≤◌, ◌<◌, zero-le, suc-le-suc}
use native.Mathlib.Nat.{eq-or-lt_of_le}
use native.Mathlib.Omega.{arith}
use lib.ListN.{length, take, length-append, get_or-append}
use lib.Seq.{get_or_at, take_at, take-append-le}
use Rattle.refusal.specs.Answer.{at_place, lowest_from}
use Rattle.network.specs.declared.Row.{Row}
use Rattle.network.specs.Rows.{row_in, no_row, first_row_of}
use Rattle.network.specs.RowRule.{FirstRow, LaterRow, RowRule}
use Rattle.build_steps.specs.Search.{row_with}
use Rattle.build_steps.specs.RowSteps.{Made, Lawful, row_0, one_more, RowValue}
use Rattle.build_steps.proofs.Lookup.{row_stays, row_joins}

-- ---- a row at the end
length_more : (rows : List Row) (r : Row) → length (rows ++ (r ∷ [])) ≡ length rows + 1
length_more rows r = length-append rows (r ∷ [])

pub row_at_end : (rows : List Row) (r : Row) → row_in (rows ++ (r ∷ [])) (length rows) ≡ r
row_at_end rows r = get_or_at rows r [] no_row (length rows) refl

pub row_before : (rows more : List Row) (i : ℕ) → i < length rows → row_in (rows ++ more) i ≡ row_in rows i
row_before rows more i l = get_or-append rows more no_row i l

-- the last place, or one before it
last_or_before : (rows : List Row) (r : Row) (i : ℕ) → i < length (rows ++ (r ∷ [])) → (i ≡ length rows) ⊎ (i < length rows)
last_or_before rows r i l = eq-or-lt_of_le (let h : i ≤ length rows = omega (arith, length_more rows r) in h)

-- ---- the row rule while rows are added
pub later_more : (rows more : List Row) (i : ℕ) (r : Row) → i ≤ length rows → LaterRow rows i r → LaterRow (rows ++ more) i r
later_more rows more i r l w =
    let x = row_before rows more r.left (omega (arith, w.left)) in
    let y = row_before rows more r.right (omega (arith, w.right)) in
    record {
      left = w.left;
      right = w.right;
      shift_from = w.shift_from;
      shift_to = w.shift_to;
      sign = w.sign;
      worked = rw (x, y) w.worked;
      odd = w.odd;
      value_from = w.value_from;
      value_to = w.value_to;
      bounded = rw x w.bounded;
    }

rule_more : (rows more : List Row) (i : ℕ) → i < length rows → RowRule rows i → RowRule (rows ++ more) i
rule_more rows more zero l w = subst FirstRow (sym (row_before rows more 0 l)) w
rule_more rows more (suc i) l w =
    subst (LaterRow (rows ++ more) (suc i)) (sym (row_before rows more (suc i) l)) (later_more rows more (suc i) (row_in rows (suc i)) (omega arith) w)

later_rule : (rows : List Row) (i : ℕ) → 0 < i → LaterRow rows i (row_in rows i) → RowRule rows i
later_rule rows zero l w = absurd (omega arith)
later_rule rows (suc i) l w = w

-- ---- what holds of lawful rows
pub lawful_some : {rows : List Row} → Lawful rows → 0 < length rows
lawful_some row_0 = suc-le-suc zero-le
lawful_some (one_more {rows} {r} w l n m) = omega (arith, lawful_some w, length_more rows r)

pub lawful_first : {rows : List Row} → Lawful rows → row_in rows 0 ≡ first_row_of
lawful_first row_0 = refl
lawful_first (one_more {rows} {r} w l n m) = row_before rows (r ∷ []) 0 (lawful_some w) ∙ lawful_first w

-- every row keeps the row rule
pub lawful_rule : {rows : List Row} → Lawful rows → (i : ℕ) → i < length rows → RowRule rows i
lawful_rule row_0 zero h = record { left = refl; right = refl; shift = refl; sign = refl; value = refl }
lawful_rule row_0 (suc i) h = absurd (omega arith)
lawful_rule (one_more {rows} {r} w l n m) i h = go (last_or_before rows r i h) (λ k b. lawful_rule w k b)
  where
    go : (i ≡ length rows) ⊎ (i < length rows) → ((k : ℕ) → k < length rows → RowRule rows k) → RowRule (rows ++ (r ∷ [])) i
    go (inr b) ih = rule_more rows (r ∷ []) i b (ih i b)
    go (inl e) ih =
        subst (RowRule (rows ++ (r ∷ []))) (sym e)
        (later_rule (rows ++ (r ∷ [])) (length rows) (lawful_some w)
        (subst (LaterRow (rows ++ (r ∷ [])) (length rows)) (sym (row_at_end rows r)) (later_more rows (r ∷ []) (length rows) r (omega arith) l)))

rule_value : (rows : List Row) (i : ℕ) → RowRule rows i → RowValue (row_in rows i).value
rule_value rows zero w = rw w.value (record { odd = refl; from = omega arith; to = omega arith })
rule_value rows (suc i) w = record { odd = w.odd; from = w.value_from; to = w.value_to }

pub lawful_value : {rows : List Row} → Lawful rows → (i : ℕ) → i < length rows → RowValue (row_in rows i).value
lawful_value {rows} w i h = rule_value rows i (lawful_rule w i h)

-- every row is the one that its value is looked up as
pub lawful_own : {rows : List Row} → Lawful rows → (i : ℕ) → i < length rows → row_with rows (row_in rows i).value ≡ at_place i
unfolding row_with lowest_from
lawful_own row_0 zero h = refl
lawful_own row_0 (suc i) h = absurd (omega arith)
lawful_own (one_more {rows} {r} w l n m) i h = go (last_or_before rows r i h) (λ k b. lawful_own w k b)
  where
    go : (i ≡ length rows) ⊎ (i < length rows) → ((k : ℕ) → k < length rows → row_with rows (row_in rows k).value ≡ at_place k)
        → row_with (rows ++ (r ∷ [])) (row_in (rows ++ (r ∷ [])) i).value ≡ at_place i
    go (inr b) ih = rw (row_before rows (r ∷ []) i b) (row_stays rows (row_in rows i).value (r ∷ []) i (ih i b))
    go (inl e) ih = rw (e, row_at_end rows r) (row_joins rows r.value r refl n)

-- no two rows have one value
pub lawful_distinct : {rows : List Row} → Lawful rows → (i j : ℕ) → i < length rows → j < length rows → (row_in rows i).value ≡ (row_in rows j).value → i ≡ j
lawful_distinct {rows} w i j h k e = same i j (sym (lawful_own w i h) ∙ ap (row_with rows) e ∙ lawful_own w j k)
  where
    same : (i j : ℕ) → at_place i ≡ at_place j → i ≡ j
    same i j e = cc

-- every later row is a first fit over the rows before it, or 2^gap·v ± 1
pub lawful_made : {rows : List Row} → Lawful rows → (i : ℕ) → 0 < i → i < length rows → Made (take i rows) (row_in rows i)
lawful_made row_0 i p h = absurd (omega arith)
lawful_made (one_more {rows} {r} w l n m) i p h = go (last_or_before rows r i h) (λ k a b. lawful_made w k a b)
  where
    go : (i ≡ length rows) ⊎ (i < length rows) → ((k : ℕ) → 0 < k → k < length rows → Made (take k rows) (row_in rows k)) → Made (take i (rows ++ (r ∷ []))) (row_in (rows ++ (r ∷ [])) i)
    go (inr b) ih = rw (row_before rows (r ∷ []) i b, take-append-le i rows (r ∷ []) (omega arith)) (ih i p b)
    go (inl e) ih = rw (e, row_at_end rows r, take_at rows (r ∷ []) (length rows) refl) m
