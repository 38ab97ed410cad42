-- Rows added digit by digit. Assumes nothing.
use mathlib.Core.Path.{◌≡◌, refl, sym, ap, subst, ◌∙◌}
use mathlib.Core.List.{List, [], ◌∷◌, ◌++◌}
use Prim.Native.Nat.{ℕ, ◌+◌, ◌≤◌}
use native.Mathlib.Omega.{arith}
use lib.ListN.{length, length-append}
use Rattle.refusal.specs.Answer.{nowhere, at_place, place_or}
use Rattle.network.specs.declared.Row.{Row}
use Rattle.build_steps.specs.Search.{row_with}
use Rattle.build_steps.specs.Chain.{add_unless, chain_step, chain_from}
use Rattle.build_steps.proofs.Lookup.{row_joins}
use Rattle.build_index.specs.declared.Rows.{Rows}
use Rattle.build_index.specs.Inner.{IsIndexed, Grown}
use Rattle.build_index.proofs.Values.{length_rows}
use Rattle.build_index.proofs.Growth.{grown_none}
use Rattle.build_chain.specs.declared.Chain.{Chain}
use Rattle.build_chain.specs.declared.Step.{Step}
use Rattle.build_chain.specs.Inner.{rows_in, below, to_come, Reading, IsNext, Reached, Turned}
use Rattle.build_chain.proofs.Longer.{chain_longer}

-- ---- the row of a value
module _ (r : Rows) (row : Row) where
  pub found : (i : ℕ) → IsIndexed r → row_with (rows_in r) row.value ≡ at_place i → Reached r row r i
  unfolding add_unless
  found i ix e =
      let g = grown_none r ix in
      record {
        grown = record { rows_are = sym (ap (λ p. add_unless p (rows_in r) row) e); rest = g.rest; index = g.index; lent = g.lent };
        more = omega arith;
        there = e;
      }

  module _ (e : row_with (rows_in r) row.value ≡ nowhere) where
    pub added : add_unless (row_with (rows_in r) row.value) (rows_in r) row ≡ rows_in r ++ (row ∷ [])
    unfolding add_unless
    added = ap (λ p. add_unless p (rows_in r) row) e

    pub added_length : length (add_unless (row_with (rows_in r) row.value) (rows_in r) row) ≡ r.count + 1
    added_length = ap length added ∙ length-append (rows_in r) (row ∷ []) ∙ omega (arith, length_rows r.table.now r.count)

    pub written : (r' : Rows) → Grown r r' (rows_in r ++ (row ∷ [])) → r'.count ≡ r.count + 1 → Reached r row r' r.count
    written r' g one = record {
      grown = record { rows_are = g.rows_are ∙ sym added; rest = g.rest; index = g.index; lent = g.lent };
      more = omega (arith, one);
      there = ap (λ (r : List Row). row_with r row.value) g.rows_are ∙ row_joins (rows_in r) row.value row refl e ∙ ap at_place (length_rows r.table.now r.count);
    }

-- ---- one digit
abbrev pub row_of : Chain → Step → Row
row_of c step = record { left = c.row; right = 0; shift = step.gap; sign = step.sign; value = step.value }

module _ (r : Rows) (c : Chain) (step : Step) (reading : Reading c (rows_in r)) (n : IsNext c step) where
  abbrev rows : List Row
  rows = rows_in r

  step_is : chain_step rows c.value step.gap step.sign step.value ≡ add_unless (row_with rows step.value) rows (row_of c step)
  unfolding chain_step
  step_is = ap (λ p. add_unless (row_with rows step.value) rows (record { left = place_or 0 p; right = 0; shift = step.gap; sign = step.sign; value = step.value })) reading.row

  rows_are : chain_from (add_unless (row_with rows step.value) rows (row_of c step)) step.value 1 (below c.form step.place) ≡ to_come c rows
  rows_are = ap (λ (x : List Row). chain_from x step.value 1 (below c.form step.place)) (sym step_is) ∙ n.rows rows

  pub step_room : length (add_unless (row_with rows step.value) rows (row_of c step)) ≤ length (to_come c rows)
  step_room = subst (λ (x : List Row). length (add_unless (row_with rows step.value) rows (row_of c step)) ≤ length x) rows_are (chain_longer (add_unless (row_with rows step.value) rows (row_of c step)) step.value 1 (below c.form step.place))

  pub turned : (r' : Rows) (i : ℕ) → Reached r (row_of c step) r' i
      → Turned r c r' (record { form = c.form; row = i; value = step.value; place = step.place; rest = step.rest })
  turned r' i g =
      let d = reading.digits in
      record {
        grown = record { rows_are = refl; rest = g.grown.rest; index = g.grown.index; lent = g.grown.lent };
        more = g.more;
        reading = record {
          digits = record { place_to = omega (arith, n.place_to, d.place_to); rest = n.rest; above = n.above; ends = omega (arith, n.ends, d.ends) };
          row = g.there;
        };
        same = ap (λ (x : List Row). chain_from x step.value 1 (below c.form step.place)) g.grown.rows_are ∙ rows_are;
        less = n.less;
      }
