-- The sieve of the rows before a step, in the table after it. Assumes nothing.
use mathlib.Core.Path.{◌≡◌, sym, ap, subst, ◌∙◌}
use mathlib.Core.List.{List, [], ◌∷◌}
use Prim.Native.Nat.{ℕ, ◌+◌, ◌^◌, ◌≤◌, ◌<◌}
use native.Mathlib.Omega.{arith}
use lib.ListN.{length}
use Rattle.network.specs.declared.Row.{Row}
use Rattle.network.specs.Rows.{rows_of, row_in, first_row_of}
use Rattle.build_steps.specs.Parts.{Part}
use Rattle.build_steps.specs.Steps.{step}
use Rattle.build_steps.specs.RowSteps.{Lawful, row_0}
use Rattle.build_steps.proofs.Lawful.{row_before, lawful_value}
use Rattle.build_steps.proofs.Steps.{step_grows}
use Rattle.build_index.specs.declared.Rows.{Rows}
use Rattle.build_index.specs.Inner.{value_at, Grown}
use Rattle.build_index.proofs.Values.{length_rows, value_in}
use Rattle.build_sieve.specs.Inner.{SieveOf}
use Rattle.build_sieve.proofs.Sieves.{sieve_kept}
use Rattle.build_chain.specs.Inner.{rows_in}
use Rattle.build_part.specs.Inner.{Ready}
use Rattle.build_rows.proofs.Longer.{step_longer}

-- the values of lawful rows
pub values_bounded : (table : List ℕ) (n : ℕ) → Lawful (rows_of table n) → (i : ℕ) → i < n → value_at table i < 2 ^ 31
values_bounded table n w i l = omega (arith, value_in table n i l, (lawful_value w i (omega (arith, length_rows table n))).to)

-- row 0 alone
pub first_bounded : (r r' : Rows) → Grown r r' (first_row_of ∷ []) → (i : ℕ) → i < r'.count → value_at r'.table.now i < 2 ^ 31
first_bounded r r' g = values_bounded r'.table.now r'.count (subst Lawful (sym g.rows_are) row_0)

module _ {r : Rows} {values marks : List ℕ} {most : ℕ} {p : Part} (ready : Ready r values marks most p) {r' : Rows} (g : Grown r r' (step (rows_in r) p)) where
  step_count : length (step (rows_in r) p) ≡ r'.count
  step_count = ap length (sym g.rows_are) ∙ length_rows r'.table.now r'.count

  pub no_fewer : r.count ≤ r'.count
  no_fewer = omega (arith, step_count, step_longer (rows_in r) p, length_rows r.table.now r.count)

  pub room_left : r'.count + 7 ≤ length values
  room_left = omega (arith, step_count, ready.sieve_room)

  same_value : (i : ℕ) → i < r.count → value_at r'.table.now i ≡ value_at r.table.now i
  same_value i l =
      let w = step_grows (rows_in r) p ready.lawful ready.part in
      sym (value_in r'.table.now r'.count i (omega (arith, no_fewer)))
      ∙ ap (λ (rows : List Row). (row_in rows i).value) (g.rows_are ∙ w.is)
      ∙ ap (λ (x : Row). x.value) (row_before (rows_in r) w.more i (omega (arith, length_rows r.table.now r.count)))
      ∙ value_in r.table.now r.count i l

  pub sieve_carried : SieveOf r'.table.now values marks r.count
  sieve_carried = sieve_kept r.table.now r'.table.now values marks r.count same_value ready.sieve

  pub step_bounded : (i : ℕ) → i < r'.count → value_at r'.table.now i < 2 ^ 31
  step_bounded = values_bounded r'.table.now r'.count (subst Lawful (sym g.rows_are) (step_grows (rows_in r) p ready.lawful ready.part).lawful)
