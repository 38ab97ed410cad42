-- What holds of the rows that document 01's building steps give, row by row. Assumes nothing.
use mathlib.Core.List.{List}
use mathlib.Core.Logic.{inl, inr}
use Prim.Native.Nat.{ℕ}
use native.Mathlib.Omega.{arith}
use lib.IntN.{ℤ}
use lib.ListN.{take}
use Rattle.network.specs.declared.Row.{Row}
use Rattle.network.specs.Rows.{row_in}
use Rattle.build_steps.specs.Steps.{built_rows}
use Rattle.build_steps.specs.RowSteps.{Made, by_search, by_sum, by_difference, RowValue, LaterBy, first_fit_lem, chain_row, TheRows}
use Rattle.build_steps.specs.CanBuild.{CanBuild}
use Rattle.build_steps.proofs.Lookup.{row_value}
use Rattle.build_steps.proofs.Lawful.{lawful_rule, lawful_value, lawful_distinct, lawful_made}
use Rattle.build_steps.proofs.FirstFit.{fit_is_first}
use Rattle.build_steps.proofs.Passes.{rows_built}

made_later : (rows : List Row) (r : Row) → RowValue r.value → Made rows r → LaterBy rows r
made_later rows r w (by_search e) = first_fit_lem (fit_is_first rows r.value w.odd (omega (arith, w.to)) r e)
made_later rows r w (by_sum v e right sign q) = chain_row (record { right = right; value = inl (sign, rw (row_value rows v r.left e) q) })
made_later rows r w (by_difference v e right sign q) = chain_row (record { right = right; value = inr (sign, rw (row_value rows v r.left e) q) })

pub the_rows : (coefficients : List ℤ) (choices : List ℕ) → CanBuild coefficients choices → TheRows coefficients (built_rows coefficients choices)
the_rows cs ks c =
    let b = rows_built cs ks c in
    let w = b.lawful in
    record {
      rule = lawful_rule w;
      value = lawful_value w;
      distinct = lawful_distinct w;
      later = λ i p l. made_later (take i (built_rows cs ks)) (row_in (built_rows cs ks) i) (lawful_value w i l) (lawful_made w i p l);
      has = b.has;
      few = b.few;
    }
