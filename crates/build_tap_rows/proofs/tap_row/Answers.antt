-- `build_tap_rows::tap_row` meets its contract. Assumes nothing.
use mathlib.Core.Path.{◌≡◌, sym, ap, ap₂, ◌∙◌}
use Prim.Native.Nat.{ℕ}
use mir.Syntax.{w32}
use mir.ValLaws.{to_z-of_z}
use Rattle.coefficient.specs.Parts.{parts_of, parts_in}
use Rattle.network.specs.Rows.{rows_of}
use Rattle.build_steps.specs.TapRows.{tap_row_of}
use Rattle.build_tap_rows.proofs.tap_row.Goals.{After-reduce}
use Rattle.build_tap_rows.proofs.tap_row.Goals as goal

-- what `reduce` gave
reduced : (c : After-reduce) → parts_in c.reduce.result ≡ parts_of c.args.coefficient
reduced c =
    c.reduce.ensures.split ∙ ap parts_of (to_z-of_z w32 c.args.coefficient c.ranges.coefficient)

pub returns-in-None : goal.returns-in-None
unfolding tap_row_of
returns-in-None c =
    let args = c.args in
    ap (tap_row_of (rows_of args.rows.now.table.now args.rows.now.count)) (ap parts_in (sym c.in-None.is) ∙ reduced (goal.at-returns-in-None c).After-reduce)

pub returns-in-Some : goal.returns-in-Some
unfolding tap_row_of
returns-in-Some c =
    let args = c.args in
    ap₂ (λ (x y : ℕ). record { sign = x; row = y; shift = c.in-Some.reduction.shift }) c.sign_code.ensures c.row_of.ensures
    ∙ ap (tap_row_of (rows_of args.rows.now.table.now args.rows.now.count)) (ap parts_in (sym c.in-Some.is) ∙ reduced (goal.at-returns-in-Some c).After-reduce)
