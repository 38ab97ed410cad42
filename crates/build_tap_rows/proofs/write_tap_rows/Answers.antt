-- `build_tap_rows::write_tap_rows` meets its contract, by the laws of the layout. Assumes nothing.
use Rattle.std.proofs.Common.{ap, ◌∙◌, ℤ, pos, get_or, FitsSigned, w32, rules, arith}
use mir.ValLaws.{to_z-of_z}
use Rattle.coefficient.specs.Parts.{parts_of}
use Rattle.network.specs.declared.TapRow.{TapRow}
use Rattle.network.specs.Rows.{rows_of}
use Rattle.build_steps.specs.TapRows.{tap_row_of}
use Rattle.build_tap_rows.proofs.Filling.{filling_none, filling_next, filling_all}
use Rattle.build_tap_rows.proofs.write_tap_rows.Goals.{Start}
use Rattle.build_tap_rows.proofs.write_tap_rows.Goals as goal

abbrev row_for : Start → ℤ → TapRow
row_for s z = tap_row_of (rows_of s.args.rows.now.table.now s.args.rows.now.count) (parts_of z)

pub loop-j-init : goal.loop-j-init
loop-j-init c = filling_none (row_for (goal.at-loop-j-init c).Start) c.args.coefficients.now c.args.taps.now

pub loop-j-preserved : goal.loop-j-preserved
loop-j-preserved c =
    let args = c.args in
    let s = (goal.at-loop-j-preserved c).Start in
    let z = get_or args.coefficients.now c.loop-j.j (pos 0) in
    let f : FitsSigned w32 z = search rules in
    let e = c.tap_row.ensures ∙ ap (row_for s) (to_z-of_z w32 z f) in
    rw c.write_tap_row.ensures (filling_next (row_for s) args.coefficients.now args.taps.now c.requires.1 c.loop-j.taps c.loop-j.j c.tap_row.result c.loop-j-test.true e c.loop-j.invariant)

pub returns : goal.returns
returns c =
    let args = c.args in
    filling_all (row_for (goal.at-returns c).Start) args.coefficients.now args.taps.now c.requires.1 c.loop-j.taps c.loop-j.j (omega arith) c.loop-j-test.false c.loop-j.invariant
