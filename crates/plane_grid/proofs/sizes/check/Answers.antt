-- `plane_grid::sizes::check` meets its contract. Each test of the code is a check of `sizes_answer`, in its order. Assumes nothing.
use Rattle.std.proofs.Common.{sym, ◌∙◌}
use Rattle.plane_grid.proofs.Checks.{bad_sides_lem, table_short}
use Rattle.plane_grid.proofs.sizes.check.Goals as goal

pub returns-then-bad_sides : goal.returns-then-bad_sides
returns-then-bad_sides c =
    let l = c.args.lengths in
    bad_sides_lem c.args.height c.args.width l.plus l.minus l.first l.second (sym c.bad_sides.ensures ∙ c.if-bad_sides.true)

pub returns-then-short_table : goal.returns-then-short_table
returns-then-short_table c =
    let l = c.args.lengths in
    table_short c.args.height c.args.width l.plus l.minus l.first l.second (sym c.bad_sides.ensures ∙ c.if-bad_sides.false) (sym c.short_table.ensures ∙ c.if-short_table.true)
