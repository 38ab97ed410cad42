-- `sheet_nodes::node_lines` meets its contract. Assumes nothing.
use native.Mathlib.Omega.{arith}
use Rattle.network.specs.Rows.{row_at}
use Rattle.text.proofs.Puts.{then, widen, put_as}
use Rattle.text.proofs.Lines.{lines_next, nothing_put}
use Rattle.sheet_lines.specs.Lines.{node_line_of}
use Rattle.sheet_nodes.proofs.node_lines.Goals as goal

pub loop-i-init : goal.loop-i-init
loop-i-init c = nothing_put node_line_of (row_at c.args.network.rows.now) c.args.to.now

pub loop-i-preserved : goal.loop-i-preserved
loop-i-preserved c =
    let i = c.loop-i.i in
    let row = row_at c.args.network.rows.now in
    put_as (lines_next node_line_of row i) (widen (omega arith)
    (then c.loop-i.invariant (rw c.read_row.ensures at c.node_line.ensures)))
