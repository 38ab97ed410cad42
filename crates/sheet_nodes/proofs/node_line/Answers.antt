-- `sheet_nodes::node_line` meets its contract. Assumes nothing.
use Rattle.text.proofs.Puts.{put_as}
use Rattle.sheet_lines.proofs.Lines.{node_later}
use Rattle.sheet_nodes.proofs.node_line.Goals as goal

pub returns-then-i-eq0 : goal.returns-then-i-eq0
returns-then-i-eq0 c =
    rw c.if-i-eq0.true c.first_line.ensures

pub returns-else-i-eq0 : goal.returns-else-i-eq0
returns-else-i-eq0 c =
    put_as (node_later c.args.i c.args.row c.if-i-eq0.false) c.later_line.ensures
