-- `sheet_nodes::first_line` meets its contract. Assumes nothing.
use lib.Dec.{lit≤}
use Rattle.text.proofs.Puts.{then, widen, put_as}
use Rattle.sheet_lines.proofs.Lines.{value_after, node_first}
use Rattle.sheet_nodes.proofs.first_line.Goals as goal

pub returns : goal.returns
returns c =
    put_as (node_first c.args.row) (widen (lit≤ tt)
    (then c.put.ensures
    (value_after 0 c.put_to_value.ensures
    (then c.put_number.ensures c.put_end.ensures))))
