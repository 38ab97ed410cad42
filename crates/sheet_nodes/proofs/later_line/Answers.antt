-- `sheet_nodes::later_line` meets its contract. Assumes nothing.
use Rattle.text.proofs.Puts.{then, put_as}
use Rattle.text.specs.Numbers.{decimal}
use Rattle.sheet_lines.proofs.Lines.{comma, after_sign, later_parts}
use Rattle.sheet_nodes.proofs.later_line.Goals as goal

pub returns : goal.returns
returns c =
    let args = c.args in
    let r = args.row in
    put_as (later_parts args.i r)
    (then c.put.ensures
    (after_sign args.i r.left r.shift r.sign c.put_to_sign.ensures
    (comma (decimal r.right) c.put_field.ensures
    (then c.put_number.ensures c.put_end.ensures))))
