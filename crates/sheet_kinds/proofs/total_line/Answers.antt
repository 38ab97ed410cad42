-- `sheet_kinds::total_line` meets its contract. Assumes nothing.
use Rattle.text.proofs.Puts.{then, put_as}
use Rattle.sheet_lines.proofs.Lines.{value_after, total_parts}
use Rattle.sheet_kinds.proofs.total_line.Goals as goal

pub returns : goal.returns
returns c =
    let total = c.args.adders in
    put_as (total_parts total)
    (then c.put.ensures (value_after total c.put_to_value.ensures c.put_end.ensures))
