-- `sheet_kinds::refused_line` meets its contract. Assumes nothing.
use Rattle.text.proofs.Puts.{then, put_as}
use Rattle.sheet_lines.proofs.Lines.{value_after, refused_parts}
use Rattle.sheet_kinds.proofs.refused_line.Goals as goal

pub returns : goal.returns
returns c =
    let args = c.args in
    put_as (refused_parts args.number args.place)
    (then c.put.ensures
    (value_after args.number c.put_to_value.ensures
    (then c.put_number.ensures c.put_end.ensures)))
