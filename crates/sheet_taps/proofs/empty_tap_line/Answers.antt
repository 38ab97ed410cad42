-- `sheet_taps::empty_tap_line` meets its contract. Assumes nothing.
use lib.Dec.{lit≤}
use Rattle.text.proofs.Puts.{then, widen, put_as}
use Rattle.sheet_lines.proofs.Lines.{value_after, empty_parts}
use Rattle.sheet_taps.proofs.empty_tap_line.Goals as goal

pub returns : goal.returns
returns c =
    let i = c.args.i in
    put_as (empty_parts i) (widen (lit≤ tt)
    (then c.put.ensures
    (value_after i c.put_to_value.ensures
    (then c.put_byte.ensures c.put_end.ensures))))
