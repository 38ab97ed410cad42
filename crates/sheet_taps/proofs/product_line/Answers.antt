-- `sheet_taps::product_line` meets its contract. A coefficient comes to `put_integer` as its bits, which are turned back. Assumes nothing.
use mir.Syntax.{w32}
use mir.ValLaws.{to_z-of_z}
use Rattle.text.proofs.Puts.{then, put_as}
use Rattle.sheet_lines.proofs.Lines.{after_sign, product_parts}
use Rattle.sheet_taps.proofs.product_line.Goals as goal

pub returns : goal.returns
returns c =
    let args = c.args in
    let t = args.tap in
    put_as (product_parts args.i t args.value)
    (then c.put.ensures
    (after_sign args.i t.row t.shift t.sign c.put_to_sign.ensures
    (then c.put_byte.ensures
    (then (rw (to_z-of_z w32 args.value c.ranges.value) at c.put_integer.ensures) c.put_end.ensures))))
