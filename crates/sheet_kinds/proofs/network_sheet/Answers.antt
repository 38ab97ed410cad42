-- `sheet_kinds::network_sheet` meets its contract: the header and the lines stand one after the other, and the most bytes that they can take are within the area's.
-- Assumes nothing.
use native.Mathlib.Omega.{arith}
use Rattle.text.proofs.Puts.{then, widen, put_as}
use Rattle.sheet_kinds.proofs.Values.{network_written}
use Rattle.sheet_kinds.proofs.network_sheet.Goals as goal

pub returns : goal.returns
returns c =
    let n = c.args.network in
    let q = c.requires.network_in in
    put_as (network_written n.rows.now n.row_count n.taps.now n.tap_count c.args.coefficients.now _ q c.adders.ensures)
    (widen (omega (arith, q.rows_in.few, q.taps_in.few, q.each))
    (then c.put_header.ensures
    (then c.node_lines.ensures
    (then c.tap_lines.ensures c.total_line.ensures))))
