-- `verilog_writer::put_text` meets its contract. Assumes nothing.
use native.Mathlib.Omega.{arith}
use Rattle.text.proofs.Puts.{then_all, put_all, put_as}
use Rattle.verilog_writer.proofs.Parts.{parts_are, parts_length}
use Rattle.verilog_writer.proofs.put_text.Goals as goal

pub put_module_line-requires : goal.put_module_line-requires
put_module_line-requires c =
    let net = c.args.network in
    (c.requires.within_bounds.taps_to, omega (arith, c.requires.room, parts_length net.rows.now net.row_count net.taps.now net.tap_count))

pub put_wires-requires : goal.put_wires-requires
put_wires-requires c =
    let net = c.args.network in
    (c.requires.within_bounds.rows_to, omega (arith, c.requires.room, parts_length net.rows.now net.row_count net.taps.now net.tap_count))

pub put_row_lines-requires-clause-room : goal.put_row_lines-requires-clause-room
put_row_lines-requires-clause-room c =
    let net = c.args.network in omega (arith, c.requires.room, parts_length net.rows.now net.row_count net.taps.now net.tap_count)

pub put_tap_lines-requires-clause-room : goal.put_tap_lines-requires-clause-room
put_tap_lines-requires-clause-room c =
    let net = c.args.network in omega (arith, c.requires.room, parts_length net.rows.now net.row_count net.taps.now net.tap_count)

pub put-requires : goal.put-requires
put-requires c =
    let net = c.args.network in omega (arith, c.requires.room, parts_length net.rows.now net.row_count net.taps.now net.tap_count)

pub returns : goal.returns
returns c =
    let net = c.args.network in
    put_all (put_as (parts_are net.rows.now net.row_count net.taps.now net.tap_count)
    (then_all c.put_module_line.ensures
    (then_all c.put_wires.ensures
    (then_all c.put_row_lines.ensures
    (then_all c.put_tap_lines.ensures c.put.ensures)))))
