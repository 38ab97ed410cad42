-- `verilog_rows::put_wires` meets its contract. Assumes nothing.
use mathlib.Core.Path.{sym}
use mathlib.Core.List.{append_assoc}
use native.Mathlib.Omega.{arith}
use Rattle.text.specs.Ascii.{ascii}
use Rattle.text.specs.Numbers.{decimal}
use Rattle.text.specs.Lines.{numbered_from}
use Rattle.text.proofs.Puts.{then_all, put_as}
use Rattle.text.proofs.Lines.{numbered_next, none_put, room_next}
use Rattle.verilog_text.specs.Text.{wire_line}
use Rattle.verilog_text.proofs.Lengths.{wire_length}
use Rattle.verilog_rows.proofs.put_wires.Goals as goal

pub loop-row-init : goal.loop-row-init
loop-row-init c = none_put wire_line c.args.to.now

pub put_with-requires : goal.put_with-requires
put_with-requires c =
    let row = c.loop-row.row in
    omega (arith, c.requires.1, c.loop-row.invariant.next, c.loop-row.invariant.same_length, wire_length row, room_next (numbered_from wire_line 0) wire_line (numbered_next wire_line) row c.args.n (omega arith))

pub put-requires : goal.put-requires
put-requires c =
    let row = c.loop-row.row in
    omega (arith, c.requires.1, c.put_with.ensures.value, c.put_with.ensures.put_all.same_length, c.loop-row.invariant.next, c.loop-row.invariant.same_length, wire_length row, room_next (numbered_from wire_line 0) wire_line (numbered_next wire_line) row c.args.n (omega arith))

pub loop-row-preserved : goal.loop-row-preserved
loop-row-preserved c =
    let row = c.loop-row.row in
    let line = put_as (sym (append_assoc (ascii "wire signed [63:0] n") (decimal row) (ascii ";\n"))) (then_all c.put_with.ensures.put_all c.put.ensures) in
    rw (numbered_next wire_line row) (then_all c.loop-row.invariant line)
