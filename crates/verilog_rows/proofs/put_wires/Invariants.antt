-- The invariant of the loop of `verilog_rows::put_wires`: the wires of the numbers passed are written.
use Rattle.text.specs.Lines.{numbered_from}
use Rattle.text.specs.Inner.{WroteAll}
use Rattle.verilog_text.specs.Text.{wire_line}
use Rattle.verilog_rows.proofs.put_wires.Given as goal

abbrev pub invariant-loop-row : goal.invariant-loop-row
invariant-loop-row l = WroteAll l.initial.to (numbered_from wire_line 0 l.row) l.to
