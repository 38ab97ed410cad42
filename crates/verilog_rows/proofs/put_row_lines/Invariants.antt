-- The invariant of the loop of `verilog_rows::put_row_lines`: the assigns of the rows passed are written.
use Rattle.network.specs.Rows.{rows_of}
use Rattle.text.specs.Lines.{lines_from}
use Rattle.text.specs.Inner.{WroteAll}
use Rattle.verilog_text.specs.Text.{row_assign}
use Rattle.verilog_rows.proofs.put_row_lines.Given as goal

abbrev pub invariant-loop-i : goal.invariant-loop-i
invariant-loop-i l = WroteAll l.initial.to (lines_from row_assign 0 (rows_of l.network.rows.now l.i)) l.to
