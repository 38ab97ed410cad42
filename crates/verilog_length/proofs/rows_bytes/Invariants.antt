-- The invariant of the loop of `verilog_length::rows_bytes`: the count is that of the rows passed.
use Prim.Native.Nat.{◌*◌}
use Rattle.network.specs.Rows.{rows_of}
use Rattle.text.specs.Lines.{lines_from}
use Rattle.verilog_text.specs.Text.{row_assign}
use Rattle.verilog_length.specs.Inner.{BesideAll, row_bytes_of}
use Rattle.verilog_length.proofs.rows_bytes.Given as goal

abbrev pub invariant-loop-i : goal.invariant-loop-i
invariant-loop-i l = BesideAll (lines_from row_assign 0 (rows_of l.network.rows.now l.i)) l.i (row_bytes_of * l.i) l.count
