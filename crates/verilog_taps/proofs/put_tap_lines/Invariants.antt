-- The invariant of the loop of `verilog_taps::put_tap_lines`: the assigns of the taps passed are written.
use Rattle.network.specs.Rows.{tap_rows_of}
use Rattle.text.specs.Lines.{lines_from}
use Rattle.text.specs.Inner.{WroteAll}
use Rattle.verilog_text.specs.Text.{tap_assign}
use Rattle.verilog_taps.proofs.put_tap_lines.Given as goal

abbrev pub invariant-loop-k : goal.invariant-loop-k
invariant-loop-k l = WroteAll l.initial.to (lines_from tap_assign 0 (tap_rows_of l.network.taps.now l.k)) l.to
