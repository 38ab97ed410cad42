-- The invariant of the loop of `verilog_length::taps_bytes`: the count is that of the taps passed.
use Prim.Native.Nat.{◌*◌}
use Rattle.network.specs.Rows.{tap_rows_of}
use Rattle.text.specs.Lines.{lines_from}
use Rattle.verilog_text.specs.Text.{tap_assign}
use Rattle.verilog_length.specs.Inner.{BesideAll, tap_bytes_of}
use Rattle.verilog_length.proofs.taps_bytes.Given as goal

abbrev pub invariant-loop-k : goal.invariant-loop-k
invariant-loop-k l = BesideAll (lines_from tap_assign 0 (tap_rows_of l.network.taps.now l.k)) l.k (tap_bytes_of * l.k) l.count
