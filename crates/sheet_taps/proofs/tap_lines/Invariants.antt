-- The invariant of the loop: the lines of the first j tap rows are written, and each took no more than its bytes.
use Prim.Native.Nat.{◌*◌}
use Rattle.network.specs.Rows.{tap_rows_of}
use Rattle.text.specs.Inner.{Wrote}
use Rattle.text.specs.Lines.{lines_from}
use Rattle.sheet_lines.specs.Inner.{tap_line_bytes}
use Rattle.sheet_taps.specs.Inner.{tap_line_of}
use Rattle.sheet_taps.proofs.tap_lines.Given as goal

abbrev pub invariant-loop-j : goal.invariant-loop-j
invariant-loop-j l = Wrote l.initial.to (lines_from (tap_line_of l.coefficients) 0 (tap_rows_of l.tap_rows l.j)) (tap_line_bytes * l.j) l.to
