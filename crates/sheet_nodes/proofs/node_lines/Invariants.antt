-- The invariant of the loop: the lines of the first i rows are written, and each took no more than its bytes.
use Prim.Native.Nat.{◌*◌}
use Rattle.network.specs.Rows.{rows_of}
use Rattle.text.specs.Inner.{Wrote}
use Rattle.text.specs.Lines.{lines_from}
use Rattle.sheet_lines.specs.Lines.{node_line_of}
use Rattle.sheet_lines.specs.Inner.{node_line_bytes}
use Rattle.sheet_nodes.proofs.node_lines.Given as goal

abbrev pub invariant-loop-i : goal.invariant-loop-i
invariant-loop-i l = Wrote l.initial.to (lines_from node_line_of 0 (rows_of l.network.rows.now l.i)) (node_line_bytes * l.i) l.to
