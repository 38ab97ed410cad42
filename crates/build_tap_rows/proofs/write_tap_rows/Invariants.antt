-- `build_tap_rows::write_tap_rows` meets its contract. The invariant of its loop: the table holds the tap rows of the coefficients passed and is
-- untouched past them; writing one more keeps it, by the laws of the layout. Assumes nothing.
use Rattle.std.proofs.Common.{ℤ}
use Rattle.coefficient.specs.Parts.{parts_of}
use Rattle.network.specs.Rows.{rows_of}
use Rattle.build_steps.specs.TapRows.{tap_row_of}
use Rattle.build_tap_rows.proofs.Filling.{Filling}
use Rattle.build_tap_rows.proofs.write_tap_rows.Given as goal

abbrev pub invariant-loop-j : goal.invariant-loop-j
invariant-loop-j l = Filling (λ (z : ℤ). tap_row_of (rows_of l.rows.table.now l.rows.count) (parts_of z)) l.coefficients l.initial.taps l.taps l.j
