-- `plane_cells::writing::write_cells` meets its contract. The invariant of its loop: both tables hold the planes of the first `c` cells, and past their words they are as they were at its start. Assumes nothing.
use Rattle.std.proofs.Common.{◌≡◌, drop}
use Rattle.signed_digit.specs.Masks.{plus_mask, minus_mask}
use Rattle.plane_cells.proofs.Planes.{table_of}
use Rattle.plane_cells.proofs.writing.write_cells.Given as goal

abbrev pub invariant-loop-c : goal.invariant-loop-c
invariant-loop-c l = record {
  plus : l.plus ≡ table_of plus_mask l.coefficients l.choices (drop 128 l.initial.plus) l.c;
  minus : l.minus ≡ table_of minus_mask l.coefficients l.choices (drop 128 l.initial.minus) l.c;
}
