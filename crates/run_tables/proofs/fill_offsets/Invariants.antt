-- From place j on, the table holds the offsets: at the start because coefficients past the places in use are 0, and so are their offsets.
use Rattle.run_tables.proofs.Backward.{From}
use Rattle.run_tables.proofs.fill_offsets.Given as goal

abbrev pub invariant-loop-j : goal.invariant-loop-j
invariant-loop-j l = From l.stored l.offsets l.j
