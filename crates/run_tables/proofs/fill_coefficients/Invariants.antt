-- The first k coefficients stand in the table from word 4 on, and every other word is 0 in offset binary.
use Rattle.run_tables.proofs.Filling.{Filled}
use Rattle.run_tables.proofs.fill_coefficients.Given as goal

abbrev pub invariant-loop-k : goal.invariant-loop-k
invariant-loop-k l = Filled l.h l.stored l.k
