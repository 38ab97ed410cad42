-- From k on, registers and coefficients are 0.
use Rattle.run_tables.specs.Inner.{ZeroFrom}
use Rattle.run_tables.proofs.width.used.Given as goal

abbrev pub invariant-loop-k : goal.invariant-loop-k
invariant-loop-k l = ZeroFrom l.k l.h l.registers
