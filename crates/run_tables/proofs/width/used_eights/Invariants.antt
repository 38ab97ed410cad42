-- From the block on, registers and coefficients are 0.
use Rattle.std.proofs.Common.{◌*◌}
use Rattle.run_tables.specs.Inner.{ZeroFrom}
use Rattle.run_tables.proofs.width.used_eights.Given as goal

abbrev pub invariant-loop-block : goal.invariant-loop-block
invariant-loop-block l = ZeroFrom (8 * l.block) l.h l.registers
