-- The first k registers hold what they come to after the sample, and the others are the old ones; so register k + 1, which is read next, is an old one.
use Rattle.std.proofs.Common.{◌≡◌}
use Rattle.sequence.specs.Inner.{front}
use Rattle.run_convolution.specs.Running.{next}
use Rattle.run_convolution.specs.Sums.{held}
use Rattle.run_singly.proofs.move_one.Given as goal

abbrev pub invariant-loop-k : goal.invariant-loop-k
invariant-loop-k l = l.registers ≡ front (held (next l.h l.x l.initial.registers)) l.initial.registers l.k
