-- The first k registers are those that the words were raised from, whichever these are, and the others are the old ones.
use Rattle.std.proofs.Common.{◌≡◌, ℕ, List}
use Rattle.sequence.specs.Inner.{front}
use Rattle.run_convolution.specs.Sums.{held}
use Rattle.run_convolution.specs.Bounds.{Words}
use Rattle.run_tables.specs.Inner.{Raised}
use Rattle.run_moves.proofs.lower.Given as goal

abbrev pub invariant-loop-k : goal.invariant-loop-k
invariant-loop-k l =
    (r : List ℕ) → Words r → Raised l.tables.width l.tables.offsets.now l.line.bias r l.line.words → l.registers ≡ front (held r) l.initial.registers l.k
