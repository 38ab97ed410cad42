-- `plane_blocks::gather` meets its contract. The invariant of its loop: the rows below `p` are half words, and the rest are as they were. Assumes nothing.
use mathlib.Core.Path.{◌≡◌}
use Rattle.sequence.specs.Inner.{front}
use Rattle.plane_blocks.specs.Inner.{half_word}
use Rattle.plane_blocks.proofs.gather.Given as goal

abbrev pub invariant-loop-p : goal.invariant-loop-p
invariant-loop-p l = l.rows ≡ front (half_word l.table l.block) l.initial.rows l.p
