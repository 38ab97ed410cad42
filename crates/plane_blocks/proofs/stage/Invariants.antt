-- `plane_blocks::stage` meets its contract. The invariant of its loop: the first `2 * q` rows are those of the stage, and the rest are as they were. Assumes nothing.
use mathlib.Core.Path.{◌≡◌}
use Prim.Native.Nat.{◌*◌}
use Rattle.sequence.specs.Inner.{front}
use Rattle.plane_blocks.specs.Inner.{mixed}
use Rattle.plane_blocks.proofs.stage.Given as goal

abbrev pub invariant-loop-q : goal.invariant-loop-q
invariant-loop-q l = l.to ≡ front (mixed l.j l.m l.from) l.initial.to (2 * l.q)
