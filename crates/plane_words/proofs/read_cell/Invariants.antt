-- `plane_words::read_cell` meets its contract. The invariant of its loop: `mask` has the bits of the planes from `p` on. Assumes nothing.
use mathlib.Core.Path.{◌≡◌}
use Prim.Native.Nat.{◌-◌}
use Rattle.plane_words.proofs.High.{high_mask}
use Rattle.plane_words.proofs.read_cell.Given as goal

abbrev pub invariant-loop-p : goal.invariant-loop-p
invariant-loop-p l = l.mask ≡ high_mask l.table l.c (32 - l.p) l.p
