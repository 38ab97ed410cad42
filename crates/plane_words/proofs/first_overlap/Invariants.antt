-- `plane_words::first_overlap` meets its contract. The invariant of its loop: no cell below word `j` overlaps. Assumes nothing.
use Prim.Native.Nat.{◌*◌}
use Rattle.plane_words.proofs.Both.{NoneBelow}
use Rattle.plane_words.proofs.first_overlap.Given as goal

abbrev pub invariant-loop-j : goal.invariant-loop-j
invariant-loop-j l = NoneBelow l.plus l.minus l.cells (64 * l.j)
