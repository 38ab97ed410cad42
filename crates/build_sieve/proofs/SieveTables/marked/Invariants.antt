-- `build_sieve::SieveTables::marked` meets its contract. The mask is made from its highest digit down. The invariant of its loop: it has the digits of the cells
-- from i on, and where a digit is 0 the cell has no mark of a row below m. Assumes nothing.
use Prim.Native.Nat.{ℕ, ◌+◌, ◌*◌, ◌-◌, ◌^◌, ◌<◌}
use Rattle.build_sieve.specs.Inner.{mark_at}
use Rattle.build_sieve.proofs.MaskDigits.{Zeros}
use Rattle.build_sieve.proofs.SieveTables.marked.Given as goal

abbrev pub invariant-loop-i : goal.invariant-loop-i
invariant-loop-i l =
    (l.mask < 2 ^ (8 - l.i)) × Zeros (λ (j : ℕ). mark_at l.self.marks.now l.cells (l.k + j) * l.m < 128) l.mask l.i
