-- `build_sieve::SieveTables::joined` meets its contract. The invariant of its loop: no mark of a cell that was passed is over `all`. Assumes nothing.
use Prim.Native.Nat.{ℕ, ◌+◌, ◌≤◌, ◌<◌}
use Rattle.build_sieve.specs.Inner.{mark_at}
use Rattle.build_sieve.proofs.SieveTables.joined.Given as goal

abbrev pub invariant-loop-i : goal.invariant-loop-i
invariant-loop-i l = (j : ℕ) → j < l.i → mark_at l.self.marks.now l.cells (l.k + j) ≤ l.all
