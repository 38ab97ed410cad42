-- `build_sieve::SieveTables::fill` meets its contract. The invariant of its loop: the cells of the first j values are there. Assumes nothing.
use mathlib.Core.Path.{◌≡◌}
use lib.ListN.{length}
use Rattle.build_sieve.specs.Inner.{Cells}
use Rattle.build_sieve.proofs.SieveTables.fill.Given as goal

abbrev pub invariant-loop-j : goal.invariant-loop-j
invariant-loop-j l = (length l.pairs.sums ≡ 32) × (length l.pairs.differences ≡ 32) × Cells l.self.values.now l.at l.j l.v l.shift l.pairs
