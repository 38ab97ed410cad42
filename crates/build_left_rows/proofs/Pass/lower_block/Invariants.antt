-- `build_left_rows::Pass::lower_block` meets its contract. The invariant of its loop: no turn below `low` goes with one of the right rows that were passed.
-- `low` only falls. Assumes nothing.
use Prim.Native.Nat.{ℕ, ◌+◌, ◌*◌, ◌≤◌, ◌<◌}
use Rattle.build_index.specs.Inner.{value_at}
use Rattle.build_left_rows.specs.Inner.{NoLeft}
use Rattle.build_left_rows.proofs.Pass.lower_block.Given as goal

abbrev pub invariant-loop-eight : goal.invariant-loop-eight
invariant-loop-eight l =
    (l.low ≤ l.m)
    × ((i : ℕ) → i < 8 * l.eight → l.at + i < l.self.rows.now.count → NoLeft l.self.rows.now.table.now l.low l.self.v (value_at l.self.rows.now.table.now (l.at + i)))
