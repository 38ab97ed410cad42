-- `build_left_rows::first_turn` meets its contract. The invariant of its loop: no turn below `low` goes with a right row that was passed, at any
-- shift and sign. `low` only falls, so that what was said of earlier right rows stays true. Assumes nothing.
use Prim.Native.Nat.{ℕ, ◌*◌, ◌≤◌, ◌<◌}
use Rattle.build_index.specs.Inner.{value_at}
use Rattle.build_left_rows.specs.Inner.{NoLeft}
use Rattle.build_left_rows.proofs.first_turn.Given as goal

abbrev pub invariant-loop-block : goal.invariant-loop-block
invariant-loop-block l =
    (l.low ≤ 32 * l.n) × ((k : ℕ) → k < 32 * l.block → k < l.n → NoLeft l.rows.table.now l.low l.v (value_at l.rows.table.now k))
