-- `build_pair::first_fit` meets its contract. The search is two loops, one in the other, each with its part of document 01's order. The
-- invariant of the outer one: nothing fits with a left row below i, at any shift and sign, nor with row i at the shifts below `shift`. `first_turn` says
-- so of the turn at which it starts. The invariant of the inner one (`Trying`): a is 2^shift times the left row's value, and nothing fits with this row at
-- the shifts from 1 to shift - 1. A fit at a shift is then the first of all (`left_first`, `fit_first`), since `at_shift` takes the signs in their
-- order. Where a passes v + most, no sign can make v with a row's value, at this shift or a larger one (`shift_past`), so that the left row has no
-- fit (`left_none`). The measure of the inner loop is the shifts, 33 - shift: while a is below 2^32, the shift is below 32, for no row's value is 0.
-- Assumes nothing.
use mathlib.Core.Path.{◌≡◌}
use Prim.Native.Nat.{ℕ, suc, ◌-◌, ◌≤◌, ◌<◌}
use Rattle.network.specs.Rows.{rows_of}
use Rattle.build_steps.specs.Search.{none_fits, fit_at_shift, fit_at_left}
use Rattle.build_pair.proofs.Shifts.{Trying}
use Rattle.build_pair.proofs.first_fit.Given as goal

abbrev pub invariant-loop-a : goal.invariant-loop-a
invariant-loop-a l = Trying l.rows.table.now l.rows.count l.v l.i l.shift l.a

abbrev pub decreases-loop-a : goal.decreases-loop-a
decreases-loop-a l = 33 - l.shift

abbrev pub invariant-loop-i : goal.invariant-loop-i
invariant-loop-i l =
    ((k : ℕ) → k < l.i → fit_at_left (rows_of l.rows.table.now l.rows.count) l.v k ≡ none_fits)
    × (1 ≤ l.shift)
    × (l.shift ≤ 32)
    × ((k : ℕ) → suc k < l.shift → l.i < l.rows.count → fit_at_shift (rows_of l.rows.table.now l.rows.count) l.v l.i (suc k) ≡ none_fits)
