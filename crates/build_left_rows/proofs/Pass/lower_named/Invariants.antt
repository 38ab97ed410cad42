-- `build_left_rows::Pass::lower_named` meets its contract. The mask is read from one digit 1 to the next. The invariant of its loop: `rest` has the digits
-- of the mask from place j - at on, and no turn below `low` is the number of a right row that a digit below that place names. `low` only falls. The
-- measure is the number of places still to come. Assumes nothing.
use Prim.Native.Nat.{◌+◌, ◌-◌, ◌≤◌}
use Rattle.build_left_rows.proofs.NamedRows.{Read, Named}
use Rattle.build_left_rows.proofs.Pass.lower_named.Given as goal

abbrev pub invariant-loop-rest : goal.invariant-loop-rest
invariant-loop-rest g l =
    (l.at ≤ l.j) × (l.j ≤ l.at + 8) × (l.low ≤ l.m)
    × Read (Named (λ r x. goal.F-post g l.number r x) l.self.rows.now.table.now l.self.sieve.now.values.now l.at l.low) l.mask l.rest (l.j - l.at)

abbrev pub decreases-loop-rest : goal.decreases-loop-rest
decreases-loop-rest g l = l.at + 8 - l.j
