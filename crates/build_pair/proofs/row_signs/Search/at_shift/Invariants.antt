-- `build_pair::row_signs::Search::at_shift` meets its contract. The invariant of its loop: with the signs that were passed nothing fits, so that the first fit
-- over all signs is that over the signs that are left. Assumes nothing.
use mathlib.Core.Path.{◌≡◌}
use lib.ListN.{drop}
use Rattle.network.specs.Rows.{rows_of}
use Rattle.build_steps.specs.Search.{first_over, tried, fit_at_shift}
use Rattle.build_pair.proofs.row_signs.Search.at_shift.Given as goal

abbrev pub invariant-loop-sign : goal.invariant-loop-sign
invariant-loop-sign l =
    fit_at_shift (rows_of l.self.rows.now.table.now l.self.rows.now.count) l.self.v l.left.row l.left.shift
    ≡ first_over (tried (rows_of l.self.rows.now.table.now l.self.rows.now.count) l.self.v l.left.row l.left.shift) (drop l.sign-index l.sign-items)
