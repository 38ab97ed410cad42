-- `build_index::IndexedRows::find` meets its contract. The loop goes down the rows of one bucket, from the last. The invariant: p stands for the last row of the
-- bucket that is still to be looked at, and no row passed has the value; rows of other buckets cannot have it. The measure is p, which falls from row to
-- row, since a link leads to an earlier one.
-- Assumes nothing.
use lib.ListN.{length}
use Rattle.build_index.proofs.Chains.{Passed}
use Rattle.build_index.proofs.IndexedRows.find.Given as goal

abbrev pub invariant-loop-p : goal.invariant-loop-p
invariant-loop-p l = Passed l.self.table.now (length l.self.heads.now) l.self.count l.x l.p

abbrev pub decreases-loop-p : goal.decreases-loop-p
decreases-loop-p l = l.p
