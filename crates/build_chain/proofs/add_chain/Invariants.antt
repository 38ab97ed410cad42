-- `build_chain::add_chain` meets its contract. The invariant of its loop: the value of the digits that are read has its row, and over the rows that are there
-- the digits still to come give the rows of the whole chain. `turn` reads one nonzero digit and keeps both. The measure is the mask of the nonzero
-- digits still to come, which loses its highest bit each time. Where none is left, only zeros are still to come, and zeros add no row.
-- Assumes nothing.
use Rattle.std.proofs.Common.{◌≡◌}
use Rattle.form_masks.specs.Form.{string_of}
use Rattle.build_steps.specs.Chain.{chained}
use Rattle.build_index.specs.Inner.{Grown}
use Rattle.build_chain.specs.Inner.{rows_in, Reading, to_come}
use Rattle.build_chain.proofs.add_chain.Given as goal

abbrev pub invariant-loop-chain : goal.invariant-loop-chain
invariant-loop-chain l = record {
  grown : Grown l.initial.rows l.rows (rows_in l.rows);
  reading : Reading l.chain (rows_in l.rows);
  same : to_come l.chain (rows_in l.rows) ≡ chained (rows_in l.initial.rows) (string_of l.fn.form);
}

abbrev pub decreases-loop-chain : goal.decreases-loop-chain
decreases-loop-chain l = l.chain.rest
