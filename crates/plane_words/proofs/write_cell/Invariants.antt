-- `plane_words::write_cell` meets its contract. The invariant of its loop: what each word has, with what `rest` would still add to it, is what it had with what `mask`
-- adds. The measure is `rest`. Assumes nothing.
use Rattle.plane_words.proofs.Adding.{Adding}
use Rattle.plane_words.proofs.write_cell.Given as goal

abbrev pub invariant-loop-rest : goal.invariant-loop-rest
invariant-loop-rest l = Adding l.initial.table l.c l.mask l.rest l.table

abbrev pub decreases-loop-rest : goal.decreases-loop-rest
decreases-loop-rest l = l.rest
