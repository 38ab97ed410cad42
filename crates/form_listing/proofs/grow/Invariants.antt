-- `form_listing::grow` meets its contract. The invariant of its loop: the copies of the elements from `i` on stand at their places, and below `at + i` the table
-- is as it was; so the next element read has not been written over. Assumes nothing.
use Rattle.form_links.proofs.Growth.{Part}
use Rattle.form_listing.proofs.grow.Given as goal

abbrev pub invariant-loop-i : goal.invariant-loop-i
invariant-loop-i l = Part l.initial.table l.at l.n l.offset l.i l.table
