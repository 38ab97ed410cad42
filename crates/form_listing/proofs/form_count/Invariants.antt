-- `form_listing::form_count` meets its contract. The invariant of its loop: the walk over the links stands where a walk over the canonical digits of the
-- magnitude stands too, with the forms of the digits passed as its `forms`; a number and its negative have as many. At the end, where no link is left, these are
-- all forms. The measure is `links`, since the next link is taken out of it in each turn. Assumes nothing.
use Rattle.std.proofs.Common.{nat_abs}
use Rattle.form_walk.proofs.Counted.{Counting}
use Rattle.form_listing.proofs.form_count.Given as goal

abbrev pub invariant-loop-w : goal.invariant-loop-w
invariant-loop-w l = Counting (nat_abs l.n) l.w

abbrev pub decreases-loop-w : goal.decreases-loop-w
decreases-loop-w l = l.w.links
