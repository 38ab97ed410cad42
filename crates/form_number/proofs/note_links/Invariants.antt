-- `form_number::note_links` meets its contract. The invariant of its loop: the walk stands where a walk over the canonical digits of the magnitude stands too, and
-- the first `k` places of the table hold the links that it has passed. There is room for each, since two links stand two places apart at least and the last below
-- place 34. The measure is `links`, since the next link is taken out of it in each turn. Assumes nothing.
use Rattle.std.proofs.Common.{take, reverse, nat_abs}
use Rattle.form_walk.proofs.Counted.{Counting}
use Rattle.form_number.specs.Inner.{Noted}
use Rattle.form_number.proofs.Noted.{Spaced}
use Rattle.form_number.proofs.note_links.Given as goal

abbrev pub invariant-loop-walk : goal.invariant-loop-walk
invariant-loop-walk l = record {
  counting : Counting (nat_abs l.n) l.walk;
  noted : Noted l.initial.walk (reverse (take l.k l.links)) l.walk;
  spaced : Spaced l.k l.walk;
}

abbrev pub decreases-loop-walk : goal.decreases-loop-walk
decreases-loop-walk l = l.walk.links
