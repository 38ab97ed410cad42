-- `form_listing::list` meets its contract.
--
-- The idea: beside the walk over the links goes a walk over the canonical digits of the magnitude, one by one from the low end, which the code does not do. Its
-- laws (form_links) say what the tables hold after each digit. Between two links that some form takes nothing is written; at such a link the forms that take it
-- follow those that do not, as `widen` writes them.
--
-- The invariant of the loop (`Listing` of proofs/Listed.antt): the walk stands at a spot between two digits, its numbers are that spot's, and the front of the
-- tables holds the masks of every minimal form of the digits passed, in order, each with the canonical digits still to come above them. From the count of
-- all forms on the tables are as they were. For a negative number the two tables change parts.
--
-- The measure is `links`, since the next link is taken out of it in each turn. Where no link is left, the digits that remain add no form, and the front of the
-- tables is the listing. There is room for each copy, since the forms passed with those that follow them are at most all forms, and these at most 1597.
-- Assumes nothing.
use Rattle.form_listing.proofs.Listed.{Ready, Listing}
use Rattle.form_listing.proofs.list.Given as goal

-- where the tables are ready, the walk stands on its way
abbrev pub invariant-loop-walk : goal.invariant-loop-walk
invariant-loop-walk l = (R : Ready l.n l.initial.plus l.initial.minus) → Listing l.n l.initial.plus l.initial.minus R l.plus l.minus l.walk

abbrev pub decreases-loop-walk : goal.decreases-loop-walk
decreases-loop-walk l = l.walk.links
