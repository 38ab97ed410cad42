-- `form_number::offset_at` meets its contract. The invariant of its loop: the offsets of the links to come at `i`, added to `sum`, are those of all links at the
-- form's number, modulo 2^32. In each turn the last of these links is taken off: `i` stays where it is below the forms in front, and moves to the form that was
-- copied where it is not. Assumes nothing.
use Rattle.std.proofs.Common.{◌%◌, ◌^◌, reverse}
use Rattle.form_number.specs.Inner.{offset_at_of}
use Rattle.form_number.proofs.Offsets.{Adding}
use Rattle.form_number.proofs.offset_at.Given as goal

abbrev pub invariant-loop-link : goal.invariant-loop-link
invariant-loop-link l = Adding l.link-iterator.iter.rest.now l.i l.sum (offset_at_of (reverse l.links) l.number % 2 ^ 32)
