-- `plane_words::overlap_word` meets its contract. The invariant of its loop: `both` has the cells that overlap in the planes below `p`. Assumes nothing.
use mathlib.Core.Path.{◌≡◌}
use Rattle.plane_words.specs.Inner.{both_word}
use Rattle.plane_words.proofs.overlap_word.Given as goal

abbrev pub invariant-loop-p : goal.invariant-loop-p
invariant-loop-p l = l.both ≡ both_word l.p l.plus l.minus l.j
