-- The first k words are those four places on, worked out, and the others are the old ones; so the word at k + 4, which is read next, is an old one.
use Rattle.std.proofs.Common.{◌≡◌, ℕ, ◌<◌, ◌≤◌, ◌+◌, get_or}
use Rattle.run_moves.specs.Inner.{placed}
use Rattle.run_moves.proofs.slide.Given as goal

abbrev pub invariant-loop-k : goal.invariant-loop-k
invariant-loop-k l = record {
  moved : (i : ℕ) → i < l.k → get_or l.words i 0 ≡ placed l.stored l.y (i + 4) (get_or l.initial.words (i + 4) 0);
  kept : (i : ℕ) → l.k ≤ i → get_or l.words i 0 ≡ get_or l.initial.words i 0;
}
