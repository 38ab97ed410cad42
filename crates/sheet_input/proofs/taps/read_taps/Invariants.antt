-- The invariant of the loop: the first i elements of the table are the input's first i taps, and the others are as they were.
use mathlib.Core.Path.{◌≡◌}
use Rattle.sequence.specs.Inner.{front}
use Rattle.sheet_input.specs.Taps.{tap_at_of}
use Rattle.sheet_input.proofs.taps.read_taps.Given as goal

abbrev pub invariant-loop-i : goal.invariant-loop-i
invariant-loop-i l = l.taps ≡ front (tap_at_of l.input) l.initial.taps l.i
