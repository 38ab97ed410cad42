-- The invariant of the loop of `tap_normalise::divide`: the places passed hold the quotients, and the rest are as they were.
use mathlib.Core.Path.{◌≡◌}
use Prim.Native.Nat.{ℕ}
use mathlib.Core.List.{List}
use lib.ListN.{get_or}
use lib.Ieee.{Float, nan, binary64, div}
use Rattle.sequence.specs.Inner.{front}
use Rattle.tap_normalise.proofs.divide.Given as goal

-- the quotient of the tap at each place
abbrev pub at : List Float → Float → ℕ → Float
at taps sum k = div binary64 (get_or taps k nan) sum

abbrev pub invariant-loop-i : goal.invariant-loop-i
invariant-loop-i l = l.table ≡ front (at l.taps l.sum) l.initial.table l.i
