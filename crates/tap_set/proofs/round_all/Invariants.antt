-- The invariant of the loop of `tap_set::round_all`: none of the numbers passed is turned down, so that the lowest place that is turned down is among those to
-- come; the report so far, carried on over those, is the whole report; and the first places of the buffer hold the coefficients of the numbers passed.
use mathlib.Core.Path.{◌≡◌}
use mathlib.Core.List.{List}
use Prim.Native.Nat.{ℕ}
use lib.IntN.{ℤ}
use lib.ListN.{drop, get_or}
use lib.Ieee.{Float, nan}
use Rattle.refusal.specs.Answer.{lowest_from, lowest}
use Rattle.sequence.specs.Inner.{front}
use Rattle.tap_set.specs.Set.{report_from, report_of}
use Rattle.tap_set.specs.Inner.{turned}
use Rattle.tap_set.proofs.Rounds.{whole}
use Rattle.tap_set.proofs.round_all.Given as goal

-- the coefficient at each place
abbrev pub at : ℕ → List Float → ℕ → ℤ
at f xs k = whole f (get_or xs k nan)

abbrev pub invariant-loop-i : goal.invariant-loop-i
invariant-loop-i l = record {
  to_come : lowest_from l.i (turned l.f) (drop l.i l.xs) ≡ lowest (turned l.f) l.xs;
  reported : report_from l.f l.report (drop l.i l.xs) ≡ report_of l.f l.divisor l.xs;
  written : l.buffer ≡ front (at l.f l.xs) l.initial.buffer l.i;
}
