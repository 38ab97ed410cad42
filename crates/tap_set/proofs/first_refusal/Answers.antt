-- `tap_set::first_refusal` meets its contract: a place within the numbers fits. Assumes nothing.
use mathlib.Core.Path.{sym}
use native.Mathlib.Omega.{arith}
use Rattle.refusal.proofs.Checks.{lowest_within}
use Rattle.tap_set.proofs.Rounds.{not_finite_at}
use Rattle.tap_set.proofs.first_refusal.Goals as goal

pub overflow_cast-place : goal.overflow_cast-place
overflow_cast-place g c =
    let l = (lowest_within not_finite_at 0 c.in-Some.place c.args.xs.now (sym c.in-Some.ensures)).1 in
    record { fits = omega (arith, l, c.requires.within) }
