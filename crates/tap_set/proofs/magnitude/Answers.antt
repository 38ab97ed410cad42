-- `tap_set::magnitude` meets its contract. Assumes nothing.
use mathlib.Core.Path.{sym, ap, ◌∙◌}
use mathlib.Core.Bool.{true, false}
use lib.Ieee.{Float, lt}
use Rattle.tap.proofs.Value.{zero_is}
use Rattle.tap_set.proofs.Sizes.{magnitude_at}
use Rattle.tap_set.proofs.magnitude.Goals as goal

pub returns-then-x : goal.returns-then-x
returns-then-x c = let x = c.args.x in sym (magnitude_at x true (ap (λ (k : Float). lt x k) (sym zero_is) ∙ c.if-x.true))

pub returns-else-x : goal.returns-else-x
returns-else-x c = let x = c.args.x in sym (magnitude_at x false (ap (λ (k : Float). lt x k) (sym zero_is) ∙ c.if-x.false))
