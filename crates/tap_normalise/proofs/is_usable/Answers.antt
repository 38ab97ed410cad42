-- `tap_normalise::is_usable` meets its contract. Assumes nothing.
use mathlib.Core.Path.{sym, ap, ◌∙◌}
use lib.Ieee.{Float, ne}
use Rattle.tap.proofs.Value.{zero_is}
use Rattle.tap_normalise.proofs.Usable.{usable_finite}
use Rattle.tap_normalise.proofs.is_usable.Goals as goal

pub returns-then-is_finite : goal.returns-then-is_finite
returns-then-is_finite c =
    let sum = c.args.sum in
    ap (λ (k : Float). ne sum k) zero_is ∙ usable_finite sum (sym c.is_finite.ensures ∙ c.if-is_finite.true)
