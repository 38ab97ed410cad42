-- `tap_set::larger` meets its contract. Assumes nothing.
use mathlib.Core.Path.{◌≡◌, sym, ap, ◌∙◌}
use mathlib.Core.Bool.{Bool, true, false}
use lib.Ieee.{Float, lt}
use Rattle.tap_set.specs.Inner.{magnitude_of}
use Rattle.tap_set.proofs.Sizes.{larger_at}
use Rattle.tap_set.proofs.larger.Goals.{After-magnitude-2}
use Rattle.tap_set.proofs.larger.Goals as goal

-- the test, by what the two calls ensure
tested : (c : After-magnitude-2) (b : Bool) → lt c.magnitude.result c.magnitude-2.result ≡ b
    → let a = c.args in lt (magnitude_of a.x) (magnitude_of a.y) ≡ b
tested c b h =
    let a = c.args in
    ap (λ (x : Float). lt x (magnitude_of a.y)) (sym c.magnitude.ensures) ∙ ap (λ (y : Float). lt c.magnitude.result y) (sym c.magnitude-2.ensures) ∙ h

pub returns-then-magnitude : goal.returns-then-magnitude
returns-then-magnitude c =
    let args = c.args in larger_at args.x args.y true (tested c.before true c.if-magnitude.true)

pub returns-else-magnitude : goal.returns-else-magnitude
returns-else-magnitude c =
    let args = c.args in larger_at args.x args.y false (tested c.before false c.if-magnitude.false)
