-- `tap::scaled` meets its contract. Assumes nothing.
use mathlib.Core.Path.{ap}
use lib.Ieee.{binary64, mul}
use Rattle.tap.proofs.Steps.{power_is, power_number}
use Rattle.tap.proofs.scaled.Goals as goal

pub float_from_bits-result : goal.float_from_bits-result
float_from_bits-result c = power_number c.args.f c.requires

pub returns : goal.returns
returns c = ap (mul binary64 c.args.x) (power_is c.args.f c.requires)
