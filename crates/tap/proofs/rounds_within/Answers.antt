-- `tap::rounds_within` meets its contract, by the laws on its two tests. Assumes nothing.
use mathlib.Core.Path.{◌∙◌}
use lib.Ieee.{neg, of_bits}
use Rattle.tap.proofs.Range.{below_high, from_high}
use Rattle.tap.proofs.rounds_within.Goals as goal

pub returns-then-x : goal.returns-then-x
unfolding neg of_bits
returns-then-x c = below_high c.args.x c.if-x.true

pub returns-else-x : goal.returns-else-x
unfolding of_bits
returns-else-x c = c.if-x.false ∙ from_high c.args.x c.if-x.false
