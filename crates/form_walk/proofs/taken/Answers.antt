-- `form_walk::taken` meets its contract. Assumes nothing.
use native.Mathlib.Omega.{arith}
use Rattle.form_walk.proofs.Parts.{taken_is}
use Rattle.form_walk.proofs.taken.Goals as goal

pub returns : goal.returns
returns c =
    taken_is c.args.opposite c.args.equal (omega (arith, c.ranges.opposite)) (omega (arith, c.ranges.equal))
    c.ahead.result c.ahead-2.result c.ahead-3.result c.ahead-4.result
    c.ahead.ensures c.ahead-2.ensures c.ahead-3.ensures c.ahead-4.ensures
