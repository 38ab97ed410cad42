-- `tap_set::Report::with` meets its contract. Assumes nothing.
use mathlib.Core.Path.{ap}
use lib.Ieee.{Float}
use Rattle.tap_set.specs.declared.Report.{Report}
use Rattle.tap_set.specs.Inner.{with_leftover}
use Rattle.tap_set.proofs.Report.with.Goals as goal

report : Float → Float → Report
report d l = record { divisor = d; leftover = l }

pub returns : goal.returns
unfolding with_leftover report
returns c = ap (report c.args.self.divisor) c.larger.ensures
