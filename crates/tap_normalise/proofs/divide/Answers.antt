-- `tap_normalise::divide` meets its contract. Assumes nothing.
use mathlib.Core.Path.{sym, ap, ◌∙◌}
use mathlib.Core.List.{List}
use native.Mathlib.Omega.{arith}
use lib.ListN.{set}
use lib.Ieee.{Float, nan, binary64, div}
use Rattle.sequence.proofs.Front.{front_start, front_next, front_map}
use Rattle.tap_normalise.proofs.divide.Invariants.{at}
use Rattle.tap_normalise.proofs.divide.Goals as goal

pub loop-i-init : goal.loop-i-init
loop-i-init c = sym (front_start (at c.args.taps.now c.args.sum) c.args.table.now)

pub loop-i-preserved : goal.loop-i-preserved
loop-i-preserved c =
    let i = c.loop-i.i in
    let f = at c.args.taps.now c.args.sum in
    ap (λ (t : List Float). set t i (f i)) c.loop-i.invariant ∙ front_next f c.args.table.now i nan (omega arith)

pub returns : goal.returns
returns c =
    let taps = c.args.taps.now in
    c.loop-i.invariant ∙ front_map (λ (x : Float). div binary64 x c.args.sum) nan taps c.args.table.now c.loop-i.i (omega arith) (omega arith)
