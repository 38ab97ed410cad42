-- `plane_blocks::stage` meets its contract. Assumes nothing.
use Rattle.std.proofs.Common.{◌≡◌, ◌*◌, sym, ◌∙◌, arith}
use Rattle.sequence.proofs.Front.{front_start}
use Rattle.plane_blocks.specs.Inner.{mixed}
use Rattle.plane_blocks.proofs.Rows.{rows_next, front_all}
use Rattle.plane_blocks.proofs.stage.Goals as goal

pub loop-q-init : goal.loop-q-init
loop-q-init c = sym (front_start (mixed c.args.j c.args.m c.args.from.now) c.args.to.now)

pub loop-q-preserved : goal.loop-q-preserved
loop-q-preserved c = rows_next c.args.j c.args.m c.args.from.now c.args.to.now c.loop-q.to c.loop-q.q c.loop-q.invariant (omega arith)

pub returns : goal.returns
returns c =
    let e : 2 * c.loop-q.q ≡ 32 = omega arith in
    (rw e at c.loop-q.invariant) ∙ front_all (mixed c.args.j c.args.m c.args.from.now) c.args.to.now 32 (omega arith)
