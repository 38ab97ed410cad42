-- `plane_blocks::gather` meets its contract. Assumes nothing.
use Rattle.std.proofs.Common.{◌≡◌, ℕ, List, set, sym, ap, ◌∙◌, arith}
use Rattle.sequence.proofs.Front.{front_start, front_next}
use Rattle.plane_blocks.specs.Inner.{half_word}
use Rattle.plane_blocks.proofs.Rows.{front_all}
use Rattle.plane_blocks.proofs.gather.Goals as goal

pub loop-p-init : goal.loop-p-init
loop-p-init c = sym (front_start (half_word c.args.table.now c.args.block) c.args.rows.now)

pub loop-p-preserved : goal.loop-p-preserved
unfolding half_word
loop-p-preserved c =
    let f = half_word c.args.table.now c.args.block in
    let p = c.loop-p.p in
    ap (λ (t : List ℕ). set t p (f p)) c.loop-p.invariant ∙ front_next f c.args.rows.now p 0 (omega arith)

pub returns : goal.returns
returns c =
    let e : c.loop-p.p ≡ 32 = omega arith in
    (rw e at c.loop-p.invariant) ∙ front_all (half_word c.args.table.now c.args.block) c.args.rows.now 32 (omega arith)
