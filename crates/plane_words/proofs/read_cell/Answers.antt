-- `plane_words::read_cell` meets its contract. Assumes nothing.
use Rattle.std.proofs.Common.{◌≡◌, ◌+◌, ◌*◌, ◌-◌, ◌<◌, ◌^◌, sym, ◌∙◌, arith}
use Rattle.plane_masks.specs.Planes.{plane_bit}
use Rattle.plane_words.proofs.High.{high_start, high_step, high_fits, high_end}
use Rattle.plane_words.proofs.read_cell.Goals as goal
use Rattle.plane_words.proofs.read_cell.Goals.{In-loop-p}

-- the mask with one plane more fits in 32 bits
within : (c : In-loop-p) → 2 * c.loop-p.mask + plane_bit c.args.table.now (c.loop-p.p - 1) c.args.c < 2 ^ 32
within c =
    let at = c.loop-p in
    let t = c.args.table.now in
    high_fits t c.args.c (at.p - 1) _ (omega arith) (high_step t c.args.c at.p at.mask (omega arith) at.auto.p at.invariant)

pub loop-p-init : goal.loop-p-init
loop-p-init c = sym (high_start c.args.table.now c.args.c)

pub overflow_mul-mask : goal.overflow_mul-mask
overflow_mul-mask c = record { fits = omega (arith, within (goal.at-overflow_mul-mask c).In-loop-p) }

pub overflow_add-mask : goal.overflow_add-mask
overflow_add-mask c = record { fits = omega (arith, within (goal.at-overflow_add-mask c).In-loop-p) }

pub loop-p-preserved : goal.loop-p-preserved
loop-p-preserved c = high_step c.args.table.now c.args.c c.loop-p.p c.loop-p.mask (omega arith) c.loop-p.auto.p c.loop-p.invariant

pub returns : goal.returns
returns c = let z : c.loop-p.p ≡ 0 = omega arith in (rw z at c.loop-p.invariant) ∙ high_end c.args.table.now c.args.c
