-- `run_tables::fill_coefficients` meets its contract. Assumes nothing.
use Rattle.std.proofs.Common.{◌≡◌, length, subst, arith}
use Rattle.run_tables.proofs.Filling.{Filled, filled_start, filled_zero_from, filled_all}
use Rattle.run_tables.proofs.fill_coefficients.Goals as goal

pub loop-k-init : goal.loop-k-init
loop-k-init c = filled_start _ _ c.requires.zeros

pub returns-clause-coefficients : goal.returns-clause-coefficients
returns-clause-coefficients c =
    let e : c.loop-k.k ≡ c.args.w = omega arith in
    let n : length c.args.h.now ≡ 256 = omega arith in
    filled_all _ _ c.args.w c.requires.width_to n c.requires.zero_from (subst (Filled c.args.h.now c.loop-k.stored) e c.loop-k.invariant)

pub returns-clause-zero_from : goal.returns-clause-zero_from
returns-clause-zero_from c =
    let e : c.loop-k.k ≡ c.args.w = omega arith in
    filled_zero_from c.args.h.now _ c.args.w (subst (Filled c.args.h.now c.loop-k.stored) e c.loop-k.invariant)
