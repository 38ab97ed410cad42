-- `run_moves::lower` meets its contract. A word is raised from one number only (`raised_one`), so what `lowered` gives is the register. Assumes nothing.
use Rattle.std.proofs.Common.{◌≡◌, ◌+◌, ◌<◌, length, sym, ap, ◌∙◌, arith, get_or, slice_set}
use Rattle.sequence.specs.Inner.{front}
use Rattle.sequence.proofs.Front.{front_start, front_next}
use Rattle.run_convolution.specs.Sums.{held}
use Rattle.run_products.proofs.FourSums.{raised_one}
use Rattle.run_moves.proofs.lower.Goals as goal

pub loop-k-init : goal.loop-k-init
loop-k-init c r f g = sym (front_start _ _)

pub loop-k-preserved : goal.loop-k-preserved
loop-k-preserved c r f g =
    let k = c.loop-k.k in
    let old = c.args.registers.now in
    let n = c.lowered.result in
    let l : k < length old = omega arith in
    let v : n ≡ held r k = raised_one (get_or c.args.tables.now.offsets.now (k + 5) 0) c.args.line.now.bias n (held r k) (omega arith) (f k) (c.lowered.ensures ∙ g.at k c.loop-k-test.true) in
    ap (λ q. slice_set q k n) (c.loop-k.invariant r f g) ∙ ap (slice_set (front (held r) old k) k) v ∙ front_next (held r) old k 0 l
