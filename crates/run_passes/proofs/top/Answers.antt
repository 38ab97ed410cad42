-- `run_passes::top` meets its contract. Assumes nothing.
use Rattle.std.proofs.Common.{◌<◌, ◌+◌, length, get_or, arith, ◌∙◌, ap}
use Rattle.std.proofs.Math.ListN.{length-set}
use Rattle.run_products.specs.Inner.{raised_by}
use Rattle.run_passes.proofs.Tops.{raised_more}
use Rattle.run_passes.proofs.top.Goals as goal

pub loop-k-preserved : goal.loop-k-preserved
loop-k-preserved c =
    let line = c.loop-k.line in
    let k = c.loop-k.k in
    let l : k < length line.words = omega arith in
    record {
      size = length-set _ _ _ ∙ c.loop-k.invariant.size;
      bias = c.loop-k.invariant.bias;
      raised = (λ r z f.
          raised_more c.args.tables.now.offsets.now c.args.line.now.bias r line.words k c.raised.result l (z k (omega arith))
          (c.raised.ensures ∙ ap (λ b. raised_by (get_or c.args.tables.now.offsets.now (k + 5) 0) b 0) c.loop-k.invariant.bias) (c.loop-k.invariant.raised r z f));
    }
