-- `run_moves::raise` meets its contract. Assumes nothing.
use Rattle.std.proofs.Common.{◌<◌, ◌≢◌, length, arith, get_or-set_other, get_or-set_same, below_more, ◌∙◌}
use Rattle.std.proofs.Math.ListN.{length-set}
use Rattle.run_moves.proofs.raise.Goals as goal

pub loop-k-preserved : goal.loop-k-preserved
loop-k-preserved c =
    record {
      size = length-set _ _ _ ∙ c.loop-k.invariant.size;
      bias = c.loop-k.invariant.bias;
      raised =
          below_more _ _ (λ i h. let ne : i ≢ c.loop-k.k = omega arith in rw get_or-set_other (c.loop-k.invariant.raised i h))
          (let lt : c.loop-k.k < length c.loop-k.line.words = omega arith in rw get_or-set_same c.raised.ensures);
    }
