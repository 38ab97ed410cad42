-- `plane_words::overlap_word` meets its contract. Assumes nothing.
use Rattle.plane_words.proofs.Both.{both_start, both_next}
use Rattle.plane_words.proofs.overlap_word.Goals as goal

pub loop-p-init : goal.loop-p-init
loop-p-init c = both_start c.args.plus.now c.args.minus.now c.args.j

pub loop-p-preserved : goal.loop-p-preserved
loop-p-preserved c = both_next c.loop-p.p c.loop-p.both c.args.plus.now c.args.minus.now c.args.j c.loop-p.invariant
