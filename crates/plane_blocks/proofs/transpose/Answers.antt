-- `plane_blocks::transpose` meets its contract: what the five stages leave, one after the other, is what `all_transposed` speaks of. Assumes nothing.
use Rattle.plane_blocks.proofs.Transposed.{all_transposed}
use Rattle.plane_blocks.proofs.transpose.Goals as goal

pub returns : goal.returns
returns c =
    all_transposed c.args.rows.now c.stage.new.to c.stage-2.new.to c.stage-3.new.to c.stage-4.new.to c.stage-5.new.to
    c.stage.ensures c.stage-2.ensures c.stage-3.ensures c.stage-4.ensures c.stage-5.ensures
