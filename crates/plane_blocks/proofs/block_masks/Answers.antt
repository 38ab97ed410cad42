-- `plane_blocks::block_masks` meets its contract: the transposed rows are the masks. Assumes nothing.
use Rattle.std.proofs.Common.{◌∙◌}
use Rattle.plane_blocks.proofs.Blocks.{transposed_masks}
use Rattle.plane_blocks.proofs.block_masks.Goals as goal

pub returns : goal.returns
returns c = c.transpose.ensures ∙ transposed_masks c.args.table.now c.gather.new.rows c.args.block c.gather.ensures
