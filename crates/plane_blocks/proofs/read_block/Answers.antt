-- `plane_blocks::read_block` meets its contract: the front of the masks of the block. Assumes nothing.
use Rattle.std.proofs.Common.{◌≡◌, ℕ, ◌+◌, ◌*◌, length, take, ◌∙◌, rules}
use Rattle.plane_masks.specs.Planes.{cell_mask}
use Rattle.plane_blocks.proofs.Rows.{take_front}
use Rattle.plane_blocks.proofs.read_block.Goals as goal

pub returns : goal.returns
returns c =
    let n = length c.args.masks.now in
    let e : c.copy_from_slice.new.self ≡ take n c.block_masks.new.masks = search rules in
    e ∙ take_front (λ (b : ℕ). cell_mask c.args.table.now (32 * c.args.block + b)) c.block_masks.new.masks n 32 (search rules) c.block_masks.ensures
