-- `plane_cells::reading::by_blocks` meets its contract. Assumes nothing.
use Rattle.std.proofs.Common.{◌≡◌, ℕ, ◌+◌, ◌*◌, take, length, min, sym, ap, ◌∙◌, arith, rules}
use Rattle.std.proofs.Math.Seq.{take-length}
use Rattle.plane_cells.proofs.Masks.{no_masks, block_more}
use Rattle.plane_cells.proofs.reading.by_blocks.Goals as goal

pub loop-block-init : goal.loop-block-init
loop-block-init c =
    let none : min 0 (length c.args.masks.now) ≡ 0 = omega arith in
    rw none (no_masks c.args.table.now)

pub loop-block-preserved : goal.loop-block-preserved
loop-block-preserved c =
    let from = 32 * c.loop-block.block in
    let cells = length c.args.masks.now in
    let to = c.min-to.result in
    let here : min from cells ≡ from = omega arith in
    let there : min (32 * (c.loop-block.block + 1)) cells ≡ to = omega arith in
    rw there (block_more c.args.table.now c.loop-block.masks c.read_block.new.masks from to (omega arith) (omega arith) (rw here at c.loop-block.invariant) c.read_block.ensures)

pub returns : goal.returns
returns c =
    let cells = length c.args.masks.now in
    let all : min (32 * c.loop-block.block) cells ≡ cells = omega arith in
    let long : cells ≡ length c.loop-block.masks = search rules in
    sym (take-length c.loop-block.masks) ∙ ap (λ (n : ℕ). take n c.loop-block.masks) (sym long) ∙ (rw all at c.loop-block.invariant)
