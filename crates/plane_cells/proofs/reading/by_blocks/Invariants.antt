-- `plane_cells::reading::by_blocks` meets its contract. The invariant of its loop: the elements of the cells below `block` are masks. Assumes nothing.
use Rattle.std.proofs.Common.{◌≡◌, ◌*◌, min, take}
use Rattle.plane_masks.specs.Planes.{cell_masks}
use Rattle.plane_cells.proofs.reading.by_blocks.Given as goal

abbrev pub invariant-loop-block : goal.invariant-loop-block
invariant-loop-block l = take (min (32 * l.block) l.cells) l.masks ≡ cell_masks (min (32 * l.block) l.cells) l.table
