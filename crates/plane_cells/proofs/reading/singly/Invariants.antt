-- `plane_cells::reading::singly` meets its contract. The invariant of its loop: the elements below `c` are masks of cells, and the rest are as they were. Assumes nothing.
use mathlib.Core.Path.{◌≡◌}
use Rattle.sequence.specs.Inner.{front}
use Rattle.plane_masks.specs.Planes.{cell_mask}
use Rattle.plane_cells.proofs.reading.singly.Given as goal

abbrev pub invariant-loop-c : goal.invariant-loop-c
invariant-loop-c l = l.masks ≡ front (cell_mask l.table) l.initial.masks l.c
