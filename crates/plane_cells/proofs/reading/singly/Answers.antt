-- `plane_cells::reading::singly` meets its contract. Assumes nothing.
use Rattle.std.proofs.Common.{◌≡◌, ℕ, List, length, set, sym, refl, ap₂, ◌∙◌, arith}
use Rattle.sequence.proofs.Front.{front_start, front_next}
use Rattle.plane_masks.specs.Planes.{cell_mask}
use Rattle.plane_cells.proofs.Masks.{all_masks}
use Rattle.plane_cells.proofs.reading.singly.Goals as goal

pub loop-c-init : goal.loop-c-init
loop-c-init c = sym (front_start (cell_mask c.args.table.now) c.args.masks.now)

pub loop-c-preserved : goal.loop-c-preserved
loop-c-preserved c =
    ap₂ (λ (t : List ℕ) (x : ℕ). set t c.loop-c.c x) c.loop-c.invariant c.read_cell.ensures
    ∙ front_next (cell_mask c.args.table.now) c.args.masks.now c.loop-c.c 0 (omega arith)

pub returns : goal.returns
returns c =
    let e : c.loop-c.c ≡ length c.args.masks.now = omega arith in
    (rw e at c.loop-c.invariant) ∙ all_masks c.args.table.now c.args.masks.now (length c.args.masks.now) refl
