-- `plane_grid::read_planes` meets its contract. The sizes are checked first, then whether a cell overlaps; past both, `read_masks` reads all masks of each table. A refusal leaves both tables as they were. Assumes nothing.
use Rattle.std.proofs.Common.{arith}
use Rattle.std.proofs.lemmas.Result.{err_from_is_err_and}
use Rattle.plane_grid.proofs.Entries.{not_read, tables_read, overlap_below, overlap_there, few_taken, all_read}
use Rattle.plane_grid.proofs.read_planes.Goals as goal

pub returns-in_err-cells : goal.returns-in_err-cells
returns-in_err-cells c =
    let a = c.args in
    let p = err_from_is_err_and c.from_residual.result c.from_residual.ensures.1 in
    rw (p.1, p.2) (not_read a.height a.width a.plus.now a.minus.now a.first.now a.second.now _ _ c.in_err-cells.ensures)

pub first_overlap-requires : goal.first_overlap-requires
first_overlap-requires c =
    let a = c.args in
    let ok = c.in_ok-cells.ensures in
    tables_read a.height a.width a.plus.now a.minus.now a.first.now a.second.now _ ok.0 ok.1

pub overflow_cast-result : goal.overflow_cast-result
overflow_cast-result c =
    let a = c.args in
    let ok = c.in_ok-cells.ensures in
    record { fits = omega (arith, overlap_below a.height a.width a.plus.now a.minus.now a.first.now a.second.now _ ok.0 ok.1 _ c.in-Some.ensures) }

pub returns-in-Some : goal.returns-in-Some
returns-in-Some c =
    let a = c.args in
    let ok = c.in_ok-cells.ensures in
    overlap_there a.height a.width a.plus.now a.minus.now a.first.now a.second.now _ ok.0 ok.1 _ c.in-Some.ensures

pub read_masks-requires : goal.read_masks-requires
read_masks-requires c =
    let a = c.args in
    let ok = c.in_ok-cells.ensures in
    (omega (arith, ok.1.plus_long, ok.1.minus_long), few_taken a.height a.width a.plus.now a.minus.now a.first.now a.second.now _ ok.0 ok.1 a.first.now)

pub read_masks-requires-2 : goal.read_masks-requires-2
read_masks-requires-2 c =
    let a = c.args in
    let ok = c.in_ok-cells.ensures in
    (omega (arith, ok.1.plus_long, ok.1.minus_long), few_taken a.height a.width a.plus.now a.minus.now a.first.now a.second.now _ ok.0 ok.1 a.second.now)

pub returns : goal.returns
returns c =
    let a = c.args in
    let ok = c.in_ok-cells.ensures in
    all_read a.height a.width a.plus.now a.minus.now a.first.now a.second.now _ ok.0 ok.1 c.read_masks.new.masks c.read_masks-2.new.masks
    c.in_default.ensures c.read_masks.ensures c.read_masks-2.ensures
