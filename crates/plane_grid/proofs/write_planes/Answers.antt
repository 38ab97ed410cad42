-- `plane_grid::write_planes` meets its contract. The sizes are checked first, then the choices; past both, `write_cells` writes all planes. A refusal leaves both tables as they were. Assumes nothing.
use Rattle.std.proofs.Common.{arith}
use Rattle.std.proofs.lemmas.Result.{err_from_is_err_and}
use Rattle.plane_grid.proofs.Entries.{not_written, same_lengths, cell_below, no_form_there, forms_there, all_written}
use Rattle.plane_grid.proofs.write_planes.Goals as goal

pub returns-in_err-cells : goal.returns-in_err-cells
returns-in_err-cells c =
    let a = c.args in
    let p = err_from_is_err_and c.from_residual.result c.from_residual.ensures.1 in
    rw (p.1, p.2) (not_written a.height a.width a.coefficients.now a.choices.now a.plus.now a.minus.now _ _ c.in_err-cells.ensures)

pub overflow_cast-result : goal.overflow_cast-result
overflow_cast-result c =
    let a = c.args in
    let ok = c.in_ok-cells.ensures in
    record { fits = omega (arith, cell_below a.height a.width a.coefficients.now a.choices.now a.plus.now a.minus.now _ ok.0 ok.1 _ c.in-Some.ensures) }

pub returns-in-Some : goal.returns-in-Some
returns-in-Some c =
    let a = c.args in
    let ok = c.in_ok-cells.ensures in
    no_form_there a.height a.width a.coefficients.now a.choices.now a.plus.now a.minus.now _ ok.0 ok.1 _ c.in-Some.ensures

pub write_cells-requires-clause-sizes : goal.write_cells-requires-clause-sizes
write_cells-requires-clause-sizes c =
    let a = c.args in
    let ok = c.in_ok-cells.ensures in
    same_lengths a.height a.width a.coefficients.now a.choices.now a.plus.now a.minus.now _ ok.0 ok.1

pub write_cells-requires-clause-have_forms : goal.write_cells-requires-clause-have_forms
write_cells-requires-clause-have_forms c =
    let a = c.args in
    let ok = c.in_ok-cells.ensures in
    forms_there a.height a.width a.coefficients.now a.choices.now a.plus.now a.minus.now _ ok.0 ok.1 c.in_default.ensures

pub write_cells-requires-clause-room : goal.write_cells-requires-clause-room
write_cells-requires-clause-room c =
    let fits = c.in_ok-cells.ensures.1 in
    (omega (arith, fits.plus_long, fits.minus_long), omega (arith, fits.plus_long, fits.minus_long))

pub returns : goal.returns
returns c =
    let a = c.args in
    let ok = c.in_ok-cells.ensures in
    all_written a.height a.width a.coefficients.now a.choices.now a.plus.now a.minus.now _ ok.0 ok.1 c.write_cells.new.plus c.write_cells.new.minus
    c.in_default.ensures c.write_cells.ensures.plus c.write_cells.ensures.minus
