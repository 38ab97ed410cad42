-- `plane_grid::choices::first_without_form` meets its contract. Assumes nothing.
use Rattle.std.proofs.Common.{◌≡◌, true, length, sym, arith, rules}
use Rattle.plane_masks.specs.Grid.{no_form}
use Rattle.plane_masks.proofs.Lists.{lowest_cell, no_cell}
use Rattle.plane_grid.proofs.choices.first_without_form.Goals as goal

pub returns-then-not-has_form : goal.returns-then-not-has_form
returns-then-not-has_form c =
    let n = c.args.coefficients.now in
    let here : no_form n c.args.choices.now c.loop-c.c ≡ true = search rules in
    sym (lowest_cell (no_form n c.args.choices.now) (length n) c.loop-c.c c.loop-c-test.true here c.loop-c.invariant)

pub returns : goal.returns
returns c =
    let n = c.args.coefficients.now in
    sym (no_cell (no_form n c.args.choices.now) (length n) (λ i h. c.loop-c.invariant i (omega arith)))
