-- `plane_grid::choices::first_without_form` meets its contract. The invariant of its loop: every cell that was passed has its form. Assumes nothing.
use Rattle.std.proofs.Common.{◌≡◌, ℕ, ◌<◌, false}
use Rattle.plane_masks.specs.Grid.{no_form}
use Rattle.plane_grid.proofs.choices.first_without_form.Given as goal

abbrev pub invariant-loop-c : goal.invariant-loop-c
invariant-loop-c l = (k : ℕ) → k < l.c → no_form l.coefficients l.choices k ≡ false
