-- Building takes no row away. Assumes nothing.
use mathlib.Core.List.{List, [], ◌∷◌, reverse}
use Prim.Native.Nat.{◌≤◌}
use native.Mathlib.Nat.{le_refl, le_trans}
use native.Mathlib.Omega.{arith}
use lib.ListN.{length, length-append}
use Rattle.refusal.specs.Answer.{Place, nowhere, at_place}
use Rattle.network.specs.declared.Row.{Row}
use Rattle.build_steps.specs.Parts.{Part}
use Rattle.build_steps.specs.Search.{row_with, Fit, fit, none_fits, first_fit_of}
use Rattle.build_steps.specs.Chain.{chosen_form_of, chained}
use Rattle.build_steps.specs.Steps.{searched, looked_up, step, steps}
use Rattle.build_chain.proofs.Longer.{down_longer}

searched_longer : (f : Fit) (rows : List Row) (p : Part) → length rows ≤ length (searched f rows p)
unfolding searched chained
searched_longer (fit r) rows p = omega (arith, length-append rows (r ∷ []))
searched_longer none_fits rows p = down_longer rows (reverse (chosen_form_of p.value p.choice))

looked_up_longer : (w : Place) (rows : List Row) (p : Part) → length rows ≤ length (looked_up w rows p)
unfolding looked_up
looked_up_longer (at_place i) rows p = le_refl (length rows)
looked_up_longer nowhere rows p = searched_longer (first_fit_of rows p.value) rows p

pub step_longer : (rows : List Row) (p : Part) → length rows ≤ length (step rows p)
unfolding step
step_longer rows p = looked_up_longer (row_with rows p.value) rows p

pub steps_longer : (rows : List Row) (ps : List Part) → length rows ≤ length (steps rows ps)
unfolding steps
steps_longer rows [] = le_refl (length rows)
steps_longer rows (p ∷ ps) = le_trans (step_longer rows p) (steps_longer (step rows p) ps)
