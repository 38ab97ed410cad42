-- The rows of a network, built part by part. Document 01, "Building". Definitions only.
use Rattle.std.specs.Prelude.{List, [], ◌∷◌, ◌++◌, ℕ, ℤ}
use Rattle.refusal.specs.Answer.{Place, nowhere, at_place}
use Rattle.network.specs.declared.Row.{Row}
use Rattle.network.specs.Rows.{first_row_of}
use Rattle.build_steps.specs.Parts.{Part, parts_to_build}
use Rattle.build_steps.specs.Search.{row_with, Fit, fit, none_fits, first_fit_of}
use Rattle.build_steps.specs.Chain.{chosen_form_of, chained}

-- "The first fit is added"; "Only if none fits, read the chosen form"
unfoldable pub searched : Fit → List Row → Part → List Row
searched (fit r) rows p = rows ++ (r ∷ [])
searched none_fits rows p = chained rows (chosen_form_of p.value p.choice)

-- "If a row has this value, use it. Else search for one new row"
unfoldable pub looked_up : Place → List Row → Part → List Row
looked_up (at_place i) rows p = rows
looked_up nowhere rows p = searched (first_fit_of rows p.value) rows p

-- one odd part
unfoldable pub step : List Row → Part → List Row
step rows p = looked_up (row_with rows p.value) rows p

unfoldable pub steps : List Row → List Part → List Row
steps rows [] = rows
steps rows (p ∷ ps) = steps (step rows p) ps

-- the rows for some coefficients and choices
unfoldable pub built_rows : List ℤ → List ℕ → List Row
built_rows coefficients choices = steps (first_row_of ∷ []) (parts_to_build coefficients choices)
