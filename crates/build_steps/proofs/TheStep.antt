-- Document 01's three steps for one odd part v, in its words and over lawful rows. Assumes nothing.
use mathlib.Core.Path.{◌≡◌, refl}
use mathlib.Core.List.{List}
use lib.ListN.{length}
use Rattle.network.specs.declared.Row.{Row}
use Rattle.network.specs.RowRule.{LaterRow}
use Rattle.build_steps.specs.Parts.{Part}
use Rattle.build_steps.specs.Search.{Fit, fit, none_fits, first_fit_of}
use Rattle.build_steps.specs.Steps.{step}
use Rattle.build_steps.specs.RowSteps.{Lawful, TheStep}
use Rattle.build_steps.specs.CanBuild.{Buildable}
use Rattle.build_steps.proofs.FirstFit.{fit_is_first}
use Rattle.build_steps.proofs.OnlyFit.{first_fit_only}
use Rattle.build_steps.proofs.Steps.{step_used, step_found, step_chained}

pub the_step : (rows : List Row) (p : Part) → Lawful rows → Buildable p → TheStep rows p (step rows p)
the_step rows p w b = record {
  used = λ h. step_used rows p h.0 h.1;
  found = λ n r x. step_found rows p r n (first_fit_only rows w p.value b.odd b.below r x);
  read = λ n none. step_chained rows p n (nothing none (first_fit_of rows p.value) refl);
}
  where
    nothing : ((q : Row) → q.value ≡ p.value → LaterRow rows (length rows) q → ⊥) → (f : Fit) → first_fit_of rows p.value ≡ f → first_fit_of rows p.value ≡ none_fits
    nothing none (fit r) e = let x = fit_is_first rows p.value b.odd b.below r e in absurd (none r x.value x.rule)
    nothing none none_fits e = e
