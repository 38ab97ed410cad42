-- The claims of specs/Claims.antt, proved. Assumes nothing.
use Rattle.coefficient.specs.Claims.{CoefficientClaims}
use Rattle.coefficient.proofs.TheReduction.{answer_right}
use Rattle.coefficient.proofs.TheStretch.{stretch_found, stretch_own}
use Rattle.coefficient.proofs.Figures.{reduction_figures, trimmed_figures}

pub coefficient_claims : CoefficientClaims
coefficient_claims = record {
  reduction_right = answer_right;
  stretch_found = stretch_found;
  stretch_own = stretch_own;
  reductions = reduction_figures;
  stretches = trimmed_figures;
}
