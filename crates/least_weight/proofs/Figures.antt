-- The figures of specs/Figures.antt: `weight_figures`. By computation. Assumes nothing.
use mathlib.Core.Path.{refl}
use Rattle.signed_digit.specs.CanonicalForm.{canonical_nat}
use Rattle.least_weight.specs.Logarithm.{least_from, log2up}
use Rattle.least_weight.specs.Weight.{nat_weight}
use Rattle.least_weight.specs.Figures.{WeightFigures}
use Rattle.least_weight.proofs.Weight.{weight_zero, weight_one}

pub weight_figures : WeightFigures
unfolding nat_weight canonical_nat log2up least_from
weight_figures = record {
  of_0 = weight_zero;
  of_1 = weight_one;
  of_45 = refl;
  of_minus_45 = refl;
  of_1431655765 = refl;
  of_64_ones = refl;
  of_4_and_1 = refl;
  of_1_and_1 = refl;
  log_1 = refl;
  log_16 = refl;
  log_17 = refl;
}
