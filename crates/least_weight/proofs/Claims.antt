-- The claims of specs/Claims.antt: `least_weight_claims`. Assumes nothing.
use Rattle.least_weight.specs.Claims.{LeastWeightClaims}
use Rattle.least_weight.proofs.Logarithm.{log_enough, log_least, log_between}
use Rattle.least_weight.proofs.Weight.{attained, weight_least, weight_is, weight_in_lem, weight_sum, weight_difference, weight_neg, weight_shift}

pub least_weight_claims : LeastWeightClaims
least_weight_claims = record {
  none_below = weight_least;
  attained = λ z. (let a = attained z in (a.string, a.minimal, a.weighs));
  every_minimal = weight_is;
  in_places = weight_in_lem;
  of_sum = weight_sum;
  of_difference = weight_difference;
  of_opposite = weight_neg;
  of_shifted = weight_shift;
  log_enough = log_enough;
  log_least = log_least;
  log_between = log_between;
}
