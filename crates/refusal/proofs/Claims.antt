-- `refusal_claims`: the claims of specs/Claims.antt. Assumes nothing.
use mathlib.Core.Path.{ap}
use Rattle.refusal.specs.Answer.{Place, refuse_at}
use Rattle.refusal.specs.Claims.{RefusalClaims}
use Rattle.refusal.proofs.Checks.{check_applies, check_passes, lowest_none_at}
use Rattle.refusal.proofs.Lowest.{lowest_is, is_lowest, is_nowhere}

pub refusal_claims : (A : Type 0) → RefusalClaims A
refusal_claims A = record {
  check_first = check_applies;
  place_first = λ p number i rest e. ap (λ (q : Place). refuse_at q number rest) e;
  check_next = check_passes;
  place_next = λ p number rest e. ap (λ (q : Place). refuse_at q number rest) e;
  lowest_place = λ a breaks xs i. (lowest_is a breaks xs i, is_lowest a breaks xs i);
  no_place = λ a breaks xs. (λ e i l. lowest_none_at a breaks 0 xs i e l, is_nowhere a breaks xs 0);
}
