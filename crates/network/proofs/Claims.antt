-- `network_claims`: the claims of specs/Claims.antt. Assumes nothing.
use Prim.Native.Nat.{ℕ}
use mathlib.Core.Path.{◌≡◌, refl, ap, ◌∙◌}
use mathlib.Core.Bool.{false}
use mathlib.Core.List.{List, ◌++◌}
use native.Mathlib.Omega.{arith}
use lib.Dec.{ltb}
use lib.IntN.{ℤ}
use lib.ListN.{length, drop}
use Rattle.refusal.specs.Answer.{Answer, given, refused, filled}
use Rattle.network.specs.Rows.{network_of}
use Rattle.network.specs.Coefficients.{coefficients}
use Rattle.network.specs.Check.{network_answer, outcome}
use Rattle.network.specs.Accepted.{Accepted}
use Rattle.network.specs.Checked.{NetworkChecked, CoefficientsRead}
use Rattle.network.specs.Claims.{NetworkRefusals, NetworkClaims}
use Rattle.network.proofs.Rules.{row_rule, row_kept, tap_rule, tap_kept}
use Rattle.network.proofs.Refusals.{network_refusals, outcome_refusals}
use Rattle.network.proofs.Passed.{given_accepted, accepted_given}
use Rattle.network.proofs.Given.{length_coefficients, coefficient_is, given_within, outcome_given, same_coefficients}
use Rattle.network.proofs.Adders.{empty_zero, zero_empty, taps_counted}
use Rattle.network.proofs.Evaluation.{rows_multiply, taps_multiply}

untouched : (a : Answer (List ℤ)) (number place : ℕ) (results old : List ℤ) → refused number place ≡ outcome a → filled a results old ≡ old
untouched (given h) number place results old e = absurd (let z : ◌≡◌ {A = ℕ} 0 1 = cc in omega arith)
untouched (refused n p) number place results old e = refl

module _ (rows : List ℕ) (n : ℕ) (taps : List ℕ) (m : ℕ) where
  check_refusals : (number place : ℕ) → NetworkChecked rows n taps m (refused number place) → NetworkRefusals false rows n taps m number place
  check_refusals number place c = outcome_refusals false rows n taps m number place c.answer

  read_refusals : (table table' : List ℤ) (number place : ℕ) → CoefficientsRead rows n taps m table (refused number place) table'
      → NetworkRefusals (ltb (length table) m) rows n taps m number place
  read_refusals table table' number place c = outcome_refusals (ltb (length table) m) rows n taps m number place c.answer

  abbrev its : List ℤ
  its = coefficients (network_of rows n taps m)

  check_passes : NetworkChecked rows n taps m (given tt) → Accepted false rows n taps m its
  check_passes c = given_accepted false rows n taps m its (outcome_given false rows n taps m c.answer)

  check_accepts : (h : List ℤ) → Accepted false rows n taps m h → (a : Answer (Unit {0})) → NetworkChecked rows n taps m a → a ≡ given tt
  check_accepts h w a c = c.answer ∙ ap outcome (accepted_given false rows n taps m h w)

  module _ (table : List ℤ) where
    read_passes : (table' : List ℤ) → CoefficientsRead rows n taps m table (given tt) table' → Accepted (ltb (length table) m) rows n taps m its
    read_passes table' c = given_accepted (ltb (length table) m) rows n taps m its (outcome_given (ltb (length table) m) rows n taps m c.answer)

    read_accepts : (h : List ℤ) → Accepted (ltb (length table) m) rows n taps m h → (a : Answer (Unit {0})) (table' : List ℤ)
        → CoefficientsRead rows n taps m table a table' → a ≡ given tt
    read_accepts h w a table' c = c.answer ∙ ap outcome (accepted_given (ltb (length table) m) rows n taps m h w)

    read_table : (table' : List ℤ) → CoefficientsRead rows n taps m table (given tt) table' → table' ≡ its ++ drop m table
    read_table table' c =
        c.written
        ∙ ap (λ (a : Answer (List ℤ)). filled a its table) (outcome_given (ltb (length table) m) rows n taps m c.answer)
        ∙ ap (λ (k : ℕ). its ++ drop k table) (length_coefficients rows n taps m)

    read_refused : (table' : List ℤ) (number place : ℕ) → CoefficientsRead rows n taps m table (refused number place) table' → table' ≡ table
    read_refused table' number place c = c.written ∙ untouched (network_answer (ltb (length table) m) rows n taps m) number place its table c.answer

pub network_claims : NetworkClaims
network_claims = record {
  row_rule = row_rule;
  row_kept = row_kept;
  tap_rule = tap_rule;
  tap_kept = tap_kept;
  given_accepted = given_accepted;
  accepted_given = accepted_given;
  check_passes = check_passes;
  check_accepts = check_accepts;
  check_refusals = check_refusals;
  read_refusals = read_refusals;
  network_refusals = network_refusals;
  read_passes = read_passes;
  read_accepts = read_accepts;
  read_table = read_table;
  read_refused = read_refused;
  coefficient_is = coefficient_is;
  given_fits = given_within;
  same_coefficients = same_coefficients;
  empty_zero = λ net h p j l e. empty_zero net h p j l e;
  zero_empty = λ net h p j l e. zero_empty net h p j l e;
  taps_counted = λ net h p. taps_counted net h p;
  rows_multiply = λ net h p sample i l. rows_multiply net h p sample i l;
  taps_multiply = λ net h p sample. taps_multiply net h p sample;
}
