-- The figures of specs/Figures.antt: `network_figures`. Assumes nothing.
use mathlib.Core.Path.{◌≡◌, refl, sym, ap, ◌∙◌}
use mathlib.Core.Bool.{Bool, false, ◌||◌}
use mathlib.Core.List.{List, [], ◌∷◌, ◌++◌}
use Prim.Native.Nat.{ℕ, ◌≤◌, ◌<◌}
use native.Mathlib.Omega.{arith}
use borrow.Author.Tests.{le-ltb}
use lib.Dec.{ltb}
use lib.IntN.{ℤ, pos, neg_ℤ}
use lib.ListN.{length, get_or}
use Rattle.word.specs.Bounds.{Coefficient}
use Rattle.refusal.specs.Answer.{Answer, given, filled, lowest_from}
use Rattle.refusal.proofs.Checks.{check_passes}
use Rattle.sequence.specs.UpTo.{up_to}
use Rattle.network.specs.Rows.{network_of, row_table, tap_table}
use Rattle.network.specs.RowRule.{keeps_row_rule_of}
use Rattle.network.specs.Coefficients.{coefficient_of, coefficients}
use Rattle.network.specs.TapRowRule.{keeps_tap_row_rule}
use Rattle.network.specs.Check.{checked, short_tables, network_answer, outcome}
use Rattle.network.specs.Accepted.{KeepsRules, Accepted}
use Rattle.network.specs.Checked.{NetworkChecked, CoefficientsRead}
use Rattle.network.specs.Evaluation.{row_results, tap_results}
use Rattle.network.specs.Figures.{sheet_rows, sheet_tap_rows, sheet_coefficients, NetworkFigures}
use Rattle.network.proofs.NearFigures.{own_row, two_broken_rows, rows_before_taps, two_broken_taps, no_row, no_such_row, least, too_large, above_2_to_31}
use Rattle.network.proofs.AdderFigures.{sheet_adders, zero_taps, one_tap, equal_taps, one_odd_part}
use Rattle.network.proofs.Passed.{checked_passed, given_accepted}
use Rattle.network.proofs.Given.{coefficient_within}

-- it passes, whatever stands past it in the tables
passes : (r t : List ℕ) → checked (network_of (sheet_rows r) 3 (sheet_tap_rows t) 4) ≡ given sheet_coefficients
unfolding checked up_to lowest_from keeps_row_rule_of keeps_tap_row_rule coefficient_of
passes r t = refl

pub sheet_network_lem : (r t : List ℕ) → row_table ≤ length (sheet_rows r) → tap_table ≤ length (sheet_tap_rows t) → network_answer false (sheet_rows r) 3 (sheet_tap_rows t) 4 ≡ given sheet_coefficients
unfolding network_answer
sheet_network_lem r t l m =
    check_passes (short_tables (sheet_rows r) (sheet_tap_rows t) || false) 3 (checked (network_of (sheet_rows r) 3 (sheet_tap_rows t) 4))
    (rw (le-ltb (length (sheet_rows r)) row_table l, le-ltb (length (sheet_tap_rows t)) tap_table m))
    ∙ passes r t

-- what its rows give for a sample of 7 by shifts and sums, and its taps
pub sheet_sample : (r t : List ℕ) → tap_results (network_of (sheet_rows r) 3 (sheet_tap_rows t) 4) (pos 7) ≡ pos 21 ∷ neg_ℤ (pos 42) ∷ pos 315 ∷ pos 0 ∷ []
unfolding row_results up_to
sheet_sample r t = refl

-- ---- the hypotheses of the claims hold of the sheet's network
module _ (r t : List ℕ) where
  sheet_rules : KeepsRules (network_of (sheet_rows r) 3 (sheet_tap_rows t) 4) sheet_coefficients
  sheet_rules = checked_passed (network_of (sheet_rows r) 3 (sheet_tap_rows t) 4) sheet_coefficients (passes r t)

  module _ (l : row_table ≤ length (sheet_rows r)) (m : tap_table ≤ length (sheet_tap_rows t)) where
    sheet_accepted : Accepted false (sheet_rows r) 3 (sheet_tap_rows t) 4 sheet_coefficients
    sheet_accepted = given_accepted false (sheet_rows r) 3 (sheet_tap_rows t) 4 sheet_coefficients (sheet_network_lem r t l m)

    sheet_checked : NetworkChecked (sheet_rows r) 3 (sheet_tap_rows t) 4 (given tt)
    sheet_checked = record { answer = sym (ap outcome (sheet_network_lem r t l m)) }

    sheet_read : (a b c d : ℤ) (more : List ℤ) → CoefficientsRead (sheet_rows r) 3 (sheet_tap_rows t) 4 (a ∷ b ∷ c ∷ d ∷ more) (given tt) (sheet_coefficients ++ more)
    unfolding up_to
    sheet_read a b c d more =
        let table : List ℤ = a ∷ b ∷ c ∷ d ∷ more in
        let e : network_answer (ltb (length table) 4) (sheet_rows r) 3 (sheet_tap_rows t) 4 ≡ given sheet_coefficients =
        ap (λ (b : Bool). network_answer b (sheet_rows r) 3 (sheet_tap_rows t) 4) (le-ltb (length table) 4 (omega arith)) ∙ sheet_network_lem r t l m in
        record {
          answer = sym (ap outcome e);
          written =
              ap (λ (h : List ℤ). h ++ more) sheet_rules.result
              ∙ sym (ap (λ (x : Answer (List ℤ)). filled x (coefficients (network_of (sheet_rows r) 3 (sheet_tap_rows t) 4)) table) e);
        }

-- its coefficients are within bounds
pub sheet_within : (i : ℕ) → i < length sheet_coefficients → Coefficient (get_or sheet_coefficients i (pos 0))
unfolding up_to
sheet_within i l = coefficient_within (network_of (sheet_rows []) 3 (sheet_tap_rows []) 4) sheet_coefficients (sheet_rules [] []) i l

pub network_figures : NetworkFigures
network_figures = record {
  sheet_network_lem = sheet_network_lem;
  sheet_rules = sheet_rules;
  sheet_accepted = sheet_accepted;
  sheet_checked = sheet_checked;
  sheet_read = sheet_read;
  sheet_sample = sheet_sample;
  sheet_adders = sheet_adders;
  zero_taps = zero_taps;
  one_tap = one_tap;
  equal_taps = equal_taps;
  one_odd_part = one_odd_part;
  own_row = own_row;
  two_broken_rows = two_broken_rows;
  rows_before_taps = rows_before_taps;
  two_broken_taps = two_broken_taps;
  no_row = no_row;
  no_such_row = no_such_row;
  least = least;
  too_large = too_large;
  above_2_to_31 = above_2_to_31;
}
