-- The answers, by the checks that led to them. Assumes nothing.
use mathlib.Core.Path.{◌≡◌, refl, sym, ap, ap₂, ◌∙◌}
use mathlib.Core.Bool.{Bool, true, false, ◌||◌, or-true}
use mathlib.Core.List.{List}
use Prim.Native.Nat.{ℕ, ◌≤◌, ◌<◌}
use native.Mathlib.Omega.{arith}
use borrow.Author.Tests.{lt-ltb, le-ltb, eq-eqb, ne_eqb}
use lib.Dec.{eqb, ltb}
use lib.IntN.{ℤ}
use lib.ListN.{length}
use Rattle.refusal.specs.Answer.{Answer, given, refused, refuse_if, refuse_at, Place, nowhere, at_place, lowest, filled}
use Rattle.refusal.proofs.Checks.{check_applies, check_passes, given_refused}
use Rattle.sequence.proofs.UpTo.{length_up_to}
use Rattle.network.specs.Rows.{row_at, rows_of, tap_rows_of, network_of, row_table, tap_table}
use Rattle.network.specs.Coefficients.{coefficients}
use Rattle.network.specs.Check.{breaks_row_rule, breaks_tap_row_rule, numbers, checked, short_tables, network_answer, outcome}
use Rattle.network.specs.Claims.{TablesFit}
use Rattle.network.proofs.Passed.{answer_is}

-- ---- the checks 10 and 11

module _ (rows : List ℕ) (n : ℕ) (taps : List ℕ) (m : ℕ) where
  checked_open : checked (network_of rows n taps m)
      ≡ refuse_if (eqb n 0 || ltb 4096 n) 10
      (refuse_at (lowest (breaks_row_rule (rows_of rows n)) (numbers n)) 10
      (refuse_at (lowest (breaks_tap_row_rule (rows_of rows n)) (tap_rows_of taps m)) 11 (given (coefficients (network_of rows n taps m)))))
  unfolding checked
  checked_open =
      ap
      (λ (k : ℕ). refuse_if (eqb k 0 || ltb 4096 k) 10
      (refuse_at (lowest (breaks_row_rule (rows_of rows n)) (numbers k)) 10
      (refuse_at (lowest (breaks_tap_row_rule (rows_of rows n)) (tap_rows_of taps m)) 11 (given (coefficients (network_of rows n taps m))))))
      (length_up_to n (row_at rows))

  pub no_rows : (eqb n 0 || ltb 4096 n) ≡ true → refused 10 0 ≡ checked (network_of rows n taps m)
  no_rows b = sym (checked_open ∙ check_applies (eqb n 0 || ltb 4096 n) 10 _ b)

  -- p and q are the places of the lowest row and of the lowest tap row that break their rules
  module _ (some : n ≡ 0 → ⊥) (few : n ≤ 4096) (p q : Place) (e : p ≡ lowest (breaks_row_rule (rows_of rows n)) (numbers n)) (f : q ≡ lowest (breaks_tap_row_rule (rows_of rows n)) (tap_rows_of taps m)) where
    pub by_places : refuse_at p 10 (refuse_at q 11 (given (coefficients (network_of rows n taps m)))) ≡ checked (network_of rows n taps m)
    by_places =
        ap₂ (λ (x y : Place). refuse_at x 10 (refuse_at y 11 (given (coefficients (network_of rows n taps m))))) e f
        ∙ sym (checked_open ∙ check_passes (eqb n 0 || ltb 4096 n) 10 _ (rw (ne_eqb n 0 some, le-ltb 4096 n few)))

-- a check by places, before the last result is named
pub outcome_at : (p : Place) (number : ℕ) (h : List ℤ) → outcome (refuse_at p number (given h)) ≡ refuse_at p number (given tt)
outcome_at nowhere number h = refl
outcome_at (at_place k) number h = refl

-- ---- the checks 1, 2 and 3 before them

module _ (short : Bool) (rows : List ℕ) (n : ℕ) (taps : List ℕ) (m : ℕ) where
  pub no_taps : m ≡ 0 → refused 1 0 ≡ network_answer short rows n taps m
  no_taps e = sym (answer_is short rows n taps m ∙ check_applies (eqb m 0) 1 _ (eq-eqb m 0 e))

  module _ (some : m ≡ 0 → ⊥) where
    some_taps : network_answer short rows n taps m ≡ refuse_if (ltb 256 m) 2 (refuse_if (short_tables rows taps || short) 3 (checked (network_of rows n taps m)))
    some_taps = answer_is short rows n taps m ∙ check_passes (eqb m 0) 1 _ (ne_eqb m 0 some)

    pub many_taps : 256 < m → refused 2 0 ≡ network_answer short rows n taps m
    many_taps l = sym (some_taps ∙ check_applies (ltb 256 m) 2 _ (lt-ltb 256 m l))

    module _ (few : m ≤ 256) where
      few_taps : network_answer short rows n taps m ≡ refuse_if (short_tables rows taps || short) 3 (checked (network_of rows n taps m))
      few_taps = some_taps ∙ check_passes (ltb 256 m) 2 _ (le-ltb 256 m few)

      pub short_rows : length rows < row_table → refused 3 0 ≡ network_answer short rows n taps m
      short_rows l = sym (few_taps ∙ check_applies (short_tables rows taps || short) 3 _ (rw (lt-ltb (length rows) row_table l)))

      pub short_taps : length taps < tap_table → refused 3 0 ≡ network_answer short rows n taps m
      short_taps l =
          sym (few_taps ∙ check_applies (short_tables rows taps || short) 3 _ (rw (lt-ltb (length taps) tap_table l, or-true (ltb (length rows) row_table))))

      short_other : short ≡ true → refused 3 0 ≡ network_answer short rows n taps m
      short_other e = sym (few_taps ∙ check_applies (short_tables rows taps || short) 3 _ (rw (e, or-true (short_tables rows taps))))

      long_tables : row_table ≤ length rows → tap_table ≤ length taps → short ≡ false → checked (network_of rows n taps m) ≡ network_answer short rows n taps m
      long_tables r t e =
          sym
          (few_taps
          ∙ check_passes (short_tables rows taps || short) 3 _ (rw (le-ltb (length rows) row_table r, le-ltb (length taps) tap_table t, e)))

  -- what is left to check where the tables fit
  pub fit_checked : TablesFit false rows taps m → short ≡ false → checked (network_of rows n taps m) ≡ network_answer short rows n taps m
  fit_checked t = long_tables (λ e. absurd (omega (arith, e, t.taps_from))) t.taps_to t.rows_long t.taps_long

  pub fit_short : TablesFit false rows taps m → short ≡ true → refused 3 0 ≡ network_answer short rows n taps m
  fit_short t = short_other (λ e. absurd (omega (arith, e, t.taps_from))) t.taps_to

-- ---- a table that is lent for the coefficients

pub unchanged : (a : Answer (List ℤ)) (number place : ℕ) (cs old : List ℤ) → refused number place ≡ outcome a → old ≡ filled a cs old
unchanged (given h) number place cs old e = given_refused tt number place (sym e)
unchanged (refused n k) number place cs old e = refl
