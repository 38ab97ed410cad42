-- Document 01, "The sheet": the network of the taps 3, -6, 45, 0, the adders of some, and some that break a rule or stand at a bound. proofs/Figures.antt proves them.
-- Definitions only.
use Rattle.std.specs.Prelude.{ℕ, ◌+◌, ◌-◌, ◌^◌, ◌≤◌, ◌≡◌, false, List, [], ◌∷◌, ◌++◌, ℤ, pos, neg_ℤ, length}
use Rattle.refusal.specs.Answer.{given, refused}
use Rattle.network.specs.Rows.{plus, minus, none, words_of_row, row_table, words_of_tap_row, tap_table, network_of}
use Rattle.network.specs.Adders.{adders}
use Rattle.network.specs.Check.{checked, network_answer}
use Rattle.network.specs.Accepted.{KeepsRules, Accepted}
use Rattle.network.specs.Checked.{NetworkChecked, CoefficientsRead}
use Rattle.network.specs.Evaluation.{tap_results}

-- the words of a row, and of a tap row
abbrev pub row : ℕ → ℕ → ℕ → ℕ → ℕ → List ℕ → List ℕ
row left right shift sign value more = words_of_row (record { left = left; right = right; shift = shift; sign = sign; value = value }) ++ more

abbrev pub tap : ℕ → ℕ → ℕ → List ℕ → List ℕ
tap sign number shift more = words_of_tap_row (record { sign = sign; row = number; shift = shift }) ++ more

-- the sheet's tables, and what stands past it in them
abbrev pub sheet_rows : List ℕ → List ℕ
sheet_rows more = row 0 0 0 plus 1 (row 0 0 1 plus 3 (row 1 1 4 minus 45 more))

abbrev pub sheet_tap_rows : List ℕ → List ℕ
sheet_tap_rows more = tap plus 1 0 (tap minus 1 1 (tap plus 2 0 (tap none 0 0 more)))

abbrev pub sheet_coefficients : List ℤ
sheet_coefficients = pos 3 ∷ neg_ℤ (pos 6) ∷ pos 45 ∷ pos 0 ∷ []

pub record NetworkFigures : Type 0 where
  -- the sheet's network passes, whatever stands past it in tables that are long enough
  pub sheet_network_lem : (r t : List ℕ) → row_table ≤ length (sheet_rows r) → tap_table ≤ length (sheet_tap_rows t)
      → network_answer false (sheet_rows r) 3 (sheet_tap_rows t) 4 ≡ given sheet_coefficients
  pub sheet_rules : (r t : List ℕ) → KeepsRules (network_of (sheet_rows r) 3 (sheet_tap_rows t) 4) sheet_coefficients
  pub sheet_accepted : (r t : List ℕ) → row_table ≤ length (sheet_rows r) → tap_table ≤ length (sheet_tap_rows t)
      → Accepted false (sheet_rows r) 3 (sheet_tap_rows t) 4 sheet_coefficients
  pub sheet_checked : (r t : List ℕ) → row_table ≤ length (sheet_rows r) → tap_table ≤ length (sheet_tap_rows t)
      → NetworkChecked (sheet_rows r) 3 (sheet_tap_rows t) 4 (given tt)
  -- its coefficients are read into a table of four or more
  pub sheet_read : (r t : List ℕ) → row_table ≤ length (sheet_rows r) → tap_table ≤ length (sheet_tap_rows t) → (a b c d : ℤ) (more : List ℤ)
      → CoefficientsRead (sheet_rows r) 3 (sheet_tap_rows t) 4 (a ∷ b ∷ c ∷ d ∷ more) (given tt) (sheet_coefficients ++ more)
  -- what its taps give for a sample of 7 by shifts and sums
  pub sheet_sample : (r t : List ℕ) → tap_results (network_of (sheet_rows r) 3 (sheet_tap_rows t) 4) (pos 7) ≡ pos 21 ∷ neg_ℤ (pos 42) ∷ pos 315 ∷ pos 0 ∷ []
  -- ---- adders, of the rows and joining the taps (document 02, request 2): "The sheet in 01 then ends `total,4,,,,,`"
  pub sheet_adders : (r t : List ℕ) → adders (network_of (sheet_rows r) 3 (sheet_tap_rows t) 4) ≡ 2 + 2
  -- all taps 0: one row, and nothing to join
  pub zero_taps : adders (network_of (sheet_rows []) 1 (tap none 0 0 (tap none 0 0 (tap none 0 0 []))) 3) ≡ 0
  -- one tap that is not 0: nothing to join
  pub one_tap : adders (network_of (sheet_rows []) 3 (tap none 0 0 (tap minus 2 1 (tap none 0 0 []))) 3) ≡ 2 + 0
  -- four equal taps, and four of one odd part: each counts
  pub equal_taps : adders (network_of (sheet_rows []) 2 (tap plus 1 0 (tap plus 1 0 (tap plus 1 0 (tap plus 1 0 [])))) 4) ≡ 1 + 3
  pub one_odd_part : adders (network_of (sheet_rows []) 2 (tap plus 1 0 (tap minus 1 0 (tap plus 1 1 (tap minus 1 2 [])))) 4) ≡ 1 + 3
  -- ---- near it: each breaks one rule
  -- row 2 names itself
  pub own_row : checked (network_of (row 0 0 0 plus 1 (row 0 0 1 plus 3 (row 2 1 4 minus 45 []))) 3 (sheet_tap_rows []) 4) ≡ refused 10 2
  -- rows 1 and 2 name themselves: the lower one
  pub two_broken_rows : checked (network_of (row 0 0 0 plus 1 (row 1 0 1 plus 3 (row 2 1 4 minus 45 []))) 3 (sheet_tap_rows []) 4) ≡ refused 10 1
  -- row 2 names itself and the first tap names row 3 of three rows: rows come first
  pub rows_before_taps : checked (network_of (row 0 0 0 plus 1 (row 0 0 1 plus 3 (row 2 1 4 minus 45 []))) 3 (tap plus 3 0 []) 1) ≡ refused 10 2
  -- the second and the third tap name row 3 of three rows: the lower one
  pub two_broken_taps : checked (network_of (sheet_rows []) 3 (tap plus 1 0 (tap plus 3 0 (tap minus 3 0 []))) 3) ≡ refused 11 1
  -- no row
  pub no_row : checked (network_of (sheet_rows []) 0 (sheet_tap_rows []) 4) ≡ refused 10 0
  -- the third tap names row 2 of two rows
  pub no_such_row : checked (network_of (sheet_rows []) 2 (sheet_tap_rows []) 4) ≡ refused 11 2
  -- 2^31 is a coefficient with the sign `-` alone
  pub least : checked (network_of (sheet_rows []) 3 (tap minus 0 31 []) 1) ≡ given (neg_ℤ (pos (2 ^ 31)) ∷ [])
  pub too_large : checked (network_of (sheet_rows []) 3 (tap plus 0 31 []) 1) ≡ refused 11 0
  -- 2^31 - 5 = 2^30·3 - (2^30 + 5): 2^s·left is above 2^31 and the row is a good one
  pub above_2_to_31 : checked
      (network_of (row 0 0 0 plus 1 (row 0 0 1 plus 3 (row 0 0 2 plus 5 (row 0 2 30 plus (2 ^ 30 + 5) (row 1 3 30 minus (2 ^ 31 - 5) []))))) 5 (tap plus 4 0 []) 1)
      ≡ given (pos (2 ^ 31 - 5) ∷ [])
