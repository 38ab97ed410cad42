-- Document 01, "The sheet": the network of the taps 3, -6, 45, 0 with choices 0, sets where an order or a bound of the search decides, and digits beside
-- adders. proofs/Figures.antt proves them. Definitions only.
use Rattle.std.specs.Prelude.{◌≡◌, List, [], ◌∷◌, ℕ, ◌+◌, ◌*◌, ◌-◌, ◌^◌, ◌≤◌, pos, length, drop}
use Rattle.refusal.specs.Answer.{given, refused}
use Rattle.network.specs.declared.Row.{Row}
use Rattle.network.specs.Rows.{Network, plus, minus, no_tap, row_words, row_table, tap_words, tap_table, first_row_of}
use Rattle.network.specs.Adders.{adders}
use Rattle.network.specs.Figures.{sheet_rows, sheet_tap_rows, sheet_coefficients}
use Rattle.build_steps.specs.Parts.{Part}
use Rattle.build_steps.specs.Search.{fit, first_fit_of}
use Rattle.build_steps.specs.Steps.{built_rows}
use Rattle.build_steps.specs.TapRows.{built}
use Rattle.build_steps.specs.PartOrder.{PartsInOrder}
use Rattle.build_steps.specs.RowSteps.{FirstFit, Lawful}
use Rattle.build_steps.specs.CanBuild.{CanBuild, Buildable}
use Rattle.build_steps.specs.Built.{BuiltInto}
use Rattle.build_steps.specs.Digits.{nonzero_digits}

-- choices 0
abbrev pub sheet_choices : List ℕ
sheet_choices = 0 ∷ 0 ∷ 0 ∷ 0 ∷ []

-- a row as the sheet has it, before others
abbrev pub row_then : ℕ → ℕ → ℕ → ℕ → ℕ → List Row → List Row
row_then left shift sign right value more = record { left = left; right = right; shift = shift; sign = sign; value = value } ∷ more

abbrev pub sheet_network : Network
sheet_network = record {
  rows = first_row_of ∷ row_then 0 1 plus 0 3 (row_then 1 4 minus 1 45 []);
  taps = record { sign = plus; row = 1; shift = 0 } ∷ record { sign = minus; row = 1; shift = 1 } ∷ record { sign = plus; row = 2; shift = 0 } ∷ no_tap ∷ [];
}

abbrev pub part : ℕ → Part
part v = record { value = v; choice = 0 }

pub record BuildingFigures : Type 0 where
  pub sheet_network_lem : built sheet_coefficients sheet_choices ≡ sheet_network
  -- 53 is 4·17 - 15 and 121 - 4·17: `-` comes before `r`
  pub minus_before_reversed : built_rows (pos 53 ∷ pos 121 ∷ pos 17 ∷ pos 15 ∷ []) sheet_choices
      ≡ first_row_of ∷ row_then 0 4 minus 0 15 (row_then 0 1 plus 1 17 (row_then 1 3 plus 0 121 (row_then 2 2 minus 1 53 [])))
  -- 11 is 4 + 7 and 15 - 4: `+` comes before `r`
  pub plus_before_reversed : built_rows (pos 15 ∷ pos 11 ∷ pos 7 ∷ []) (0 ∷ 0 ∷ 0 ∷ [])
      ≡ first_row_of ∷ row_then 0 3 minus 0 7 (row_then 0 3 plus 1 15 (row_then 0 2 plus 1 11 []))
  -- 2^31 - 5 is 2^30·3 - (2^30 + 5): 2^s·left is above 2^31
  pub above_2_to_31 : first_fit_of (first_row_of ∷ row_then 0 1 plus 0 3 (row_then 0 28 plus 0 (2 ^ 28 + 1) (row_then 2 2 plus 0 (2 ^ 30 + 5) []))) (2 ^ 31 - 5)
      ≡ fit (record { left = 1; right = 3; shift = 30; sign = minus; value = 2 ^ 31 - 5 })
  -- 3, -6 and 45 have 2, 2 and 4 nonzero digits: 7 adders where nothing is shared, and the sheet's network takes 4
  pub sheet_digits : nonzero_digits sheet_coefficients ≡ 2 + 2 + 4
  -- 3 and 1 have nothing to share
  pub nothing_shared : adders (built (pos 3 ∷ pos 1 ∷ []) (0 ∷ 0 ∷ [])) ≡ nonzero_digits (pos 3 ∷ pos 1 ∷ []) - 1
  -- ---- what the claims take holds of the sheet's taps
  pub sheet_can_build : CanBuild sheet_coefficients sheet_choices
  pub sheet_parts : PartsInOrder sheet_coefficients sheet_choices (part 3 ∷ part 45 ∷ [])
  pub sheet_buildable : Buildable (part 45)
  pub sheet_lawful : Lawful sheet_network.rows
  pub sheet_first_fit : FirstFit (first_row_of ∷ []) 3 (record { left = 0; right = 0; shift = 1; sign = plus; value = 3 })
  -- tables that `build` leaves, and those that it leaves alone
  pub sheet_into : (rows taps : List ℕ) → row_table ≤ length rows → tap_table ≤ length taps
      → BuiltInto sheet_coefficients sheet_choices rows taps (given 3) (sheet_rows (drop (3 * row_words) rows)) (sheet_tap_rows (drop (4 * tap_words) taps))
  -- 3 has two forms and 0 has one: the second and the third choice are not listed, and the lower one is returned
  pub no_third_form : (rows taps : List ℕ) → row_table ≤ length rows → tap_table ≤ length taps
      → BuiltInto (pos 3 ∷ pos 3 ∷ pos 0 ∷ []) (0 ∷ 2 ∷ 1 ∷ []) rows taps (refused 9 1) rows taps
  pub no_taps : (rows taps : List ℕ) → BuiltInto [] [] rows taps (refused 1 0) rows taps
