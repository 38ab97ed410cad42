-- Networks near the sheet's, of specs/Figures.antt: each breaks a rule or stands at a bound. By computation. Assumes nothing.
use mathlib.Core.Path.{◌≡◌, refl}
use mathlib.Core.List.{[], ◌∷◌}
use Prim.Native.Nat.{◌+◌, ◌-◌, ◌^◌}
use lib.IntN.{pos, neg_ℤ}
use Rattle.refusal.specs.Answer.{given, refused, lowest_from}
use Rattle.sequence.specs.UpTo.{up_to}
use Rattle.network.specs.Rows.{plus, minus, network_of}
use Rattle.network.specs.RowRule.{keeps_row_rule_of}
use Rattle.network.specs.Coefficients.{coefficient_of}
use Rattle.network.specs.TapRowRule.{keeps_tap_row_rule}
use Rattle.network.specs.Check.{checked}
use Rattle.network.specs.Figures.{row, tap, sheet_rows, sheet_tap_rows}

-- a broken row and a broken tap row: rows come first
pub rows_before_taps : checked (network_of (row 0 0 0 plus 1 (row 0 0 1 plus 3 (row 2 1 4 minus 45 []))) 3 (tap plus 3 0 []) 1) ≡ refused 10 2
unfolding checked up_to lowest_from keeps_row_rule_of keeps_tap_row_rule coefficient_of
rows_before_taps = refl

-- row 2 names itself
pub own_row : checked (network_of (row 0 0 0 plus 1 (row 0 0 1 plus 3 (row 2 1 4 minus 45 []))) 3 (sheet_tap_rows []) 4) ≡ refused 10 2
unfolding checked up_to lowest_from keeps_row_rule_of
own_row = refl

-- rows 1 and 2 name themselves: the lower one
pub two_broken_rows : checked (network_of (row 0 0 0 plus 1 (row 1 0 1 plus 3 (row 2 1 4 minus 45 []))) 3 (sheet_tap_rows []) 4) ≡ refused 10 1
unfolding checked up_to lowest_from keeps_row_rule_of
two_broken_rows = refl

-- two broken tap rows: the lower one
pub two_broken_taps : checked (network_of (sheet_rows []) 3 (tap plus 1 0 (tap plus 3 0 (tap minus 3 0 []))) 3) ≡ refused 11 1
unfolding checked up_to lowest_from keeps_row_rule_of keeps_tap_row_rule coefficient_of
two_broken_taps = refl

pub no_row : checked (network_of (sheet_rows []) 0 (sheet_tap_rows []) 4) ≡ refused 10 0
unfolding checked up_to
no_row = refl

-- the third tap names row 2 of two rows
pub no_such_row : checked (network_of (sheet_rows []) 2 (sheet_tap_rows []) 4) ≡ refused 11 2
unfolding checked up_to lowest_from keeps_row_rule_of keeps_tap_row_rule coefficient_of
no_such_row = refl

-- 2^31 - 5 = 2^30·3 - (2^30 + 5): 2^s·left is above 2^31 and the row is a good one
pub above_2_to_31 : checked (network_of (row 0 0 0 plus 1 (row 0 0 1 plus 3 (row 0 0 2 plus 5 (row 0 2 30 plus (2 ^ 30 + 5) (row 1 3 30 minus (2 ^ 31 - 5) []))))) 5 (tap plus 4 0 []) 1) ≡ given (pos (2 ^ 31 - 5) ∷ [])
unfolding checked up_to lowest_from keeps_row_rule_of keeps_tap_row_rule coefficient_of
above_2_to_31 = refl

-- 2^31 is a coefficient with the sign `-` alone
pub least : checked (network_of (sheet_rows []) 3 (tap minus 0 31 []) 1) ≡ given (neg_ℤ (pos (2 ^ 31)) ∷ [])
unfolding checked up_to lowest_from keeps_row_rule_of keeps_tap_row_rule coefficient_of
least = refl

pub too_large : checked (network_of (sheet_rows []) 3 (tap plus 0 31 []) 1) ≡ refused 11 0
unfolding checked up_to lowest_from keeps_row_rule_of keeps_tap_row_rule coefficient_of
too_large = refl
