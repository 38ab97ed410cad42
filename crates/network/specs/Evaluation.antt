-- What the rows and taps of a network give for a sample, by shifts, sums and differences alone: "multiplierless". Definitions only.
use Rattle.std.specs.Prelude.{ℕ, zero, suc, List, [], ◌∷◌, ◌++◌, map, ℤ, pos, ◌+ℤ◌, length, get_or}
use Rattle.network.specs.declared.Row.{Row}
use Rattle.network.specs.declared.TapRow.{TapRow}
use Rattle.network.specs.Rows.{Network, row_in}
use Rattle.network.specs.RowRule.{combined}
use Rattle.network.specs.Coefficients.{with_sign}

-- z moved up s places, each of them a doubling
abbrev pub shifted_up : ℕ → ℤ → ℤ
shifted_up zero z = z
shifted_up (suc s) z = shifted_up s z +ℤ shifted_up s z

-- what a row gives for a sample, the rows before it having given `before`: row 0 the sample itself, a later row one sum or difference
abbrev pub row_gives : List Row → ℤ → List ℤ → ℕ → ℤ
row_gives rows sample before zero = sample
row_gives rows sample before (suc i) =
    combined (row_in rows (suc i)).sign
    (shifted_up (row_in rows (suc i)).shift (get_or before (row_in rows (suc i)).left (pos 0)))
    (get_or before (row_in rows (suc i)).right (pos 0))

-- the first n rows, one after the other
unfoldable pub row_results : List Row → ℤ → ℕ → List ℤ
row_results rows sample zero = []
row_results rows sample (suc n) = row_results rows sample n ++ (row_gives rows sample (row_results rows sample n) n ∷ [])

-- what a tap gives: its row's result shifted, with its sign
abbrev pub tap_gives : List ℤ → TapRow → ℤ
tap_gives results t = with_sign t.sign (shifted_up t.shift (get_or results t.row (pos 0)))

-- every tap of a network
abbrev pub tap_results : Network → ℤ → List ℤ
tap_results net sample = map (tap_gives (row_results net.rows sample (length net.rows))) net.taps
