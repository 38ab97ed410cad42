-- The coefficients of a network. Document 01, "The network". Definitions only.
use Rattle.std.specs.Prelude.{ℕ, cond, List, map, eqb, ℤ, pos, neg_ℤ}
use Rattle.network.specs.declared.Row.{Row}
use Rattle.network.specs.declared.TapRow.{TapRow}
use Rattle.network.specs.Rows.{Network, plus, minus, row_in}
use Rattle.network.specs.RowRule.{lifted}

-- a number with the sign of a tap row; an empty tap row has no sign: "coefficient 0"
abbrev pub with_sign : ℕ → ℤ → ℤ
with_sign sign z = cond (eqb sign plus) z (cond (eqb sign minus) (neg_ℤ z) (pos 0))

-- the "product" of a tap row: sign × 2^shift × the value of its row
unfoldable pub coefficient_of : List Row → TapRow → ℤ
coefficient_of rows t = with_sign t.sign (pos (lifted t.shift (row_in rows t.row).value))

-- tap by tap
abbrev pub coefficients : Network → List ℤ
coefficients net = map (coefficient_of net.rows) net.taps
