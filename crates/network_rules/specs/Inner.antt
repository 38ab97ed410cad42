-- What the internal functions that read tap rows give. Definitions only.
use Rattle.std.specs.Prelude.{List, ℤ, Option}
use Rattle.std.specs.Bool.{then_some}
use Rattle.network.specs.declared.Row.{Row}
use Rattle.network.specs.declared.TapRow.{TapRow}
use Rattle.network.specs.Coefficients.{coefficient_of}
use Rattle.network.specs.TapRowRule.{keeps_tap_row_rule}

-- the coefficient of a tap row that keeps the tap row rule
unfoldable pub product_of : List Row → TapRow → Option ℤ
product_of rows t = then_some (keeps_tap_row_rule rows t) (coefficient_of rows t)
