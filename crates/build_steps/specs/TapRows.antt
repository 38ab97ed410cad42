-- The tap rows of a built network. Document 01, "The network": "A tap row is empty (..), or a sign (`+` or `-`), the number of a row of the
-- network and a shift". Definitions only.
use Rattle.std.specs.Prelude.{List, map, ℕ, ℤ}
use Rattle.refusal.specs.Answer.{place_or}
use Rattle.signed_digit.specs.Reduction.{Sign, positive, negative}
use Rattle.coefficient.specs.Parts.{Parts, no_odd_part, parts, parts_of}
use Rattle.network.specs.declared.Row.{Row}
use Rattle.network.specs.declared.TapRow.{TapRow}
use Rattle.network.specs.Rows.{Network, plus, minus, no_tap}
use Rattle.build_steps.specs.Search.{row_with}
use Rattle.build_steps.specs.Steps.{built_rows}

-- a sign as it is stored
abbrev pub sign_code : Sign → ℕ
sign_code positive = plus
sign_code negative = minus

-- the tap row of a coefficient's sign, odd part and shift: the row that has the odd part's value
unfoldable pub tap_row_of : List Row → Parts → TapRow
tap_row_of rows no_odd_part = no_tap
tap_row_of rows (parts sign odd_part shift) = record { sign = sign_code sign; row = place_or 0 (row_with rows odd_part); shift = shift }

-- the network for some coefficients and choices
unfoldable pub built : List ℤ → List ℕ → Network
built coefficients choices =
    record { rows = built_rows coefficients choices; taps = map (λ (n : ℤ). tap_row_of (built_rows coefficients choices) (parts_of n)) coefficients }
