-- What building leaves in the tables. For the contracts of internal functions. Definitions only.
use Rattle.std.specs.Prelude.{◌≡◌, List, ℕ, ◌≤◌, ℤ, length}
use Rattle.network.specs.Rows.{words_of_rows, words_of_tap_rows}
use Rattle.build_steps.specs.Steps.{built_rows}
use Rattle.build_steps.specs.TapRows.{built}
use Rattle.build_tap_rows.specs.Inner.{over}

-- the two tables afterwards, and the number of rows
pub record Written (coefficients : List ℤ) (choices rows taps rows' taps' : List ℕ) (n : ℕ) : Type 0 where
  pub count : n ≡ length (built_rows coefficients choices)
  pub fits : n ≤ 4096
  pub rows_are : rows' ≡ over (words_of_rows (built_rows coefficients choices)) rows
  pub taps_are : taps' ≡ over (words_of_tap_rows (built coefficients choices).taps) taps
