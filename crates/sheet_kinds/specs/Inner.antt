-- What the writer of a network's sheet asks. Definitions only.
use Rattle.std.specs.Prelude.{◌≡◌, List, ℕ, ◌≤◌, ℤ, length}
use Rattle.network.specs.Rows.{network_of}
use Rattle.network.specs.Coefficients.{coefficients}
use Rattle.sheet_nodes.specs.Inner.{RowsIn}
use Rattle.sheet_taps.specs.Inner.{TapsIn}

-- two tables hold n rows and m tap rows, and these are the coefficients of the network in them
pub record NetworkIn (rows : List ℕ) (n : ℕ) (taps : List ℕ) (m : ℕ) (values : List ℤ) : Type 0 where
  pub some : 1 ≤ n
  pub rows_in : RowsIn rows n
  pub taps_in : TapsIn taps m
  pub each : length values ≡ m
  pub products : values ≡ coefficients (network_of rows n taps m)
