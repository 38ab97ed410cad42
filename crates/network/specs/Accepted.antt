-- What it means that nothing of a network is turned down. Document 01, "The network", "Bounds" and "Turned down". Definitions only.
use Rattle.std.specs.Prelude.{ℕ, ◌≤◌, ◌<◌, ◌≡◌, Bool, false, List, ℤ, length}
use Rattle.network.specs.Rows.{Network, network_of, tap_row_in, row_table, tap_table}
use Rattle.network.specs.RowRule.{RowRule}
use Rattle.network.specs.Coefficients.{coefficients}
use Rattle.network.specs.TapRowRule.{TapRowRule}

-- a network whose rows keep the row rule and whose taps keep the tap row rule, and its coefficients h
pub record KeepsRules (net : Network) (h : List ℤ) : Type 0 where
  -- "network rows 1 to 4,096"
  pub rows_from : 1 ≤ length net.rows
  pub rows_to : length net.rows ≤ 4096
  pub rows : (i : ℕ) → i < length net.rows → RowRule net.rows i
  pub taps : (j : ℕ) → j < length net.taps → TapRowRule net.rows (tap_row_in net.taps j)
  pub result : h ≡ coefficients net

-- an entry that is handed a network in two tables turns nothing down; `short` says that another table lent to it is under its length
pub record Accepted (short : Bool) (rows : List ℕ) (row_count_of : ℕ) (taps : List ℕ) (tap_count : ℕ) (h : List ℤ) : Type 0 where
  -- "1 to 256 taps"
  pub taps_from : 1 ≤ tap_count
  pub taps_to : tap_count ≤ 256
  -- "rows 4,096, tap rows .. 256", and the entry's own tables
  pub rows_long : row_table ≤ length rows
  pub taps_long : tap_table ≤ length taps
  pub others_long : short ≡ false
  pub passed : KeepsRules (network_of rows row_count_of taps tap_count) h
