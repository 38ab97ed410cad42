-- What inner functions ask of the tables of a checked network. Definitions only.
use Rattle.std.specs.Prelude.{◌≤◌, length}
use Rattle.network.specs.declared.NetworkTables.{NetworkTables}
use Rattle.network.specs.Rows.{row_table, tap_table}

-- both tables have their lengths, and the counts are within the bounds of a network
pub record WithinBounds (net : NetworkTables) : Type 0 where
  pub rows_long : row_table ≤ length net.rows.now
  pub rows_to : net.row_count ≤ 4096
  pub taps_long : tap_table ≤ length net.taps.now
  pub taps_to : net.tap_count ≤ 256
