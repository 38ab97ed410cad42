-- What is said of rows holds of them as they are read. Assumes nothing.
use mathlib.Core.Path.{◌≡◌, ap₂}
use Rattle.network.specs.Rows.{rows_of}
use Rattle.build_index.specs.declared.Rows.{Rows}
use Rattle.build_index.specs.declared.IndexedRows.{IndexedRows}
use Rattle.build_index.specs.Inner.{IsIndexed, HasIndex, RowsRead}

module _ {r : Rows} {read : IndexedRows} (is : RowsRead r read) where
  pub rows_read : rows_of read.table.now read.count ≡ rows_of r.table.now r.count
  rows_read = ap₂ rows_of is.table is.count

  pub index_read : IsIndexed r → HasIndex read
  index_read index = rw (is.table, is.heads, is.links, is.count) index
