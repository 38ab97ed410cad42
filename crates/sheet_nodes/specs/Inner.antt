-- What the writer of node lines asks of a table of rows. Definitions only.
use Rattle.std.specs.Prelude.{List, ℕ, ◌*◌, ◌≤◌, ◌<◌, length}
use Rattle.network.specs.Rows.{row_words, row_at}
use Rattle.sheet_lines.specs.Inner.{most_node_lines}

-- the first n rows stand in the table, and their signs are characters
pub record RowsIn (rows : List ℕ) (n : ℕ) : Type 0 where
  pub room : row_words * n ≤ length rows
  pub signs : (i : ℕ) → i < n → (row_at rows i).sign < 256
  pub few : n ≤ most_node_lines
