-- Rows in a lent table with an index by value: each value belongs to a bucket, `heads` has the last row of each bucket, and `links` has for each row
-- the one before it in its bucket. A row i is stored there as i + 1, and 0 stands for none. For the contracts of internal functions. Definitions only.
use Rattle.std.specs.Prelude.{◌≡◌, List, ℕ, ◌-◌, ◌*◌, ◌/◌, ◌^◌, ◌≤◌, ◌<◌, length, get_or, drop}
use Rattle.std.specs.Int.Bits.{bit_and, bit_xor}
use Rattle.network.specs.declared.Row.{Row}
use Rattle.network.specs.Rows.{row_words, row_at, rows_of}
use Rattle.build_index.specs.declared.Rows.{Rows}
use Rattle.build_index.specs.declared.IndexedRows.{IndexedRows}

-- the value of row i
abbrev pub value_at : List ℕ → ℕ → ℕ
value_at table i = (row_at table i).value

-- the bucket of a value, of m buckets
unfoldable pub bucket_of : ℕ → ℕ → ℕ
bucket_of m v = bit_and (bit_xor (v * 0x9e3779b9) (v * 0x9e3779b9 / 2 ^ 32)) (m - 1)

-- p stands for the last row below k whose value is in bucket h of m
pub record Last (table : List ℕ) (m h p k : ℕ) : Type 0 where
  pub low : p ≤ k
  pub none : (i : ℕ) → p ≤ i → i < k → bucket_of m (value_at table i) ≡ h → ⊥
  pub last : 0 < p → bucket_of m (value_at table (p - 1)) ≡ h

-- n rows with their index, no two of one value
pub record Indexed (table heads links : List ℕ) (n : ℕ) : Type 0 where
  pub few : n ≤ 4096
  pub room : row_words * n ≤ length table
  pub buckets : 0 < length heads
  pub linked : n ≤ length links
  pub heads_in : (h : ℕ) → h < length heads → Last table (length heads) h (get_or heads h 0) n
  pub links_in : (i : ℕ) → i < n → Last table (length heads) (bucket_of (length heads) (value_at table i)) (get_or links i 0) i
  pub distinct : (i j : ℕ) → i < j → j < n → value_at table i ≡ value_at table j → ⊥

-- table and index have room for k rows
pub record Room (table links : List ℕ) (k : ℕ) : Type 0 where
  pub few : k ≤ 4096
  pub words : row_words * k ≤ length table
  pub linked : k ≤ length links

-- rows with their index
abbrev pub IsIndexed : Rows → Type 0
IsIndexed r = Indexed r.table.now r.heads.now r.links.now r.count

-- the same, as they are read
abbrev pub HasIndex : IndexedRows → Type 0
HasIndex r = Indexed r.table.now r.heads.now r.links.now r.count

-- what is read are the rows and their index
pub record RowsRead (r : Rows) (read : IndexedRows) : Type 0 where
  pub table : read.table.now ≡ r.table.now
  pub heads : read.heads.now ≡ r.heads.now
  pub links : read.links.now ≡ r.links.now
  pub count : read.count ≡ r.count

-- table and index have room for k rows
abbrev pub HasRoom : Rows → ℕ → Type 0
HasRoom r k = Room r.table.now r.links.now k

-- what is lent stays lent: the same slices, as long as they were
pub record SameLent (r r' : Rows) : Type 0 where
  pub table : r'.table.ghost_name ≡ r.table.ghost_name
  pub heads : r'.heads.ghost_name ≡ r.heads.ghost_name
  pub links : r'.links.ghost_name ≡ r.links.ghost_name
  pub table_long : length r'.table.now ≡ length r.table.now
  pub heads_long : length r'.heads.now ≡ length r.heads.now
  pub links_long : length r'.links.now ≡ length r.links.now

-- r has become r': these are its rows, with their index, and the table is untouched past them
pub record Grown (r r' : Rows) (rows' : List Row) : Type 0 where
  pub rows_are : rows_of r'.table.now r'.count ≡ rows'
  pub rest : drop (row_words * r'.count) r'.table.now ≡ drop (row_words * r'.count) r.table.now
  pub index : IsIndexed r'
  pub lent : SameLent r r'
