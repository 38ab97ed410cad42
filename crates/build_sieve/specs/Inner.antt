-- A sieve for the search of step 2: the values of the rows, one after the other, and a mark for the cell of each. Numbers that differ by factors 2 have
-- one cell, so that a cell without a mark has no row of the odd part. For the contracts of internal functions. Definitions only.
use Rattle.std.specs.Prelude.{◌≡◌, cond, List, ℕ, ◌+◌, ◌*◌, ◌-◌, ◌/◌, ◌%◌, ◌^◌, ◌≤◌, ◌<◌, ltb, pos, length, get_or}
use Rattle.std.specs.Float.Ieee as Ieee
use Rattle.std.specs.Float.{binary64}
use Rattle.build_index.specs.declared.Rows.{Rows}
use Rattle.build_index.specs.declared.IndexedRows.{IndexedRows}
use Rattle.build_index.specs.Inner.{value_at}
use Rattle.build_sieve.specs.declared.Sieve.{Sieve}
use Rattle.build_sieve.specs.declared.SieveTables.{SieveTables}
use Rattle.build_sieve.specs.declared.Pairs.{Pairs}

-- the leading binary digits of x below the first: of x as a binary64 number the 20 digits that head its fraction, at the high end of 32 places,
-- less the lowest `shift` places
unfoldable pub cell_of : ℕ → ℕ → ℕ
cell_of shift x = Ieee.to_bits binary64 (Ieee.of_int binary64 (pos x)) / 2 ^ 32 * 2 ^ 12 % 2 ^ 32 / 2 ^ shift

-- so many of the 32 places of a cell are dropped, with m marks: 2,048, 8,192 or 32,768 of them are used
unfoldable pub shift_for_of : ℕ → ℕ
shift_for_of m = cond (ltb m 8192) 21 (cond (ltb m 32768) 19 17)

-- the cell of a number, with m marks
abbrev pub cell_within : ℕ → ℕ → ℕ
cell_within m x = cell_of (shift_for_of m) x

-- the values of n rows, and zeros after them; the cell of each has a mark, the higher the lower the row
pub record SieveOf (table values marks : List ℕ) (n : ℕ) : Type 0 where
  pub room : n + 7 ≤ length values
  pub cells : 2048 ≤ length marks
  pub values_are : (i : ℕ) → i < n → get_or values i 0 ≡ value_at table i
  pub rest : (i : ℕ) → n ≤ i → get_or values i 0 ≡ 0
  pub marked : (i : ℕ) → i < n → 128 ≤ get_or marks (cell_within (length marks) (value_at table i)) 0 * (i + 1)

-- the rows have this sieve
abbrev pub HasSieve : Rows → Sieve → Type 0
HasSieve r s = SieveOf r.table.now s.values.now s.marks.now r.count

-- the same, as both are read
abbrev pub AreSieved : IndexedRows → SieveTables → Type 0
AreSieved r s = SieveOf r.table.now s.values.now s.marks.now r.count

-- what is read is the sieve
pub record SieveRead (s : Sieve) (read : SieveTables) : Type 0 where
  pub values : read.values.now ≡ s.values.now
  pub marks : read.marks.now ≡ s.marks.now

-- what is lent stays lent: the same slices, as long as they were
pub record SameSieve (s s' : Sieve) : Type 0 where
  pub values : s'.values.ghost_name ≡ s.values.ghost_name
  pub marks : s'.marks.ghost_name ≡ s.marks.ghost_name
  pub values_long : length s'.values.now ≡ length s.values.now
  pub marks_long : length s'.marks.now ≡ length s.marks.now

-- the cells of v + r and of |v - r| for some values r; v + r is even
pub record Cells (values : List ℕ) (at count v shift : ℕ) (pairs : Pairs) : Type 0 where
  pub sums_are : (j : ℕ) → j < count → get_or pairs.sums j 0 ≡ cell_of shift ((v + get_or values (at + j) 0) / 2)
  pub differences_are : (j : ℕ) → j < count → get_or pairs.differences j 0 ≡ cell_of shift ((v - get_or values (at + j) 0) + (get_or values (at + j) 0 - v))

-- the mark of the cell at place j
abbrev pub mark_at : List ℕ → List ℕ → ℕ → ℕ
mark_at marks cells j = get_or marks (get_or cells j 0) 0

-- the first cells, so many of them, are cells of marks
abbrev pub InMarks : List ℕ → List ℕ → ℕ → Type 0
InMarks marks cells count = (j : ℕ) → j < count → get_or cells j 0 < length marks
