-- A network, and how lent tables of 32-bit words hold it: the one place that says which words a row and a tap row have. Document 01, "The network".
-- Definitions only.
use Rattle.std.specs.Prelude.{ℕ, ◌+◌, ◌*◌, get_or}
use mathlib.Core.List.{List, [], ◌∷◌, flat_map}
use Rattle.sequence.specs.UpTo.{up_to}
use Rattle.network.specs.declared.Row.{Row}
use Rattle.network.specs.declared.TapRow.{TapRow}

-- how a sign is stored: by its character, and 0 in an empty tap row
abbrev pub plus : ℕ
plus = 43

abbrev pub minus : ℕ
minus = 45

abbrev pub reversed : ℕ
reversed = 114

abbrev pub none : ℕ
none = 0

-- ---- rows

-- "A row is stored as left, right, shift, sign and value": five words, in this order
abbrev pub row_words : ℕ
row_words = 5

abbrev pub words_of_row : Row → List ℕ
words_of_row r = r.left ∷ r.right ∷ r.shift ∷ r.sign ∷ r.value ∷ []

-- row i of a table
abbrev pub row_at : List ℕ → ℕ → Row
row_at table i =
    record {
      left = get_or table (row_words * i) 0;
      right = get_or table (row_words * i + 1) 0;
      shift = get_or table (row_words * i + 2) 0;
      sign = get_or table (row_words * i + 3) 0;
      value = get_or table (row_words * i + 4) 0;
    }

-- "rows 4,096": the length of a lent table of rows, in words
abbrev pub row_table : ℕ
row_table = 4096 * row_words

-- ---- tap rows

-- "A tap row is .. a sign .., the number of a row of the network and a shift": three words, in this order
abbrev pub tap_words : ℕ
tap_words = 3

abbrev pub words_of_tap_row : TapRow → List ℕ
words_of_tap_row t = t.sign ∷ t.row ∷ t.shift ∷ []

-- tap row j of a table
abbrev pub tap_row_at : List ℕ → ℕ → TapRow
tap_row_at table j = record { sign = get_or table (tap_words * j) 0; row = get_or table (tap_words * j + 1) 0; shift = get_or table (tap_words * j + 2) 0 }

-- "tap rows .. 256": the length of a lent table of tap rows, in words
abbrev pub tap_table : ℕ
tap_table = 256 * tap_words

-- ---- rows and tap rows one after the other

abbrev pub words_of_rows : List Row → List ℕ
words_of_rows rows = flat_map words_of_row rows

abbrev pub words_of_tap_rows : List TapRow → List ℕ
words_of_tap_rows taps = flat_map words_of_tap_row taps

-- ---- a network

pub record Network : Type 0 where
  pub rows : List Row
  pub taps : List TapRow

-- the first n rows and the first m tap rows of a table
abbrev pub rows_of : List ℕ → ℕ → List Row
rows_of table n = up_to n (row_at table)

abbrev pub tap_rows_of : List ℕ → ℕ → List TapRow
tap_rows_of table m = up_to m (tap_row_at table)

-- the network that two tables hold: as many of their rows and tap rows as the counts say
abbrev pub network_of : List ℕ → ℕ → List ℕ → ℕ → Network
network_of rows row_count_of taps tap_count = record { rows = rows_of rows row_count_of; taps = tap_rows_of taps tap_count }

-- "Row 0 is 0, 0, 0, `+`, 1"
abbrev pub first_row_of : Row
first_row_of = record { left = 0; right = 0; shift = 0; sign = plus; value = 1 }

-- what stands where a network has no such row or tap row: zeros
abbrev pub no_row : Row
no_row = record { left = 0; right = 0; shift = 0; sign = none; value = 0 }

abbrev pub no_tap : TapRow
no_tap = record { sign = none; row = 0; shift = 0 }

-- row i and tap row j of a network
abbrev pub row_in : List Row → ℕ → Row
row_in rows i = get_or rows i no_row

abbrev pub tap_row_in : List TapRow → ℕ → TapRow
tap_row_in taps j = get_or taps j no_tap
