-- Tap rows in a table of words. For the contracts of internal functions. Definitions only.
use Rattle.std.specs.Prelude.{List, ◌++◌, map, ℕ, ℤ, length, drop}
use Rattle.coefficient.specs.Parts.{parts_of}
use Rattle.network.specs.declared.Row.{Row}
use Rattle.network.specs.declared.TapRow.{TapRow}
use Rattle.build_steps.specs.TapRows.{tap_row_of}

-- a table whose first words are these
abbrev pub over : List ℕ → List ℕ → List ℕ
over words table = words ++ drop (length words) table

-- the tap rows of some coefficients, over some rows
abbrev pub tap_rows_for : List Row → List ℤ → List TapRow
tap_rows_for rows coefficients = map (λ (z : ℤ). tap_row_of rows (parts_of z)) coefficients
