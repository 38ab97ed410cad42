-- The search for one new row: what a left row finds with each sign, and what a pass over the right rows tells of the left ones. Definitions only.
use Rattle.std.specs.Prelude.{◌≡◌, cond, ℕ, ◌+◌, ◌-◌, ◌%◌, ◌^◌, ◌≤◌, ◌<◌, eqb, Option, Some, None}
use Rattle.refusal.specs.Answer.{nowhere}
use Rattle.network.specs.Rows.{plus, minus, rows_of}
use Rattle.network.specs.RowRule.{lifted}
use Rattle.build_steps.specs.Search.{Fit, fit, none_fits, row_with}
use Rattle.build_index.specs.declared.IndexedRows.{IndexedRows}
use Rattle.build_index.specs.Inner.{value_at, HasIndex}
use Rattle.build_pair.specs.declared.row_signs.Left.{Left}
use Rattle.network.specs.declared.Row.{Row}

-- ---- one left row

-- a new row, or none
abbrev pub fit_of : Option Row → Fit
fit_of (Some r) = fit r
fit_of None = none_fits

-- the value that makes v on the right, a being 2^s·left; a difference below 0 is taken for 0, which no row has
abbrev pub right_value_of : ℕ → ℕ → ℕ → ℕ
right_value_of sign a v = cond (eqb sign plus) (v - a) (cond (eqb sign minus) (a - v) (a + v))

-- rows with their index, of odd values up to most, for a new row of value v
pub record Searchable (r : IndexedRows) (most v : ℕ) : Type 0 where
  pub index : HasIndex r
  pub odd : (i : ℕ) → i < r.count → value_at r.table.now i % 2 ≡ 1
  pub bounded : (i : ℕ) → i < r.count → value_at r.table.now i ≤ most
  pub small : most < 2 ^ 31
  pub new_odd : v % 2 ≡ 1
  pub new_small : v < 2 ^ 31
  pub new : row_with (rows_of r.table.now r.count) v ≡ nowhere

-- a left row at a shift
pub record AtShift (r : IndexedRows) (l : Left) : Type 0 where
  pub within : l.row < r.count
  pub is_lifted : l.lifted ≡ lifted l.shift (value_at r.table.now l.row)
  pub low : l.lifted ≤ 2 ^ 32
