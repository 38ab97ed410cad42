-- What the writer of tap lines asks of a table of tap rows, and gives of it. Definitions only.
use Rattle.std.specs.Prelude.{List, ℕ, ◌*◌, ◌≤◌, ◌<◌, ℤ, pos, length, get_or}
use Rattle.network.specs.declared.TapRow.{TapRow}
use Rattle.network.specs.Rows.{tap_words, tap_row_at}
use Rattle.sheet_lines.specs.Lines.{tap_line_text}

-- the first m tap rows stand in the table, and their signs are characters
pub record TapsIn (taps : List ℕ) (m : ℕ) : Type 0 where
  pub room : tap_words * m ≤ length taps
  pub signs : (j : ℕ) → j < m → (tap_row_at taps j).sign < 256
  pub few : m ≤ 256

-- a tap's line, the taps' coefficients being listed
abbrev pub tap_line_of : List ℤ → ℕ → TapRow → List ℕ
tap_line_of values j t = tap_line_text j t (get_or values j (pos 0))
