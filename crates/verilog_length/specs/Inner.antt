-- The bytes of lines beside the numbers that count them, for the contracts of those that add them up. Definitions only.
use Rattle.std.specs.Prelude.{◌≡◌, List, ℕ, ◌+◌, ◌*◌, ◌≤◌, length}
use Rattle.text.specs.Numbers.{decimal}
use Rattle.text.specs.Lines.{numbered_from}
use Rattle.text.specs.Inner.{number_bytes}

-- a line has r bytes beside its number i, and r is at most `most`
pub record Beside (line : List ℕ) (i most r : ℕ) : Type 0 where
  pub bytes : length line ≡ r + length (decimal i)
  pub within : r ≤ most

-- so have n lines, beside the numbers below n
pub record BesideAll (lines : List ℕ) (n most r : ℕ) : Type 0 where
  pub bytes : length lines ≡ r + length (numbered_from decimal 0 n)
  pub within : r ≤ most

-- the most of the assign of a row, and of the assign of a tap
abbrev pub row_bytes_of : ℕ
row_bytes_of = 25 + 3 * number_bytes

abbrev pub tap_bytes_of : ℕ
tap_bytes_of = 22 + 2 * number_bytes
