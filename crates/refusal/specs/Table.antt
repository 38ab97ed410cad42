-- Document 01, "Turned down", and document 02, requests 1 and 3: the number and the place that each case of `Refusal` stands for. Definitions only.
use Rattle.std.specs.Prelude.{ℕ}
use Rattle.refusal.specs.declared.Refusal.{Refusal}
use Rattle.refusal.specs.declared.Refusal.TheVariants.{NoTaps, TooManyTaps, ShortTable, FractionBits, TapNotFinite, NotNormalisable, OutOfBounds, MasksOverlap, NoSuchForm, RowRule, TapRowRule, CutTap, TextTooLong, GridSides}

-- the column "Returned", its number
abbrev pub number_of : Refusal → ℕ
number_of NoTaps = 1
number_of TooManyTaps = 2
number_of ShortTable = 3
number_of FractionBits = 4
number_of (TapNotFinite tap) = 5
number_of (OutOfBounds tap) = 6
number_of (NotNormalisable tap) = 7
number_of (MasksOverlap place) = 8
number_of (NoSuchForm place) = 9
number_of (RowRule row) = 10
number_of (TapRowRule tap) = 11
number_of CutTap = 12
number_of TextTooLong = 13
number_of GridSides = 14

-- the column "Returned", its place; request 3: for digit planes the "lowest cell that overlaps in any plane", and for a choice "the cell being the place"
abbrev pub place_of : Refusal → ℕ
place_of NoTaps = 0
place_of TooManyTaps = 0
place_of ShortTable = 0
place_of FractionBits = 0
place_of (TapNotFinite tap) = tap
place_of (OutOfBounds tap) = tap
place_of (NotNormalisable tap) = tap
place_of (MasksOverlap place) = place
place_of (NoSuchForm place) = place
place_of (RowRule row) = row
place_of (TapRowRule tap) = tap
place_of CutTap = 0
place_of TextTooLong = 0
place_of GridSides = 0
