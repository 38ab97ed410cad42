-- What writing and reading planes answer. Document 02, request 3, and document 01, "Turned down". Definitions only.
use Rattle.std.specs.Prelude.{ℕ, zero, suc, ◌*◌, Bool, false, not, ◌||◌, ◌&&◌, List, [], eqb, ltb, ℤ, pos, length, get_or}
use Rattle.refusal.specs.Answer.{Answer, given, Place, refuse_if, refuse_at, and_then, lowest}
use Rattle.sequence.specs.UpTo.{up_to}
use Rattle.signed_digit.specs.String.{DigitString}
use Rattle.signed_digit.specs.Forms.{listing}
use Rattle.plane_masks.specs.Planes.{plane_bit}

-- "a grid of up to 16 by 16", "14 when a side is 0 or above 16"
abbrev pub bad_side_of : ℕ → Bool
bad_side_of side = eqb side 0 || ltb 16 side

abbrev pub bad_sides_of : ℕ → ℕ → Bool
bad_sides_of height width = bad_side_of height || bad_side_of width

-- "a mask table has 128 words; refusal 3 covers these and tables with less than one element per cell": the lengths of both mask tables and of the two
-- tables with an element per cell
abbrev pub short_table_of : ℕ → ℕ → ℕ → ℕ → ℕ → Bool
short_table_of cells plus_words minus_words first second = ltb plus_words 128 || (ltb minus_words 128 || (ltb first cells || ltb second cells))

-- "Errors: 14 .., before 3, place 0"
unfoldable pub sizes_answer : ℕ → ℕ → ℕ → ℕ → ℕ → ℕ → Answer (Unit {0})
sizes_answer height width plus_words minus_words first second =
    refuse_if (bad_sides_of height width) 14
    (refuse_if (short_table_of (height * width) plus_words minus_words first second) 3
    (given tt))

-- the cells: 0, 1, .. cells - 1
abbrev pub cell_numbers : ℕ → List ℕ
cell_numbers cells = up_to cells (λ (c : ℕ). c)

-- "A cell's choice numbers that cell's own listing": whether that has no form of the number
abbrev pub no_form : List ℤ → List ℕ → ℕ → Bool
no_form coefficients choices c = not (ltb (get_or choices c 0) (length (listing 32 (get_or coefficients c (pos 0)))))

-- the form chosen for cell c
abbrev pub chosen : List ℤ → List ℕ → ℕ → DigitString
chosen coefficients choices c = get_or (listing 32 (get_or coefficients c (pos 0))) (get_or choices c 0) []

-- "one listed form per cell", in the order of the cells
unfoldable pub chosen_forms : ℕ → List ℤ → List ℕ → List DigitString
chosen_forms cells coefficients choices = up_to cells (chosen coefficients choices)

-- check 9: "checked as a tap's, the cell being the place"
abbrev pub formless_cell : ℕ → List ℤ → List ℕ → Place
formless_cell cells coefficients choices = lowest (no_form coefficients choices) (cell_numbers cells)

-- writing planes into tables of so many words
unfoldable pub planes_answer : ℕ → ℕ → List ℤ → List ℕ → ℕ → ℕ → Answer (Unit {0})
planes_answer height width coefficients choices plus_words minus_words =
    and_then (sizes_answer height width plus_words minus_words (length coefficients) (length choices))
    (λ u. refuse_at (formless_cell (height * width) coefficients choices) 9 (given tt))

-- whether f holds below n
abbrev pub any_below : ℕ → (ℕ → Bool) → Bool
any_below zero f = false
any_below (suc n) f = any_below n f || f n

-- "overlaps in any plane": both tables have the bit
unfoldable pub overlaps : List ℕ → List ℕ → ℕ → Bool
overlaps plus minus c = any_below 32 (λ (p : ℕ). eqb (plane_bit plus p c) 1 && eqb (plane_bit minus p c) 1)

-- check 8: "the lowest cell that overlaps in any plane"; bits past the last cell are "ignored when read"
abbrev pub overlap_cell : ℕ → List ℕ → List ℕ → Place
overlap_cell cells plus minus = lowest (overlaps plus minus) (cell_numbers cells)

-- reading planes into tables of so many elements
unfoldable pub cells_answer : ℕ → ℕ → List ℕ → List ℕ → ℕ → ℕ → Answer (Unit {0})
cells_answer height width plus minus first second =
    and_then (sizes_answer height width (length plus) (length minus) first second)
    (λ u. refuse_at (overlap_cell (height * width) plus minus) 8 (given tt))
