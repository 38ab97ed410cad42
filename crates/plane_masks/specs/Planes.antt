-- Digit planes in two mask tables, and the masks of cells. Document 02, request 3. Definitions only.
use Rattle.std.specs.Prelude.{ℕ, ◌+◌, ◌-◌, ◌*◌, ◌/◌, ◌%◌, ◌^◌, List, [], ◌∷◌, ◌++◌, ℤ, pos, ◌*ℤ◌, get_or}
use Rattle.sequence.specs.Sum.{sum_below}
use Rattle.sequence.specs.UpTo.{up_to}
use Rattle.signed_digit.specs.Digit.{Digit, digit_value}
use Rattle.signed_digit.specs.String.{DigitString}
use Rattle.signed_digit.specs.Masks.{digit_of}
use Rattle.form_masks.specs.declared.Form.{Form}
use Rattle.plane_masks.specs.Binary.{bit_at, binary}

-- "A plane's mask is four 64-bit words, cell c being bit c mod 64, from the low end, of word c / 64 rounded down. Plane 0 comes first": the bit that a mask
-- table has in plane p for cell c
abbrev pub plane_bit : List ℕ → ℕ → ℕ → ℕ
plane_bit table p c = bit_at (get_or table (4 * p + c / 64) 0) (c % 64)

-- "32 planes of cells 1, 0, -1 as two bit masks a plane": the digit in plane p of cell c
abbrev pub digit_in : List ℕ → List ℕ → ℕ → ℕ → Digit
digit_in plus minus p c = digit_of (plane_bit plus p c) (plane_bit minus p c)

-- the string that two tables hold for cell c: its digit at place p stands in plane p
unfoldable pub cell_string : List ℕ → List ℕ → ℕ → DigitString
cell_string plus minus c = up_to 32 (λ (p : ℕ). digit_in plus minus p c)

-- "planes scaled by their powers", "2^0 to 2^31", added up for cell c: equation 2 of source document 001 with whole powers
unfoldable pub scaled_sum : List ℕ → List ℕ → ℕ → ℤ
scaled_sum plus minus c = sum_below 32 (λ (p : ℕ). digit_value (digit_in plus minus p c) *ℤ pos (2 ^ p))

-- "turns planes back into each cell's two masks": the mask that a table holds for cell c has at place p the bit of plane p
unfoldable pub cell_mask : List ℕ → ℕ → ℕ
cell_mask table c = binary 32 (λ (p : ℕ). plane_bit table p c)

-- one for each cell
unfoldable pub cell_masks : ℕ → List ℕ → List ℕ
cell_masks cells table = up_to cells (cell_mask table)

-- The words of a mask table by the masks of the cells, one element per cell. Word k is of plane k / 4 and has the cells from 64 (k mod 4) on; "Mask bits past
-- the last cell are written 0", which is what stands past the masks.
unfoldable pub plane_word : List ℕ → ℕ → ℕ
plane_word masks k = binary 64 (λ (b : ℕ). bit_at (get_or masks (64 * (k % 4) + b) 0) (k / 4))

-- "a mask table has 128 words"
unfoldable pub plane_words_of : List ℕ → List ℕ
plane_words_of masks = up_to 128 (plane_word masks)

-- the 128 words of a table with the bits past the last cell cleared
unfoldable pub past_cleared : ℕ → List ℕ → List ℕ
past_cleared cells table = up_to 128 (λ (k : ℕ). get_or table k 0 % 2 ^ (cells - 64 * (k % 4)))

-- "Cells count row by row"
abbrev pub cell_at : ℕ → ℕ → ℕ → ℕ
cell_at width row column = row * width + column

-- a grid, given as its rows, cell by cell
unfoldable pub join_rows : List (List ℤ) → List ℤ
join_rows [] = []
join_rows (row ∷ rows) = row ++ join_rows rows

-- the two masks that stand for cell c in two tables with one element per cell
abbrev pub form_in : List ℕ → List ℕ → ℕ → Form
form_in plus minus c = record { plus = get_or plus c 0; minus = get_or minus c 0 }
