-- What is claimed of digit planes, in the words of document 02, request 3. Statements only; proofs/Claims.antt proves `PlaneClaims`.
use Rattle.std.specs.Prelude.{◌≡◌, ◌↔◌, ℕ, ◌*◌, ◌≤◌, ◌<◌, ◌^◌, ℤ, pos, length, get_or, take, drop}
use mathlib.Core.List.{List, [], map, Memᴰ}
use Rattle.refusal.specs.Answer.{Answer, given, refused}
use Rattle.sequence.specs.UpTo.{up_to}
use Rattle.signed_digit.specs.Digit.{nought}
use Rattle.signed_digit.specs.Forms.{listing}
use Rattle.form_masks.specs.Form.{form_of, string_of, TwoMasks}
use Rattle.form_masks.specs.Value.{value_of}
use Rattle.plane_masks.specs.Planes.{plane_bit, digit_in, cell_string, scaled_sum, plane_words_of, past_cleared, cell_at, join_rows, form_in}
use Rattle.plane_masks.specs.Grid.{chosen, chosen_forms}
use Rattle.plane_masks.specs.Written.{PlanesWritten, PlanesRead}

-- ---- what is turned down

-- "a grid of up to 16 by 16"; "a mask table has 128 words", and the two other tables have at least one element per cell
pub record Fits (height width plus_words minus_words first second : ℕ) : Type 0 where
  pub height_from : 1 ≤ height
  pub height_to : height ≤ 16
  pub width_from : 1 ≤ width
  pub width_to : width ≤ 16
  pub plus_long : 128 ≤ plus_words
  pub minus_long : 128 ≤ minus_words
  pub first_long : height * width ≤ first
  pub second_long : height * width ≤ second

-- "a side is 0 or above 16"
pub data BadSides (height width : ℕ) : Type 0 where
  no_height : height ≡ 0 → BadSides height width
  high : 16 < height → BadSides height width
  no_width : width ≡ 0 → BadSides height width
  wide : 16 < width → BadSides height width

-- a lent table is under its length
pub data TableUnderLength (cells plus_words minus_words first second : ℕ) : Type 0 where
  plus_short : plus_words < 128 → TableUnderLength cells plus_words minus_words first second
  minus_short : minus_words < 128 → TableUnderLength cells plus_words minus_words first second
  first_short : first < cells → TableUnderLength cells plus_words minus_words first second
  second_short : second < cells → TableUnderLength cells plus_words minus_words first second

-- the choice of cell c is the number of a form in that cell's own listing
pub record HasForm (coefficients : List ℤ) (choices : List ℕ) (c : ℕ) : Type 0 where
  pub below : get_or choices c 0 < length (listing 32 (get_or coefficients c (pos 0)))

-- cell c is in both masks of plane p
pub record InBoth (plus minus : List ℕ) (c p : ℕ) : Type 0 where
  pub in_plus : plane_bit plus p c ≡ 1
  pub in_minus : plane_bit minus p c ≡ 1

-- cell c overlaps in no plane
abbrev pub Apart : List ℕ → List ℕ → ℕ → Type 0
Apart plus minus c = (p : ℕ) → p < 32 → InBoth plus minus c p → ⊥

-- what the numbers and places mean that come of the sizes; `first` and `second` are the lengths of the two tables with an element per cell
pub data SizeRefusals (height width plus_words minus_words first second number place : ℕ) : Type 0 where
  -- "14 when a side is 0 or above 16, before 3, place 0"
  grid_sides : number ≡ 14 → place ≡ 0 → BadSides height width → SizeRefusals height width plus_words minus_words first second number place
  -- "refusal 3 covers these and tables with less than one element per cell"
  short_table_lem : number ≡ 3 → place ≡ 0 → (BadSides height width → ⊥) → TableUnderLength (height * width) plus_words minus_words first second
      → SizeRefusals height width plus_words minus_words first second number place

-- and what those mean that writing returns; it returns no others
pub data WritingRefusals (height width : ℕ) (coefficients : List ℤ) (choices : List ℕ) (plus_words minus_words number place : ℕ) : Type 0 where
  writing_sizes : SizeRefusals height width plus_words minus_words (length coefficients) (length choices) number place
      → WritingRefusals height width coefficients choices plus_words minus_words number place
  -- "A cell's choice .. is checked as a tap's, the cell being the place": the lowest without its form
  no_form_lem : number ≡ 9 → Fits height width plus_words minus_words (length coefficients) (length choices) → place < height * width
      → (HasForm coefficients choices place → ⊥) → ((c : ℕ) → c < place → HasForm coefficients choices c)
      → WritingRefusals height width coefficients choices plus_words minus_words number place

-- reading
pub data ReadingRefusals (height width : ℕ) (plus minus : List ℕ) (first second number place : ℕ) : Type 0 where
  reading_sizes : SizeRefusals height width (length plus) (length minus) first second number place → ReadingRefusals height width plus minus first second number place
  -- "Overlapping masks give refusal 8 with the lowest cell that overlaps in any plane": in plane p
  overlap : number ≡ 8 → Fits height width (length plus) (length minus) first second → place < height * width → (p : ℕ) → p < 32 → InBoth plus minus place p
      → ((c : ℕ) → c < place → Apart plus minus c) → ReadingRefusals height width plus minus first second number place

-- ---- which grids are written, and which planes are read
pub record CanWrite (height width : ℕ) (coefficients : List ℤ) (choices : List ℕ) (plus_words minus_words : ℕ) : Type 0 where
  pub fits : Fits height width plus_words minus_words (length coefficients) (length choices)
  pub forms : (c : ℕ) → c < height * width → HasForm coefficients choices c

pub record CanRead (height width : ℕ) (plus minus : List ℕ) (first second : ℕ) : Type 0 where
  pub fits : Fits height width (length plus) (length minus) first second
  pub apart : (c : ℕ) → c < height * width → Apart plus minus c

-- ---- what is left, of all cells at once

-- by writing, in tables that were plus and minus
pub record Planes (cells : ℕ) (coefficients : List ℤ) (choices plus minus plus' minus' : List ℕ) : Type 0 where
  -- "one listed form per cell", of the cell's own listing
  pub listed : (c : ℕ) → c < cells → Memᴰ (chosen coefficients choices c) (listing 32 (get_or coefficients c (pos 0)))
  -- their digits are those of the planes
  pub strings : up_to cells (cell_string plus' minus') ≡ chosen_forms cells coefficients choices
  -- "planes scaled by their powers add up to the grid"
  pub adds_up : up_to cells (scaled_sum plus' minus') ≡ take cells coefficients
  -- "Mask bits past the last cell are written 0": a digit is 0 where neither table has the bit
  pub past : (p c : ℕ) → p < 32 → cells ≤ c → c < 256 → digit_in plus' minus' p c ≡ nought
  -- a plane's two masks never share a cell
  pub apart : (c : ℕ) → c < 256 → Apart plus' minus' c
  -- what lies past the 128 words is as it was
  pub plus_past : drop 128 plus' ≡ drop 128 plus
  pub minus_past : drop 128 minus' ≡ drop 128 minus

-- by reading what writing left
pub record Returned (cells : ℕ) (coefficients : List ℤ) (choices : List ℕ) (a : Answer (Unit {0})) (cell_plus' cell_minus' : List ℕ) : Type 0 where
  pub accepted : a ≡ given tt
  pub forms : up_to cells (form_in cell_plus' cell_minus') ≡ map form_of (chosen_forms cells coefficients choices)
  pub strings : up_to cells (λ (c : ℕ). string_of (form_in cell_plus' cell_minus' c)) ≡ chosen_forms cells coefficients choices

-- by reading any planes, in tables that were cellPlus and cellMinus
pub record Cells (cells : ℕ) (plus minus cell_plus cell_minus cell_plus' cell_minus' : List ℕ) : Type 0 where
  -- "each cell's two masks"
  pub two_masks : (c : ℕ) → c < cells → TwoMasks (form_in cell_plus' cell_minus' c)
  -- their digits are those of the planes
  pub strings : up_to cells (λ (c : ℕ). string_of (form_in cell_plus' cell_minus' c)) ≡ up_to cells (cell_string plus minus)
  -- their values are the sums of the scaled planes
  pub values : up_to cells (λ (c : ℕ). value_of (form_in cell_plus' cell_minus' c)) ≡ up_to cells (λ (c : ℕ). given (scaled_sum plus minus c))
  -- what lies past the cells is as it was
  pub plus_past : drop cells cell_plus' ≡ drop cells cell_plus
  pub minus_past : drop cells cell_minus' ≡ drop cells cell_minus

-- every element of a table is below a bound, as 64-bit words are below 2^64
abbrev pub AllBelow : ℕ → List ℕ → Type 0
AllBelow bound table = (k : ℕ) → get_or table k 0 < bound

pub record PlaneClaims : Type 0 where
  -- ---- "Given a grid and one listed form per cell, the part writes 32 planes"
  pub written : (height width : ℕ) (coefficients : List ℤ) (choices plus minus plus' minus' : List ℕ)
      → PlanesWritten height width coefficients choices plus minus (given tt) plus' minus' → Planes (height * width) coefficients choices plus minus plus' minus'
  -- "Cells count row by row": of a grid given as rows of equal width, the coefficient in a row and a column stands in the planes at the cell of these
  pub row_by_row : (width : ℕ) (rows : List (List ℤ)) → ((r : ℕ) → r < length rows → length (get_or rows r []) ≡ width)
      → (choices plus minus plus' minus' : List ℕ) → PlanesWritten (length rows) width (join_rows rows) choices plus minus (given tt) plus' minus'
      → (row column : ℕ) → row < length rows → column < width → scaled_sum plus' minus' (cell_at width row column) ≡ get_or (get_or rows row []) column (pos 0)
  -- ---- "Turning there and back returns every form"
  pub there_and_back : (height width : ℕ) (coefficients : List ℤ) (choices plus minus plus' minus' : List ℕ)
      → PlanesWritten height width coefficients choices plus minus (given tt) plus' minus'
      → (cell_plus cell_minus : List ℕ) (a : Answer (Unit {0})) (cell_plus' cell_minus' : List ℕ) → height * width ≤ length cell_plus → height * width ≤ length cell_minus
      → PlanesRead height width plus' minus' cell_plus cell_minus a cell_plus' cell_minus' → Returned (height * width) coefficients choices a cell_plus' cell_minus'
  -- ---- "another part turns planes back into each cell's two masks", whatever planes without an overlap
  pub read : (height width : ℕ) (plus minus cell_plus cell_minus cell_plus' cell_minus' : List ℕ) → PlanesRead height width plus minus cell_plus cell_minus (given tt) cell_plus' cell_minus'
      → Cells (height * width) plus minus cell_plus cell_minus cell_plus' cell_minus'
  -- back and there: the words made of the masks that are read are those of the planes, but for "Mask bits past the last cell", which are "written 0 and ignored when
  -- read". So reading loses nothing else
  pub back_and_there : (height width : ℕ) (plus minus cell_plus cell_minus cell_plus' cell_minus' : List ℕ) → PlanesRead height width plus minus cell_plus cell_minus (given tt) cell_plus' cell_minus'
      → AllBelow (2 ^ 64) plus → AllBelow (2 ^ 64) minus
      → (plane_words_of (take (height * width) cell_plus') ≡ past_cleared (height * width) plus) × (plane_words_of (take (height * width) cell_minus') ≡ past_cleared (height * width) minus)
  -- ---- what is accepted, exactly
  pub writes : (height width : ℕ) (coefficients : List ℤ) (choices plus minus : List ℕ) (a : Answer (Unit {0})) (plus' minus' : List ℕ)
      → PlanesWritten height width coefficients choices plus minus a plus' minus' → a ≡ given tt ↔ CanWrite height width coefficients choices (length plus) (length minus)
  pub reads : (height width : ℕ) (plus minus cell_plus cell_minus : List ℕ) (a : Answer (Unit {0})) (cell_plus' cell_minus' : List ℕ)
      → PlanesRead height width plus minus cell_plus cell_minus a cell_plus' cell_minus' → a ≡ given tt ↔ CanRead height width plus minus (length cell_plus) (length cell_minus)
  -- ---- what is turned down, and lent memory is then unchanged
  pub writing_refused : (height width : ℕ) (coefficients : List ℤ) (choices plus minus : List ℕ) (number place : ℕ) (plus' minus' : List ℕ)
      → PlanesWritten height width coefficients choices plus minus (refused number place) plus' minus'
      → WritingRefusals height width coefficients choices (length plus) (length minus) number place × (plus' ≡ plus) × (minus' ≡ minus)
  pub reading_refused : (height width : ℕ) (plus minus cell_plus cell_minus : List ℕ) (number place : ℕ) (cell_plus' cell_minus' : List ℕ)
      → PlanesRead height width plus minus cell_plus cell_minus (refused number place) cell_plus' cell_minus'
      → ReadingRefusals height width plus minus (length cell_plus) (length cell_minus) number place × (cell_plus' ≡ cell_plus) × (cell_minus' ≡ cell_minus)
