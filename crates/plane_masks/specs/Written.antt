-- What writing planes and reading them answer and leave. Document 02, request 3. Definitions only.
use Rattle.std.specs.Prelude.{◌≡◌, List, map, ℕ, ◌*◌, ℤ, length}
use Rattle.refusal.specs.Answer.{Answer, filled}
use Rattle.signed_digit.specs.String.{DigitString}
use Rattle.signed_digit.specs.Masks.{plus_mask, minus_mask}
use Rattle.plane_masks.specs.Planes.{cell_masks, plane_words_of}
use Rattle.plane_masks.specs.Grid.{chosen_forms, planes_answer, cells_answer}

-- "Given a grid and one listed form per cell": the words of one of the masks of all forms
abbrev pub grid_words : (DigitString → ℕ) → ℕ → ℕ → List ℤ → List ℕ → List ℕ
grid_words mask height width coefficients choices = plane_words_of (map mask (chosen_forms (height * width) coefficients choices))

-- writing the planes of a grid into the lent tables plus and minus answers a and leaves plus' and minus': the contract of `write_planes`, and what every claim
-- about it speaks of. "Mask bits past the last cell are written 0", words past 128 are untouched
pub record PlanesWritten (height width : ℕ) (coefficients : List ℤ) (choices plus minus : List ℕ) (a : Answer (Unit {0})) (plus' minus' : List ℕ) : Type 0 where
  pub answer : a ≡ planes_answer height width coefficients choices (length plus) (length minus)
  pub plus_left : plus' ≡ filled (planes_answer height width coefficients choices (length plus) (length minus)) (grid_words plus_mask height width coefficients choices) plus
  pub minus_left : minus' ≡ filled (planes_answer height width coefficients choices (length plus) (length minus)) (grid_words minus_mask height width coefficients choices) minus

-- reading planes into the lent tables cell_plus and cell_minus, the masks of the 1s and of the -1s of each cell, answers a and leaves cell_plus' and cell_minus': the contract of
-- `read_planes`, and what every claim about it speaks of
pub record PlanesRead (height width : ℕ) (plus minus cell_plus cell_minus : List ℕ) (a : Answer (Unit {0})) (cell_plus' cell_minus' : List ℕ) : Type 0 where
  pub answer : a ≡ cells_answer height width plus minus (length cell_plus) (length cell_minus)
  pub plus_left : cell_plus' ≡ filled (cells_answer height width plus minus (length cell_plus) (length cell_minus)) (cell_masks (height * width) plus) cell_plus
  pub minus_left : cell_minus' ≡ filled (cells_answer height width plus minus (length cell_plus) (length cell_minus)) (cell_masks (height * width) minus) cell_minus
