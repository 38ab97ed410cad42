-- Worked examples of planes. Statements only; proofs/Figures.antt proves `PlaneFigures`.
use Rattle.std.specs.Prelude.{◌≡◌, List, [], ◌∷◌, ◌++◌, ℕ, ◌+◌, ◌^◌, ◌≤◌, ℤ, pos, neg_ℤ, length, drop, replicate}
use Rattle.refusal.specs.Answer.{given, refused}
use Rattle.plane_masks.specs.Planes.{join_rows}
use Rattle.plane_masks.specs.Written.{PlanesWritten, PlanesRead}
use Rattle.plane_masks.specs.Claims.{AllBelow, CanWrite}

-- a row of three cells: 45, in its last form 32+8+4+1, 0 and -2^31
abbrev pub three_cells : List ℤ
three_cells = pos 45 ∷ pos 0 ∷ neg_ℤ (pos (2 ^ 31)) ∷ []

-- its planes: cell 0 holds 1 in planes 0, 2, 3 and 5, and cell 2 holds -1 in plane 31
abbrev pub three_plus : List ℕ
three_plus = 1 ∷ (replicate 7 0 ++ (1 ∷ (replicate 3 0 ++ (1 ∷ (replicate 7 0 ++ (1 ∷ replicate 107 0))))))

abbrev pub three_minus : List ℕ
three_minus = replicate 124 0 ++ (4 ∷ replicate 3 0)

-- cell 1 in plane 0, and cell 0 in plane 31
abbrev pub two_cells : List ℕ
two_cells = 2 ∷ (replicate 123 0 ++ (1 ∷ replicate 3 0))

-- cell 64 in plane 0, cell 63 in plane 5 and cell 255 in plane 31
abbrev pub far_cells : List ℕ
far_cells = 0 ∷ 1 ∷ (replicate 18 0 ++ (2 ^ 63 ∷ (replicate 106 0 ++ (2 ^ 63 ∷ []))))

pub record PlaneFigures : Type 0 where
  pub three_written : (plus minus : List ℕ) → 128 ≤ length plus → 128 ≤ length minus
      → PlanesWritten 1 3 three_cells (4 ∷ 0 ∷ 0 ∷ []) plus minus (given tt) (three_plus ++ drop 128 plus) (three_minus ++ drop 128 minus)
  pub three_read : PlanesRead 1 3 three_plus three_minus (7 ∷ 7 ∷ 7 ∷ 7 ∷ []) (7 ∷ 7 ∷ 7 ∷ []) (given tt) ((32 + 8 + 4 + 1) ∷ 0 ∷ 0 ∷ 7 ∷ []) (0 ∷ 0 ∷ 2 ^ 31 ∷ [])
  pub three_words : AllBelow (2 ^ 64) three_plus × AllBelow (2 ^ 64) three_minus
  -- cells in each of the words of a plane, from the lowest bit of one to the highest of another
  pub far_read : PlanesRead 16 16 far_cells (replicate 128 0) (replicate 256 7) (replicate 256 7) (given tt)
      (replicate 63 0 ++ (2 ^ 5 ∷ 1 ∷ (replicate 190 0 ++ (2 ^ 31 ∷ [])))) (replicate 256 0)
  pub far_overlap : PlanesRead 16 16 far_cells far_cells (replicate 256 7) (replicate 256 7) (refused 8 63) (replicate 256 7) (replicate 256 7)
  -- a grid by its rows: the three cells in one, and two rows of two
  pub one_row : join_rows (three_cells ∷ []) ≡ three_cells
  pub two_rows : join_rows ((pos 1 ∷ pos 2 ∷ []) ∷ (pos 3 ∷ pos 4 ∷ []) ∷ []) ≡ pos 1 ∷ pos 2 ∷ pos 3 ∷ pos 4 ∷ []
  -- a grid of 16 by 16 is written
  pub whole_grid : CanWrite 16 16 (replicate 256 (pos 0)) (replicate 256 0) 128 128
  -- the lowest cell, though it overlaps in the highest plane; where the cell that overlaps in the lowest lies past the last, it is ignored
  pub lowest_cell : PlanesRead 1 2 two_cells two_cells (0 ∷ 0 ∷ []) (0 ∷ 0 ∷ []) (refused 8 0) (0 ∷ 0 ∷ []) (0 ∷ 0 ∷ [])
  pub past_ignored : PlanesRead 1 1 two_cells (2 ∷ replicate 127 0) (0 ∷ []) (0 ∷ []) (given tt) (2 ^ 31 ∷ []) (0 ∷ [])
  -- 45 has five forms, the numbers 0 to 4
  pub no_sixth_form : (plus minus : List ℕ) → 128 ≤ length plus → 128 ≤ length minus → PlanesWritten 2 1 (pos 0 ∷ pos 45 ∷ []) (0 ∷ 5 ∷ []) plus minus (refused 9 1) plus minus
  pub no_rows : PlanesWritten 0 1 [] [] [] [] (refused 14 0) [] []
  pub too_wide : PlanesRead 1 17 [] [] [] [] (refused 14 0) [] []
  pub one_short : PlanesWritten 1 1 (pos 0 ∷ []) (0 ∷ []) (replicate 128 0) (replicate 127 0) (refused 3 0) (replicate 128 0) (replicate 127 0)
