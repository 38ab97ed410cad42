-- Worked examples of the reduction and of the trimmed filter. Statements only; proofs/Figures.antt proves them.
use Rattle.std.specs.Prelude.{List, [], ◌∷◌, ◌^◌, ◌-◌, ℤ, pos, neg_ℤ}
use Rattle.signed_digit.specs.Reduction.{positive, negative}
use Rattle.coefficient.specs.Parts.{no_odd_part, parts, ReducedTo}
use Rattle.coefficient.specs.Stretch.{StretchStarts, StretchEnds, TrimmedTo}

pub record ReductionFigures : Type 0 where
  pub zero : ReducedTo (pos 0) no_odd_part
  pub minus_six : ReducedTo (neg_ℤ (pos 6)) (parts negative 3 1)
  pub one_hundred_and_eighty : ReducedTo (pos 180) (parts positive 45 2)
  pub greatest : ReducedTo (pos (2 ^ 31 - 1)) (parts positive (2 ^ 31 - 1) 0)
  pub least : ReducedTo (neg_ℤ (pos (2 ^ 31))) (parts negative 1 31)

-- 0, 5, 0, -7, 0, 0
abbrev pub inner_zero : List ℤ
inner_zero = pos 0 ∷ pos 5 ∷ pos 0 ∷ neg_ℤ (pos 7) ∷ pos 0 ∷ pos 0 ∷ []

-- slices that stand 96 bytes into block 7
pub record TrimmedFigures : Type 0 where
  pub none : TrimmedTo [] (7, 96) [] (7, 96)
  pub zeros : TrimmedTo (pos 0 ∷ pos 0 ∷ []) (7, 96) [] (7, 96)
  pub inner_zero_lem : TrimmedTo inner_zero (7, 96) (pos 5 ∷ pos 0 ∷ neg_ℤ (pos 7) ∷ []) (7, 100)
  pub inner_start : StretchStarts inner_zero 1
  pub inner_end : StretchEnds inner_zero 4
