-- The checks of the sizes, one after the other. Assumes nothing.
use mathlib.Core.Path.{◌≡◌, ◌∙◌}
use mathlib.Core.Bool.{Bool, true, false}
use Prim.Native.Nat.{ℕ, ◌*◌}
use Rattle.refusal.specs.Answer.{given, refused, refuse_if}
use Rattle.refusal.proofs.Checks.{check_applies, check_passes}
use Rattle.plane_masks.specs.Grid.{bad_sides_of, short_table_of, sizes_answer}

module _ (height width plus minus first second : ℕ) where
  abbrev short : Bool
  short = short_table_of (height * width) plus minus first second

  pub bad_sides_lem : bad_sides_of height width ≡ true → sizes_answer height width plus minus first second ≡ refused 14 0
  unfolding sizes_answer
  bad_sides_lem e = check_applies (bad_sides_of height width) 14 (refuse_if short 3 (given tt)) e

  pub table_short : bad_sides_of height width ≡ false → short ≡ true → sizes_answer height width plus minus first second ≡ refused 3 0
  unfolding sizes_answer
  table_short good e = check_passes (bad_sides_of height width) 14 (refuse_if short 3 (given tt)) good ∙ check_applies short 3 (given tt) e
