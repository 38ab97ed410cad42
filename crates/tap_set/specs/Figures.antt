-- Bench figures of document 01 on a set of taps, and one on its report. Definitions only; the proof is in proofs/Figures.antt.
use Rattle.std.specs.Prelude.{true, false, List, [], ◌∷◌, pos, neg_ℤ, Float}
use Rattle.std.specs.Float.{fin}
use Rattle.refusal.specs.Answer.{given, refused}
use Rattle.tap_set.specs.Set.{TapsRounded}

-- 1, 0.5, 0.625
abbrev one : Float
one = fin false 1 (pos 0)

abbrev half : Float
half = fin false 1 (neg_ℤ (pos 1))

abbrev five_eighths : Float
five_eighths = fin false 5 (neg_ℤ (pos 3))

-- the three taps 0.5, 0.625, -0.625
abbrev pub three : List Float
three = half ∷ five_eighths ∷ fin true 5 (neg_ℤ (pos 3)) ∷ []

pub record SetFigures : Type 0 where
  -- "Normalised: 1,1,1,1 gives 0.25 each": at F = 2 each is 1 and exact; the fifth element of the table is untouched
  pub quarters : TapsRounded 2 true (one ∷ one ∷ one ∷ one ∷ []) (pos 9 ∷ pos 9 ∷ pos 9 ∷ pos 9 ∷ pos 9 ∷ []) (given (record { divisor = fin false 1 (pos 2); leftover = fin false 0 (pos 0) }))
      (pos 1 ∷ pos 1 ∷ pos 1 ∷ pos 1 ∷ pos 9 ∷ [])
  -- "1,-1 gives refusal 7"
  pub no_sum : TapsRounded 2 true (one ∷ fin true 1 (pos 0) ∷ []) (pos 9 ∷ pos 9 ∷ []) (refused 7 0) (pos 9 ∷ pos 9 ∷ [])
  -- "zero length gives refusal 1"
  pub no_taps : TapsRounded 2 true [] (pos 9 ∷ []) (refused 1 0) (pos 9 ∷ [])
  -- not normalised at F = 2: the leftovers are +0, 0.5 and -0.5, of which 0.5 is the earlier
  pub earliest : TapsRounded 2 false three (pos 9 ∷ pos 9 ∷ pos 9 ∷ []) (given (record { divisor = one; leftover = half })) (pos 2 ∷ pos 2 ∷ neg_ℤ (pos 2) ∷ [])
