-- Worked examples of a form's value and weight and of the canonical form. Statements only; proofs/Figures.antt proves them.
use Rattle.std.specs.Prelude.{ℕ, ◌+◌, ◌^◌, pos, neg_ℤ}
use Rattle.refusal.specs.Answer.{given, refused}
use Rattle.form_masks.specs.declared.Form.{Form}
use Rattle.form_masks.specs.Form.{TwoMasks, LowestOverlap, InCanonicalForm}
use Rattle.form_masks.specs.Value.{FormValued}
use Rattle.form_masks.specs.Weight.{FormWeighed}

-- 64-16-4+1 is maskPair (64 + 1) (16 + 4)
abbrev pub mask_pair : ℕ → ℕ → Form
mask_pair plus minus = record { plus = plus; minus = minus }

pub record FormMaskFigures : Type 0 where
  pub masks_45 : TwoMasks (mask_pair (64 + 1) (16 + 4))
  pub value_45 : FormValued (mask_pair (64 + 1) (16 + 4)) (given (pos 45))
  pub weight_45 : FormWeighed (mask_pair (64 + 1) (16 + 4)) (given 4)
  -- places 2 and 4 are in both
  pub place_2 : LowestOverlap (mask_pair (16 + 4 + 1) (16 + 4)) 2
  pub overlapping : FormValued (mask_pair (16 + 4 + 1) (16 + 4)) (refused 8 2)
  pub canonical_45 : InCanonicalForm (pos 45) (mask_pair (64 + 1) (16 + 4))
  pub canonical_least : InCanonicalForm (neg_ℤ (pos (2 ^ 31))) (mask_pair 0 (2 ^ 31))
