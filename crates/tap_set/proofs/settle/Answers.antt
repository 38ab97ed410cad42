-- `tap_set::settle` meets its contract: what is copied are the coefficients of all numbers. Assumes nothing.
use mathlib.Core.Path.{◌≡◌, refl, sym, ap, ◌∙◌}
use mathlib.Core.List.{List, ◌++◌}
use Prim.Native.Nat.{ℕ}
use lib.IntN.{ℤ}
use lib.ListN.{length, take, drop, length-map}
use lib.Seq.{take_at}
use Rattle.refusal.specs.Answer.{Answer, filled}
use Rattle.tap_set.specs.declared.Report.{Report}
use Rattle.tap_set.specs.Set.{coefficients_of}
use Rattle.tap_set.specs.Inner.{finite_first}
use Rattle.tap_set.proofs.Rounds.{whole, checked_all, checked_first}
use Rattle.tap_set.proofs.settle.Goals as goal

-- the front of a buffer that holds all of cs
fronts : (cs rest buffer copied old : List ℤ) (n : ℕ) → length cs ≡ n → buffer ≡ cs ++ rest → copied ≡ take n buffer → copied ++ drop n old ≡ cs ++ drop (length cs) old
fronts cs rest buffer copied old n l b t =
    ap (λ (k : List ℤ). k ++ drop n old) (t ∙ ap (take n) b ∙ take_at cs rest n l) ∙ ap (λ (k : ℕ). cs ++ drop k old) (sym l)

pub returns-in-Ok-clause-result_value : goal.returns-in-Ok-clause-result_value
returns-in-Ok-clause-result_value g c rule m = checked_all rule c.args.f c.args.divisor c.args.xs.now _ c.in-Ok.ensures.result_value

pub returns-in-Ok-clause-coefficients_after : goal.returns-in-Ok-clause-coefficients_after
returns-in-Ok-clause-coefficients_after g c rule m =
    let a = c.args in
    let xs = a.xs.now in
    c.copy.ensures
    ∙ fronts (coefficients_of a.f xs) _ _ _ a.coefficients.now (length xs) (length-map xs (whole a.f)) c.in-Ok.ensures.front refl
    ∙ ap (λ (b : Answer Report). filled b (coefficients_of a.f xs) a.coefficients.now) (checked_all rule a.f a.divisor xs _ c.in-Ok.ensures.result_value)

pub returns-in-Err-clause-result_value : goal.returns-in-Err-clause-result_value
returns-in-Err-clause-result_value g c rule m =
    let a = c.args in c.first_refusal.ensures rule m ∙ ap (finite_first rule a.xs.now) c.in-Err.ensures.result_value ∙ checked_first rule a.f a.divisor a.xs.now c.requires.sizes.0

pub returns-in-Err-clause-coefficients_after : goal.returns-in-Err-clause-coefficients_after
returns-in-Err-clause-coefficients_after g c rule m =
    let a = c.args in
    ap (λ (b : Answer Report). filled b (coefficients_of a.f a.xs.now) a.coefficients.now)
    (c.first_refusal.ensures rule m ∙ ap (finite_first rule a.xs.now) c.in-Err.ensures.result_value ∙ checked_first rule a.f a.divisor a.xs.now c.requires.sizes.0)
