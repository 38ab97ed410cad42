-- `tap_set::round_quotients` meets its contract. A sum that taps cannot be divided by leads to `no_sum`. Else the front of the table holds the quotients, `settle`
-- answers for them, and since a finite sum has only finite taps, that answer is the one for the taps. Assumes nothing.
use borrow.Author.Rules.{rules}
use borrow.Author.Tests.{not-true, not-false}
use mathlib.Core.Path.{◌≡◌, sym, ap, ◌∙◌}
use mathlib.Core.Bool.{true, false}
use mathlib.Core.List.{List, ◌++◌}
use Prim.Native.Nat.{ℕ}
use lib.IntN.{ℤ}
use lib.ListN.{length, take, length-map}
use lib.Seq.{take_at}
use lib.Ieee.{Float, binary64, div}
use Rattle.refusal.specs.Answer.{Answer, filled}
use Rattle.tap_set.specs.declared.Report.{Report}
use Rattle.tap_normalise.specs.Normalised.{sum_of, unusable, quotients}
use Rattle.tap_set.specs.Set.{coefficients_of}
use Rattle.tap_set.specs.Inner.{checked, settled}
use Rattle.tap_set.proofs.Settled.{without_sum, with_sum}
use Rattle.tap_set.proofs.round_quotients.Goals.{After-divide, Else-not-is_usable}
use Rattle.tap_set.proofs.round_quotients.Goals as goal

abbrev Q : List Float → List Float
Q taps = quotients (sum_of taps) taps

many : (taps : List Float) → length (Q taps) ≡ length taps
many taps = length-map taps (λ (x : Float). div binary64 x (sum_of taps))

front_held : (taps : List Float) (sum : Float) (rest table : List Float) → table ≡ quotients sum taps ++ rest → sum ≡ sum_of taps → take (length taps) table ≡ Q taps
front_held taps sum rest table e s = ap (take (length taps)) (e ∙ ap (λ (y : Float). quotients y taps ++ rest) s) ∙ take_at (Q taps) rest (length taps) (many taps)

-- the sum can be divided by
usable : (c : Else-not-is_usable) → unusable (sum_of c.args.taps.now) ≡ false
usable c =
    let h = c.if-not-is_usable.false in
    ap unusable (sym c.total-sum.ensures) ∙ not-true (unusable c.total-sum.result) (sym c.is_usable.ensures ∙ h)

-- the front of the table holds the quotients
held : (c : After-divide) → let a = c.args in take (length a.taps.now) c.divide.new.table ≡ Q a.taps.now
held c =
    let args = c.args in
    let taps = args.taps.now in
    front_held taps c.total-sum.result _ _ c.divide.ensures c.total-sum.ensures

-- the quotients, once they are rounded
divided : (f : ℕ) (taps : List Float) (sum : Float) (ys : List Float) (old new : List ℤ) (r : Answer Report) → sum ≡ sum_of taps → unusable (sum_of taps) ≡ false → ys ≡ Q taps → r ≡ checked 7 f sum ys
    → new ≡ filled (checked 7 f sum ys) (coefficients_of f ys) old → (r ≡ settled f true taps) × (new ≡ filled (settled f true taps) (coefficients_of f (Q taps)) old)
divided f taps sum ys old new r s u h e w = (
  e ∙ b,
  w ∙ ap (λ (r : Answer Report). filled r (coefficients_of f ys) old) b ∙ ap (λ (xs : List Float). filled (settled f true taps) (coefficients_of f xs) old) h,
)
  where
    b : checked 7 f sum ys ≡ settled f true taps
    b = ap (checked 7 f sum) h ∙ ap (λ (q : Float). checked 7 f q (Q taps)) s ∙ with_sum f taps u

pub returns-then-not-is_usable : goal.returns-then-not-is_usable
returns-then-not-is_usable c =
    let args = c.args in
    let b : unusable (sum_of args.taps.now) ≡ true = ap unusable (sym c.total-sum.ensures) ∙ not-false (unusable c.total-sum.result) (sym c.is_usable.ensures ∙ c.if-not-is_usable.true) in
    let e = c.first_refusal.ensures 5 (search rules) ∙ without_sum args.f args.taps.now b in
    record {
      result_value = e;
      coefficients_after = ap (λ (b : Answer Report). filled b (coefficients_of args.f (Q args.taps.now)) args.coefficients.now) e;
    }

pub returns : goal.returns
returns c =
    let args = c.args in
    let d =
    divided args.f args.taps.now c.total-sum.result (take (length args.taps.now) c.divide.new.table) args.coefficients.now _ _ c.total-sum.ensures (usable (goal.at-returns c).Else-not-is_usable) (held (goal.at-returns c).After-divide) (c.settle.ensures.result_value 7 (search rules))
    (c.settle.ensures.coefficients_after 7 (search rules)) in
    record { result_value = d.0; coefficients_after = d.1 }
