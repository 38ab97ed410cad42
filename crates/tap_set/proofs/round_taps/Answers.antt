-- `tap_set::round_taps` meets its contract. Each check of the table that applies ends it, and each way out is a law of proofs/Settled.antt: what is left here is
-- to hand that law the facts of the tests passed on the way. Assumes nothing.
use borrow.Author.Rules.{rules}
use mathlib.Core.Path.{◌≡◌, refl, ap, ◌∙◌}
use mathlib.Core.Bool.{Bool, true, false, true≢false, false≢true}
use mathlib.Core.List.{List}
use Prim.Native.Nat.{ℕ}
use lib.IntN.{ℤ, pos}
use lib.ListN.{length}
use lib.Ieee.{Float, fin, binary64, of_bits}
use Rattle.refusal.specs.Answer.{Answer, filled}
use Rattle.tap_set.specs.declared.Report.{Report}
use Rattle.tap_normalise.specs.Normalised.{used}
use Rattle.tap_set.specs.Set.{coefficients_of, rounded_taps, TapsRounded}
use Rattle.tap_set.specs.Inner.{checked, settled}
use Rattle.tap_set.proofs.Settled.{plain_settled, no_taps, many_taps, short_table_lem, many_bits, few_bits}
use Rattle.tap_set.proofs.round_taps.Goals.{Else-fraction_bits-gt31, Start}
use Rattle.tap_set.proofs.round_taps.Goals as goal

-- the coefficients and the table, of the arguments
abbrev table : (c : Start) → Answer Report → List ℤ
table c b = let args = c.args in filled b (coefficients_of args.fraction_bits (used args.normalised args.taps.now)) args.coefficients.now

abbrev answer : (c : Start) → Answer Report
answer c = let args = c.args in rounded_taps args.fraction_bits args.normalised args.taps.now (length args.coefficients.now)

-- 1.0 by its bit pattern, as the code has it
one_is : of_bits binary64 0x3ff0_0000_0000_0000 ≡ fin false 1 (pos 0)
unfolding of_bits
one_is = refl

-- the two modes, once the numbers are rounded
module _ (F : ℕ) (taps : List Float) (old new : List ℤ) (r : Answer Report) where
  divided : (n : Bool) → n ≡ true → settled F n taps ≡ rounded_taps F n taps (length old) → r ≡ settled F true taps → new ≡ filled (settled F true taps) (coefficients_of F (used true taps)) old
      → TapsRounded F n taps old r new
  divided false m e h w = absurd (false≢true m)
  divided true m e h w = record { answer = h ∙ e; written = w ∙ ap (λ (b : Answer Report). filled b (coefficients_of F (used true taps)) old) e }

  undivided : (n : Bool) → n ≡ false → settled F n taps ≡ rounded_taps F n taps (length old) → (d : Float) → d ≡ fin false 1 (pos 0) → r ≡ checked 5 F d taps
      → new ≡ filled (checked 5 F d taps) (coefficients_of F taps) old → TapsRounded F n taps old r new
  undivided true m e d o h w = absurd (true≢false m)
  undivided false m e d o h w = record { answer = h ∙ b; written = w ∙ ap (λ (q : Answer Report). filled q (coefficients_of F taps) old) b }
    where
      b : checked 5 F d taps ≡ rounded_taps F false taps (length old)
      b = ap (λ (q : Float). checked 5 F q taps) o ∙ plain_settled F taps ∙ e

-- the checks 1 to 4 have passed
settled_is : (c : Else-fraction_bits-gt31) → let a = c.args in settled a.fraction_bits a.normalised a.taps.now ≡ answer (goal.at-Else-fraction_bits-gt31 c).Start
settled_is c =
    let args = c.args in
    few_bits args.fraction_bits args.normalised args.taps.now (length args.coefficients.now) c.if-n-eq0.false c.if-n-gt256.false c.if-coefficients-n.false c.if-fraction_bits-gt31.false

pub returns-then-n-eq0 : goal.returns-then-n-eq0
returns-then-n-eq0 c =
    let args = c.args in
    let e = no_taps args.fraction_bits args.normalised args.taps.now (length args.coefficients.now) c.if-n-eq0.true in
    record { answer = e; written = ap (table (goal.at-returns-then-n-eq0 c).Start) e }

pub returns-then-n-gt256 : goal.returns-then-n-gt256
returns-then-n-gt256 c =
    let args = c.args in
    let e = many_taps args.fraction_bits args.normalised args.taps.now (length args.coefficients.now) c.if-n-eq0.false c.if-n-gt256.true in
    record { answer = e; written = ap (table (goal.at-returns-then-n-gt256 c).Start) e }

pub returns-then-coefficients-n : goal.returns-then-coefficients-n
returns-then-coefficients-n c =
    let args = c.args in
    let e = short_table_lem args.fraction_bits args.normalised args.taps.now (length args.coefficients.now) c.if-n-eq0.false c.if-n-gt256.false c.if-coefficients-n.true in
    record { answer = e; written = ap (table (goal.at-returns-then-coefficients-n c).Start) e }

pub returns-then-fraction_bits-gt31 : goal.returns-then-fraction_bits-gt31
returns-then-fraction_bits-gt31 c =
    let args = c.args in
    let e = many_bits args.fraction_bits args.normalised args.taps.now (length args.coefficients.now) c.if-n-eq0.false c.if-n-gt256.false c.if-coefficients-n.false c.if-fraction_bits-gt31.true in
    record { answer = e; written = ap (table (goal.at-returns-then-fraction_bits-gt31 c).Start) e }

pub returns-then-normalised : goal.returns-then-normalised
returns-then-normalised c =
    let args = c.args in
    divided args.fraction_bits args.taps.now args.coefficients.now _ _ args.normalised c.if-normalised.true (settled_is (goal.at-returns-then-normalised c).Else-fraction_bits-gt31) c.round_quotients.ensures.result_value c.round_quotients.ensures.coefficients_after

pub returns-else-normalised : goal.returns-else-normalised
returns-else-normalised c =
    let args = c.args in
    undivided args.fraction_bits args.taps.now args.coefficients.now _ _ args.normalised c.if-normalised.false (settled_is (goal.at-returns-else-normalised c).Else-fraction_bits-gt31) (of_bits binary64 0x3ff0_0000_0000_0000) one_is (c.settle.ensures.result_value 5 (search rules)) (c.settle.ensures.coefficients_after 5 (search rules))
