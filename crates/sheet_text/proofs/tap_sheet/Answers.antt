-- `sheet_text::tap_sheet` meets its contract: the table holds the input's taps (`held`), so that the answer of the rounding is the answer to these (`rounded`), and where it is given the table of coefficients holds theirs (`coefficients`), which are within the bounds.
-- Assumes nothing.
use mathlib.Core.List.{List}
use mathlib.Core.Bool.{false}
use mathlib.Core.Path.{◌≡◌, refl, sym, ap, subst, ◌∙◌}
use Prim.Native.Nat.{◌/◌, ◌≤◌}
use native.Mathlib.Omega.{arith}
use lib.ListN.{length-replicate, length, take, length-map}
use lib.IntN.{ℤ, pos}
use lib.Ieee.{Float}
use Rattle.std.proofs.lemmas.Result.{err_from_is_err_and}
use Rattle.tap.specs.Rounding.{result_of, whole_of}
use Rattle.sequence.proofs.UpTo.{length_up_to}
use Rattle.tap_set.specs.Set.{rounded_taps, coefficients_of}
use Rattle.refusal.specs.Answer.{Answer, answer_of, given}
use Rattle.network.specs.Rows.{Network}
use Rattle.build_steps.specs.TapRows.{built}
use Rattle.sheet_input.specs.Argument.{argument_of}
use Rattle.sheet_input.specs.Input.{input_answer}
use Rattle.sheet_input.specs.Taps.{tap_at_of, taps_of}
use Rattle.sheet_input.proofs.Answers.{at_most_256}
use Rattle.sheet_text.specs.Inner.{Coefficients, SheetOrRefusal}
use Rattle.sheet_text.specs.Sheet.{choices, sheet_answer}
use Rattle.sheet_text.proofs.Sheets.{taps_held, length_held, answer_held, coefficients_held, taps_given, taps_refused, answer_given, answer_refused}
use Rattle.sheet_text.proofs.Bounds.{accepted_coefficients}
use Rattle.sheet_text.proofs.tap_sheet.Goals.{In_ok-fraction_bits, After-round_taps, In_ok-round_taps}
use Rattle.sheet_text.proofs.tap_sheet.Goals as goal

pub returns-in_err-fraction_bits : goal.returns-in_err-fraction_bits
returns-in_err-fraction_bits c =
    let p = err_from_is_err_and c.from_residual.result c.from_residual.ensures.1 in
    rw (p.1, p.2)
    (refl, answer_refused c.args.input.now (argument_of c.args.argument) _ _ (sym c.fraction_bits.ensures ∙ ap answer_of c.in_err-fraction_bits.was))

-- F is given
bits : (c : In_ok-fraction_bits) → input_answer c.args.input.now (argument_of c.args.argument) ≡ given c.in_ok-fraction_bits.fraction_bits
bits c = sym c.fraction_bits.ensures ∙ ap answer_of c.in_ok-fraction_bits.was

few : (c : In_ok-fraction_bits) → length c.args.input.now / 8 ≤ 256
few c = at_most_256 c.args.input.now (argument_of c.args.argument) _ (bits c)

pub read_taps-requires : goal.read_taps-requires
read_taps-requires c = few (goal.at-read_taps-requires c).In_ok-fraction_bits

-- the taps that are rounded are the input's
held : (c : After-round_taps) → take (length c.args.input.now / 8) c.read_taps.new.taps ≡ taps_of c.args.input.now
held c = taps_held (tap_at_of c.args.input.now) _ _ (length c.args.input.now / 8) c.read_taps.ensures

rounded : (c : After-round_taps) → answer_of c.round_taps.result ≡ rounded_taps c.in_ok-fraction_bits.fraction_bits false (taps_of c.args.input.now) 256
rounded c =
    answer_held c.in_ok-fraction_bits.fraction_bits _ _ (taps_of c.args.input.now) _ c.round_taps.ensures.answer (held c) (length-replicate {A = ℤ} 256 (pos 0))

-- where they are accepted
accepted : (c : In_ok-round_taps) → rounded_taps c.in_ok-fraction_bits.fraction_bits false (taps_of c.args.input.now) 256 ≡ given c.in_ok-round_taps.field-0
accepted c =
    sym (rounded (goal.at-In_ok-round_taps c).After-round_taps) ∙ ap answer_of c.in_ok-round_taps.was

coefficients : (c : In_ok-round_taps) → take (length c.args.input.now / 8) c.round_taps.new.coefficients ≡ coefficients_of c.in_ok-fraction_bits.fraction_bits (taps_of c.args.input.now)
coefficients c =
    let input = c.args.input.now in
    coefficients_held c.in_ok-fraction_bits.fraction_bits (length input / 8) _ (taps_of input) _ _ _ _ c.round_taps.ensures.written (sym c.round_taps.ensures.answer ∙ ap answer_of c.in_ok-round_taps.was) (held (goal.at-In_ok-round_taps c).After-round_taps) (length_up_to (length input / 8) (tap_at_of input))

pub slice_bounds-taps-end : goal.slice_bounds-taps-end
slice_bounds-taps-end c = omega (arith, c.read_taps.auto.taps, few (goal.at-slice_bounds-taps-end c).In_ok-fraction_bits)

pub slice_bounds-round_taps-end : goal.slice_bounds-round_taps-end
slice_bounds-round_taps-end c =
    length_held (tap_at_of c.args.input.now) _ _ (length c.args.input.now / 8) c.read_taps.ensures

pub slice_bounds-coefficients-end : goal.slice_bounds-coefficients-end
slice_bounds-coefficients-end c = omega (arith, c.round_taps.auto.coefficients, few (goal.at-slice_bounds-coefficients-end c).In_ok-fraction_bits)

pub slice_bounds-coefficient_sheet-end : goal.slice_bounds-coefficient_sheet-end
slice_bounds-coefficient_sheet-end c =
    let input = c.args.input.now in
    sym (ap length (coefficients (goal.at-slice_bounds-coefficient_sheet-end c).In_ok-round_taps) ∙ length-map (taps_of input) (λ (x : Float). whole_of (result_of c.in_ok-fraction_bits.fraction_bits x)) ∙ length_up_to (length input / 8) (tap_at_of input))

pub returns-in_err-round_taps : goal.returns-in_err-round_taps
returns-in_err-round_taps c =
    let input = c.args.input.now in
    let argument = argument_of c.args.argument in
    let p = err_from_is_err_and c.from_residual-in_err-round_taps.result c.from_residual-in_err-round_taps.ensures.1 in
    rw (p.1, p.2) (
      refl,
      answer_given input argument _ (bits (goal.at-returns-in_err-round_taps c).In_ok-fraction_bits)
          ∙ taps_refused _ (taps_of input) _ _ (sym (rounded (goal.at-returns-in_err-round_taps c).After-round_taps) ∙ ap answer_of c.in_err-round_taps.was),
    )

pub coefficient_sheet-requires : goal.coefficient_sheet-requires
coefficient_sheet-requires c =
    let at = goal.at-coefficient_sheet-requires c in
    (subst Coefficients (sym (coefficients at.In_ok-round_taps)) (accepted_coefficients c.in_ok-fraction_bits.fraction_bits (taps_of c.args.input.now) 256 _ (accepted at.In_ok-round_taps)), c.requires)

pub returns : goal.returns
returns c =
    let input = c.args.input.now in
    let argument = argument_of c.args.argument in
    let at = goal.at-returns c in
    let F = c.in_ok-fraction_bits.fraction_bits in
    let answer : given (built (take (length input / 8) c.round_taps.new.coefficients) choices) ≡ sheet_answer input argument
    = ap (λ (h : List ℤ). given (built h choices)) (coefficients at.In_ok-round_taps)
    ∙ sym (answer_given input argument F (bits at.In_ok-fraction_bits) ∙ taps_given F (taps_of input) _ (accepted at.In_ok-round_taps)) in
    subst (λ (a : Answer Network). SheetOrRefusal c.args.to.now a c.coefficient_sheet.result c.coefficient_sheet.new.to) answer c.coefficient_sheet.ensures
