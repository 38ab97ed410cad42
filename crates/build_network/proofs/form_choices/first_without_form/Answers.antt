-- `build_network::form_choices::first_without_form` meets its contract. Assumes nothing.
use Rattle.std.proofs.Common.{◌≡◌, sym, ap, ◌∙◌, Bool, true, false, not, ℤ, pos, get_or, FitsSigned, w32, below_more, rules, arith}
use mathlib.Core.Bool.{not-not}
use mir.ValLaws.{to_z-of_z}
use Rattle.word.proofs.Bounds.{i32_coefficient}
use Rattle.refusal.proofs.Checks.{lowest_here, lowest_later, lowest_none}
use Rattle.coefficient.specs.Parts.{parts_of}
use Rattle.build_steps.specs.Answer.{Choice, choices_of, no_such_form}
use Rattle.build_steps.proofs.Answers.{length_choices, choice_at}
use Rattle.build_network.proofs.form_choices.first_without_form.Invariants.{breaks}
use Rattle.build_network.proofs.form_choices.first_without_form.Goals.{After-has_form}
use Rattle.build_network.proofs.form_choices.first_without_form.Goals as goal

-- what stands past the last tap
abbrev no_choice : Choice
no_choice = record { tap = parts_of (pos 0); number = 0 }

not_swap : (a b t : Bool) → a ≡ not b → a ≡ not t → b ≡ t
not_swap a b t e f = sym (not-not b) ∙ ap not (sym e ∙ f) ∙ not-not t

module _ (c : After-has_form) where
  abbrev n : ℤ
  n = get_or c.args.coefficients.now c.loop-i.i (pos 0)

  fits : FitsSigned w32 n
  fits = search rules

  -- what `has_form` said of tap i
  tested : (t : Bool) → c.has_form.result ≡ not t → breaks (get_or (choices_of c.args.coefficients.now c.args.choices.now) c.loop-i.i no_choice) ≡ t
  tested t e =
      let f = c.has_form.ensures ∙ ap (λ (z : ℤ). not (no_such_form (parts_of z) (get_or c.args.choices.now c.loop-i.i 0))) (to_z-of_z w32 n fits) in
      ap breaks (choice_at no_choice c.args.coefficients.now c.args.choices.now c.loop-i.i c.requires c.loop-i-test.true) ∙ not_swap c.has_form.result (no_such_form (parts_of n) (get_or c.args.choices.now c.loop-i.i 0)) t f e

pub returns-then-not-has_form : goal.returns-then-not-has_form
returns-then-not-has_form c =
    let xs = choices_of c.args.coefficients.now c.args.choices.now in
    let m = length_choices c.args.coefficients.now c.args.choices.now c.requires in
    let b = tested (goal.at-returns-then-not-has_form c).After-has_form true (c.if-not-has_form.true) in
    record {
      first = sym (lowest_here no_choice breaks xs c.loop-i.i (omega (arith, m, c.loop-i-test.true)) b) ∙ c.loop-i.invariant.rest;
      by_index = c.loop-i.invariant.bounds;
    }

pub loop-i-preserved : goal.loop-i-preserved
loop-i-preserved c =
    let xs = choices_of c.args.coefficients.now c.args.choices.now in
    let m = length_choices c.args.coefficients.now c.args.choices.now c.requires in
    let r = (goal.at-loop-i-preserved c).After-has_form in
    let b = tested r false (c.if-not-has_form.false) in
    record {
      rest = sym (lowest_later no_choice breaks xs c.loop-i.i (omega (arith, m, c.loop-i-test.true)) b) ∙ c.loop-i.invariant.rest;
      bounds = below_more _ _ c.loop-i.invariant.bounds (i32_coefficient (n r) (fits r));
    }

pub returns : goal.returns
returns c =
    let xs = choices_of c.args.coefficients.now c.args.choices.now in
    let m = length_choices c.args.coefficients.now c.args.choices.now c.requires in
    record {
      first = sym (lowest_none no_choice breaks xs c.loop-i.i (omega (arith, m, c.loop-i-test.false))) ∙ c.loop-i.invariant.rest;
      by_index = λ i h. c.loop-i.invariant.bounds i (omega (arith, c.loop-i-test.false));
    }
