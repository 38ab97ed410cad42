-- `build_network::form_choices::first_without_form` meets its contract. The invariant of its loop: every tap that was passed has its form, so that the lowest tap
-- without one, counted from i on, is the lowest of all. Assumes nothing.
use Rattle.std.proofs.Common.{◌≡◌, Bool, ℕ, ◌<◌, pos, drop, get_or}
use Rattle.word.specs.Bounds.{Coefficient}
use Rattle.refusal.specs.Answer.{lowest_from, lowest}
use Rattle.build_steps.specs.Answer.{Choice, choices_of, no_such_form}
use Rattle.build_network.proofs.form_choices.first_without_form.Given as goal

-- a tap whose choice is not below the number of forms
abbrev pub breaks : Choice → Bool
breaks c = no_such_form c.tap c.number

abbrev pub invariant-loop-i : goal.invariant-loop-i
invariant-loop-i l = record {
  rest : lowest_from l.i breaks (drop l.i (choices_of l.coefficients l.choices)) ≡ lowest breaks (choices_of l.coefficients l.choices);
  bounds : (k : ℕ) → k < l.i → Coefficient (get_or l.coefficients k (pos 0));
}
