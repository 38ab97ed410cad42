-- `build_network::form_choices::has_form` meets its contract. The choice 0 is always there: the canonical form of an odd part, and what a zero tap must have.
-- Any other is below the number of forms or not; a zero tap has none. Assumes nothing.
use mathlib.Core.Path.{◌≡◌, sym, ap, ◌∙◌}
use mathlib.Core.Bool.{not}
use lib.IntN.{ℤ, pos}
use lib.ListN.{length}
use mir.Syntax.{w32}
use mir.ValLaws.{to_z-of_z}
use Rattle.signed_digit.specs.Forms.{listing}
use Rattle.std.specs.Prelude.{Some}
use Rattle.coefficient.specs.Parts.{parts_of, parts_in, sign_if}
use Rattle.build_steps.specs.Answer.{no_such_form}
use Rattle.build_network.proofs.FormNumbers.{split_small, choice_zero, no_odd_part_choice, counted_choice}
use Rattle.build_network.proofs.form_choices.has_form.Goals.{After-reduce}
use Rattle.build_network.proofs.form_choices.has_form.Goals as goal

-- what `reduce` gave
reduced : (c : After-reduce) → parts_in c.reduce.result ≡ parts_of c.args.n
reduced c =
    c.reduce.ensures.split ∙ ap parts_of (to_z-of_z w32 c.args.n c.ranges.n)

pub returns-then-choice-eq0 : goal.returns-then-choice-eq0
returns-then-choice-eq0 c =
    sym (ap not (ap (no_such_form (parts_of c.args.n)) c.if-choice-eq0.true ∙ choice_zero c.args.n c.ranges.n))

pub overflow_cast-reduction : goal.overflow_cast-reduction
overflow_cast-reduction c =
    record { sfits = split_small c.args.n c.ranges.n c.in-Some.reduction (ap parts_in (sym c.in-Some.is) ∙ reduced (goal.at-overflow_cast-reduction c).After-reduce) }

pub returns-in-None : goal.returns-in-None
returns-in-None c =
    sym (ap not (no_odd_part_choice (parts_of c.args.n) c.args.choice (ap parts_in (sym c.in-None.is) ∙ reduced (goal.at-returns-in-None c).After-reduce) c.if-choice-eq0.false))

pub returns-in-Some : goal.returns-in-Some
returns-in-Some c =
    let r = c.in-Some.reduction in
    let split : parts_in (Some r) ≡ parts_of c.args.n = ap parts_in (sym c.in-Some.is) ∙ reduced (goal.at-returns-in-Some c).After-reduce in
    counted_choice (parts_of c.args.n) (sign_if r.negative) r.odd_part r.shift c.args.choice c.form_count.result split
    (c.form_count.ensures.number ∙ ap (λ (z : ℤ). length (listing 32 z)) (to_z-of_z w32 (pos r.odd_part) (record { sfits = split_small c.args.n c.ranges.n r split })))
