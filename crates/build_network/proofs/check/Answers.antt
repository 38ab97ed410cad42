-- `build_network::check` meets its contract: each test of the code is one check of `build_answer`, in the order of document 01's table. Assumes nothing.
use Rattle.std.proofs.Common.{◌≡◌, false, pos, sym, arith}
use Rattle.refusal.proofs.Lowest.{lowest_is}
use Rattle.coefficient.specs.Parts.{parts_of}
use Rattle.build_steps.specs.Answer.{Choice, choices_of, no_such_form}
use Rattle.build_steps.proofs.Answers.{short, not_short, forms_exist, length_choices, no_taps, too_many, too_short, no_form_lem, network_given}
use Rattle.build_network.proofs.Short.{short_choices, short_rows, short_taps}
use Rattle.build_network.proofs.check.Goals.{After-first_without_form, then-choices-n-via-then-choices-n, then-choices-n-via-else-choices-n+then-rows-lt-ROW_TABLE, then-choices-n-via-else-choices-n+else-rows-lt-ROW_TABLE+then-taps-lt-TAP_TABLE}
use Rattle.build_network.proofs.check.Goals as goal

long : (c : After-first_without_form) → short c.args.coefficients.now c.args.choices.now c.args.rows.now c.args.taps.now ≡ false
long c =
    let a = c.args in
    not_short a.coefficients.now a.choices.now a.rows.now a.taps.now (omega (arith, c.if-choices-n.false)) c.if-rows-lt-ROW_TABLE.false c.if-taps-lt-TAP_TABLE.false

pub returns-then-n-eq0 : goal.returns-then-n-eq0
returns-then-n-eq0 c =
    let a = c.args in no_taps a.coefficients.now a.choices.now a.rows.now a.taps.now (omega (arith, c.if-n-eq0.true))

pub returns-then-n-gt256 : goal.returns-then-n-gt256
returns-then-n-gt256 c =
    let a = c.args in too_many a.coefficients.now a.choices.now a.rows.now a.taps.now (omega (arith, c.if-n-gt256.true))

pub returns-then-choices-n : goal.returns-then-choices-n
returns-then-choices-n c =
    let a = c.args in
    too_short a.coefficients.now a.choices.now a.rows.now a.taps.now (omega (arith, c.if-n-eq0.false)) (omega (arith, c.if-n-gt256.false))
    (elim c.then-choices-n.branch [
      | then-choices-n-via-then-choices-n w ↦ short_choices a.coefficients.now a.choices.now a.rows.now a.taps.now (omega (arith, w.if-choices-n.true))
      | then-choices-n-via-else-choices-n+then-rows-lt-ROW_TABLE w ↦ short_rows a.coefficients.now a.choices.now a.rows.now a.taps.now (omega (arith, w.if-rows-lt-ROW_TABLE.true))
      | then-choices-n-via-else-choices-n+else-rows-lt-ROW_TABLE+then-taps-lt-TAP_TABLE w ↦ short_taps a.coefficients.now a.choices.now a.rows.now a.taps.now (omega (arith, w.if-taps-lt-TAP_TABLE.true))
    ])

-- what stands past the last tap
abbrev no_choice : Choice
no_choice = record { tap = parts_of (pos 0); number = 0 }

pub overflow_cast-result : goal.overflow_cast-result
overflow_cast-result c =
    let a = c.args in
    let w = (lowest_is no_choice (λ (x : Choice). no_such_form x.tap x.number) (choices_of a.coefficients.now a.choices.now) c.in-Some.tap (sym c.in-Some.ensures.first)).within in
    record { fits = omega (arith, w, length_choices a.coefficients.now a.choices.now (omega (arith, c.if-choices-n.false)), c.if-n-gt256.false) }

pub returns-in-Some : goal.returns-in-Some
returns-in-Some c =
    let a = c.args in
    no_form_lem a.coefficients.now a.choices.now a.rows.now a.taps.now (omega (arith, c.if-n-eq0.false)) (omega (arith, c.if-n-gt256.false)) c.in-Some.tap (long (goal.at-returns-in-Some c).After-first_without_form) (sym c.in-Some.ensures.first)

pub returns-in-None : goal.returns-in-None
returns-in-None c =
    let a = c.args in
    record {
      answer = network_given a.coefficients.now a.choices.now a.rows.now a.taps.now (omega (arith, c.if-n-eq0.false)) (omega (arith, c.if-n-gt256.false)) (long (goal.at-returns-in-None c).After-first_without_form) (sym c.in-None.ensures.first);
      can_build = record {
        some = omega (arith, c.if-n-eq0.false);
        can_build = record {
          few = omega (arith, c.if-n-gt256.false);
          enough = omega (arith, c.if-choices-n.false);
          bounds = c.in-None.ensures.by_index;
          forms = forms_exist a.coefficients.now a.choices.now (omega (arith, c.if-choices-n.false)) (sym c.in-None.ensures.first);
        };
        rows_long = c.if-rows-lt-ROW_TABLE.false;
        taps_long = c.if-taps-lt-TAP_TABLE.false;
      };
    }
