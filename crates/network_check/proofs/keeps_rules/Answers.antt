-- `network_check::keeps_rules` meets its contract: each answer is a law of proofs/Answers.antt. Assumes nothing.
use mathlib.Core.Path.{refl, sym, ap, ◌∙◌}
use borrow.Author.Tests.{eq-eqb, lt-ltb, ne_eqb}
use Rattle.std.proofs.lemmas.Result.{on_ok_weaker}
use Rattle.refusal.specs.Answer.{nowhere, at_place}
use Rattle.network.specs.Rows.{network_of}
use Rattle.network.specs.Coefficients.{coefficients}
use Rattle.network.specs.Check.{outcome}
use Rattle.network.proofs.Given.{length_coefficients}
use Rattle.network_check.proofs.Padded.{padded_is}
use Rattle.network_check.proofs.Answers.{no_rows, by_places, outcome_at}
use Rattle.network_check.proofs.keeps_rules.Goals.{then-network-eq0-via-then-network-eq0, then-network-eq0-via-else-network-eq0+then-network-gt-MOST_ROWS}
use Rattle.network_check.proofs.keeps_rules.Goals as goal

pub returns-then-network-eq0-clause-answer : goal.returns-then-network-eq0-clause-answer
returns-then-network-eq0-clause-answer c =
    let net = c.args.network in
    let n = net.row_count in
    elim c.then-network-eq0.branch [
      | then-network-eq0-via-then-network-eq0 w ↦ ap outcome (no_rows net.rows.now n net.taps.now net.tap_count (rw (eq-eqb n 0 w.if-network-eq0.true)))
      | then-network-eq0-via-else-network-eq0+then-network-gt-MOST_ROWS w ↦ ap outcome (no_rows net.rows.now n net.taps.now net.tap_count (rw (ne_eqb n 0 w.if-network-eq0.false, lt-ltb 4096 n w.if-network-gt-MOST_ROWS.true)))
    ]

pub returns-in-Some-clause-answer : goal.returns-in-Some-clause-answer
returns-in-Some-clause-answer c =
    let net = c.args.network in
    ap outcome (by_places net.rows.now net.row_count net.taps.now net.tap_count c.if-network-eq0.false c.if-network-gt-MOST_ROWS.false (at_place c.in-Some.row) _ c.in-Some.ensures.value refl)

pub returns-clause-answer : goal.returns-clause-answer
returns-clause-answer c =
    let net = c.args.network in
    c.fill.ensures.value ∙ sym (outcome_at _ 11 _) ∙ ap outcome (by_places net.rows.now net.row_count net.taps.now net.tap_count c.if-network-eq0.false c.if-network-gt-MOST_ROWS.false nowhere _ c.in_default.ensures.value refl)

pub returns-clause-filled : goal.returns-clause-filled
returns-clause-filled c =
    let net = c.args.network in
    let cs = coefficients (network_of net.rows.now net.row_count net.taps.now net.tap_count) in
    let padded = padded_is cs c.args.buffer.now net.tap_count (length_coefficients net.rows.now net.row_count net.taps.now net.tap_count) c.requires.zeros in
    on_ok_weaker c.fill.result (λ e. e ∙ padded) c.fill.ensures.buffer_after
