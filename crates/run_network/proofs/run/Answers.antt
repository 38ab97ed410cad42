-- `run_network::run` meets its contract. Where the network passes, the buffer holds its coefficients and zeros after them, and `feed` runs the samples through these; zeros past the last tap change nothing. Else nothing is written. Assumes nothing.
use mathlib.Core.Path.{◌≡◌, ap, ◌∙◌}
use mathlib.Core.Bool.{Bool, ◌||◌, false}
use mathlib.Core.List.{List}
use borrow.Author.Tests.{ltb-false}
use lib.Dec.{ltb}
use lib.IntN.{ℤ}
use lib.ListN.{length}
use Rattle.std.proofs.lemmas.Result.{err_from_is_err_and}
use Rattle.refusal.specs.Answer.{Answer, given, turned_down_of}
use Rattle.refusal.proofs.Checks.{neither}
use Rattle.network.specs.Rows.{network_of}
use Rattle.network.specs.Coefficients.{coefficients}
use Rattle.network.specs.Check.{outcome}
use Rattle.network.proofs.Given.{outcome_given}
use Rattle.network_check.proofs.Answers.{fit_short, fit_checked}
use Rattle.run_calls.specs.Run.{run_answer}
use Rattle.run_network.proofs.Answers.{moved, written, kept_registers, kept_outputs}
use Rattle.run_network.proofs.run.Goals.{Start}
use Rattle.run_network.proofs.run.Goals as goal

abbrev is_short : Start → Bool
is_short s = ltb (length s.args.registers.now) 256 || ltb (length s.args.outputs.now) (length s.args.samples.now)

abbrev answer : Start → Answer (List ℤ)
answer s =
    let net = s.args.network in
    run_answer net.rows.now net.row_count net.taps.now net.tap_count s.args.samples.now (length s.args.registers.now) (length s.args.outputs.now)

neither_short : (s : Start) → is_short s ≡ false → (ltb (length s.args.registers.now) 256 ≡ false) × (ltb (length s.args.outputs.now) (length s.args.samples.now) ≡ false)
neither_short s = neither (ltb (length s.args.registers.now) 256) (ltb (length s.args.outputs.now) (length s.args.samples.now))

pub returns-then-short : goal.returns-then-short
returns-then-short c =
    let args = c.args in
    let net = args.network in
    let start = (goal.at-returns-then-short c).Start in
    let e = ap outcome (fit_short (is_short start) net.rows.now net.row_count net.taps.now net.tap_count c.in_ok-tables_fit.ensures c.if-short.true) in
    record {
      answer = e;
      registers = kept_registers (answer start) _ _ args.samples.now args.registers.now e;
      outputs = kept_outputs (answer start) _ _ args.samples.now args.registers.now args.outputs.now e;
    }

pub returns-in_err-keeps_rules : goal.returns-in_err-keeps_rules
returns-in_err-keeps_rules c =
    let args = c.args in
    let net = args.network in
    let start = (goal.at-returns-in_err-keeps_rules c).Start in
    let e : turned_down_of c.in_err-keeps_rules.field-0.0 ≡ outcome (answer start) =
    c.in_err-keeps_rules.ensures.answer ∙ ap outcome (fit_checked (is_short start) net.rows.now net.row_count net.taps.now net.tap_count c.in_ok-tables_fit.ensures c.if-short.false) in
    let p = err_from_is_err_and c.from_residual-in_err-keeps_rules.result c.from_residual-in_err-keeps_rules.ensures.1 in
    rw (p.1, p.2) (record {
      answer = e;
      registers = kept_registers (answer start) _ _ args.samples.now args.registers.now e;
      outputs = kept_outputs (answer start) _ _ args.samples.now args.registers.now args.outputs.now e;
    })

pub feed-requires-clause-registers : goal.feed-requires-clause-registers
feed-requires-clause-registers c = ltb-false (length c.args.registers.now) 256 (neither_short (goal.at-feed-requires-clause-registers c).Start c.if-short.false).0

pub feed-requires-clause-outputs : goal.feed-requires-clause-outputs
feed-requires-clause-outputs c =
    ltb-false (length c.args.outputs.now) (length c.args.samples.now) (neither_short (goal.at-feed-requires-clause-outputs c).Start c.if-short.false).1

pub returns : goal.returns
returns c =
    let args = c.args in
    let net = args.network in
    let r = args.registers.now in
    let xs = args.samples.now in
    let start = (goal.at-returns c).Start in
    let cs = coefficients (network_of net.rows.now net.row_count net.taps.now net.tap_count) in
    let e : given tt ≡ outcome (answer start) =
    c.in_ok-keeps_rules.ensures.answer ∙ ap outcome (fit_checked (is_short start) net.rows.now net.row_count net.taps.now net.tap_count c.in_ok-tables_fit.ensures c.if-short.false) in
    let g = outcome_given (is_short start) net.rows.now net.row_count net.taps.now net.tap_count e in
    let h = c.keeps_rules.new.buffer in
    record {
      answer = e;
      registers = c.feed.ensures.registers_after ∙ moved (answer start) cs h g c.in_ok-keeps_rules.ensures.filled r xs;
      outputs = c.feed.ensures.outputs_after ∙ written (answer start) cs h g c.in_ok-keeps_rules.ensures.filled r xs args.outputs.now;
    }
