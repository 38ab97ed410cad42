-- `network_check::coefficients` meets its contract: it answers what the rules do, where the tables fit, and copies what these gave. Assumes nothing.
use mathlib.Core.Path.{◌≡◌, sym, ap, ◌∙◌}
use mathlib.Core.List.{List, ◌++◌}
use Prim.Native.Nat.{ℕ}
use borrow.Author.Tests.{lt-ltb, le-ltb}
use lib.Dec.{ltb}
use lib.IntN.{ℤ}
use lib.ListN.{length, take, drop}
use Rattle.std.proofs.lemmas.Result.{err_from_is_err_and}
use Rattle.refusal.specs.Answer.{Answer, given, filled, turned_down_of}
use Rattle.network.specs.Rows.{network_of}
use Rattle.network.specs.Coefficients.{coefficients}
use Rattle.network.specs.Check.{network_answer, outcome}
use Rattle.network.proofs.Given.{length_coefficients, outcome_given}
use Rattle.network_check.proofs.Padded.{take_padded}
use Rattle.network_check.proofs.Answers.{fit_short, fit_checked, unchanged}
use Rattle.network_check.proofs.coefficients.Goals as goal

pub returns-then-table-network : goal.returns-then-table-network
returns-then-table-network c =
    let net = c.args.network in
    let table = c.args.table.now in
    let m = net.tap_count in
    let e = ap outcome (fit_short (ltb (length table) m) net.rows.now net.row_count net.taps.now m c.in_ok-tables_fit.ensures (lt-ltb (length table) m c.if-table-network.true)) in
    record { answer = e; written = unchanged _ _ _ (coefficients (network_of net.rows.now net.row_count net.taps.now m)) table e }

pub returns-in_err-keeps_rules : goal.returns-in_err-keeps_rules
returns-in_err-keeps_rules c =
    let net = c.args.network in
    let table = c.args.table.now in
    let m = net.tap_count in
    let short = le-ltb (length table) m c.if-table-network.false in
    let e : turned_down_of c.in_err-keeps_rules.field-0.0 ≡ outcome (network_answer (ltb (length table) m) net.rows.now net.row_count net.taps.now m) = c.in_err-keeps_rules.ensures.answer ∙ ap outcome (fit_checked (ltb (length table) m) net.rows.now net.row_count net.taps.now m c.in_ok-tables_fit.ensures short) in
    let p = err_from_is_err_and c.from_residual-in_err-keeps_rules.result c.from_residual-in_err-keeps_rules.ensures.1 in
    rw (p.1, p.2) (record { answer = e; written = unchanged _ _ _ (coefficients (network_of net.rows.now net.row_count net.taps.now m)) table e })

pub returns : goal.returns
returns c =
    let net = c.args.network in
    let table = c.args.table.now in
    let m = net.tap_count in
    let cs = coefficients (network_of net.rows.now net.row_count net.taps.now m) in
    let short = le-ltb (length table) m c.if-table-network.false in
    let e : given tt ≡ outcome (network_answer (ltb (length table) m) net.rows.now net.row_count net.taps.now m) = c.in_ok-keeps_rules.ensures.answer ∙ ap outcome (fit_checked (ltb (length table) m) net.rows.now net.row_count net.taps.now m c.in_ok-tables_fit.ensures short) in
    let given_cs = outcome_given (ltb (length table) m) net.rows.now net.row_count net.taps.now m e in
    let long = length_coefficients net.rows.now net.row_count net.taps.now m in
    record {
      answer = e;
      written =
          c.copy.ensures
          ∙ ap (λ (b : List ℤ). b ++ drop m table) (ap (take m) c.in_ok-keeps_rules.ensures.filled ∙ take_padded cs m long)
          ∙ ap (λ (k : ℕ). cs ++ drop k table) (sym long)
          ∙ sym (ap (λ (r : Answer (List ℤ)). filled r cs table) given_cs);
    }
