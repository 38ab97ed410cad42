-- `network_check::check` meets its contract: it answers what the rules do, where the tables fit. Assumes nothing.
use mathlib.Core.Path.{refl, ap, ◌∙◌}
use mathlib.Core.Bool.{false}
use Rattle.network.specs.Check.{outcome}
use Rattle.network_check.proofs.Answers.{fit_checked}
use Rattle.network_check.proofs.check.Goals as goal

pub returns : goal.returns
returns c =
    let net = c.args.network in
    record { answer = c.keeps_rules.ensures.answer ∙ ap outcome (fit_checked false net.rows.now net.row_count net.taps.now net.tap_count c.in_ok-tables_fit.ensures refl) }
