-- `network_check::tables_fit` meets its contract: each answer is a law of proofs/Answers.antt. Assumes nothing.
use mathlib.Core.Path.{ap}
use Rattle.network.specs.Check.{outcome}
use Rattle.network_check.proofs.Answers.{no_taps, many_taps, short_rows, short_taps}
use Rattle.network_check.proofs.tables_fit.Goals.{then-network-lt-ROW_TABLE-via-then-network-lt-ROW_TABLE, then-network-lt-ROW_TABLE-via-else-network-lt-ROW_TABLE+then-network-lt-TAP_TABLE}
use Rattle.network_check.proofs.tables_fit.Goals as goal

pub returns-then-network-eq0 : goal.returns-then-network-eq0
returns-then-network-eq0 c = λ short. let net = c.args.network in ap outcome (no_taps short net.rows.now net.row_count net.taps.now net.tap_count c.if-network-eq0.true)

pub returns-then-network-gt256 : goal.returns-then-network-gt256
returns-then-network-gt256 c =
    λ short. let net = c.args.network in ap outcome (many_taps short net.rows.now net.row_count net.taps.now net.tap_count c.if-network-eq0.false c.if-network-gt256.true)

pub returns-then-network-lt-ROW_TABLE : goal.returns-then-network-lt-ROW_TABLE
returns-then-network-lt-ROW_TABLE c =
    λ short.
    let net = c.args.network in
    let some = c.if-network-eq0.false in
    let few = c.if-network-gt256.false in
    elim c.then-network-lt-ROW_TABLE.branch [
      | then-network-lt-ROW_TABLE-via-then-network-lt-ROW_TABLE w ↦ ap outcome (short_rows short net.rows.now net.row_count net.taps.now net.tap_count some few w.if-network-lt-ROW_TABLE.true)
      | then-network-lt-ROW_TABLE-via-else-network-lt-ROW_TABLE+then-network-lt-TAP_TABLE w ↦ ap outcome (short_taps short net.rows.now net.row_count net.taps.now net.tap_count some few w.if-network-lt-TAP_TABLE.true)
    ]
