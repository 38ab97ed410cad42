-- `verilog_writer::write_verilog` meets its contract, by the answer of the check. Assumes nothing.
use mathlib.Core.Bool.{false}
use native.Mathlib.Omega.{arith}
use Rattle.sequence.proofs.UpTo.{length_up_to}
use Rattle.network.specs.Rows.{row_at}
use Rattle.network.proofs.Passed.{given_accepted}
use Rattle.network.proofs.Given.{outcome_given}
use Rattle.verilog_writer.proofs.write_verilog.Goals as goal

pub write_checked-requires : goal.write_checked-requires
write_checked-requires c =
    let net = c.args.network in
    let w = given_accepted false net.rows.now net.row_count net.taps.now net.tap_count _ (outcome_given false net.rows.now net.row_count net.taps.now net.tap_count c.in_ok-check.ensures.answer) in
    record {
      rows_long = w.rows_long;
      rows_to = omega (arith, w.passed.rows_to, length_up_to net.row_count (row_at net.rows.now));
      taps_long = w.taps_long;
      taps_to = w.taps_to;
    }
