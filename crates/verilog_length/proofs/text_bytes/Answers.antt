-- `verilog_length::text_bytes` meets its contract: the parts of the text, added up (`text_length`). Assumes nothing.
use mathlib.Core.Path.{ap}
use native.Mathlib.Omega.{arith}
use Rattle.sequence.proofs.UpTo.{length_up_to}
use Rattle.network.specs.Rows.{row_at, tap_row_at, network_of}
use Rattle.verilog_text.proofs.Lengths.{digits_from, text_length}
use Rattle.verilog_length.proofs.text_bytes.Goals as goal

pub returns : goal.returns
returns c =
    let net = c.args.network in
    let n = length_up_to net.row_count (row_at net.rows.now) in
    let m = length_up_to net.tap_count (tap_row_at net.taps.now) in
    omega (
      arith,
      text_length (network_of net.rows.now net.row_count net.taps.now net.tap_count),
      n,
      m,
      ap (digits_from 0) n,
      ap (digits_from 0) m,
      c.digits_below.ensures.0,
      c.digits_below-2.ensures.0,
      c.rows_bytes.ensures.bytes,
      c.taps_bytes.ensures.bytes,
    )
