-- `verilog_length::taps_bytes` meets its contract. Assumes nothing.
use native.Mathlib.Omega.{arith}
use Rattle.network.specs.Rows.{tap_row_at}
use Rattle.verilog_text.specs.Text.{tap_assign}
use Rattle.verilog_length.specs.Inner.{tap_bytes_of}
use Rattle.verilog_length.proofs.Lines.{none_beside, one_beside}
use Rattle.verilog_length.proofs.taps_bytes.Goals as goal

pub loop-k-init : goal.loop-k-init
loop-k-init c = none_beside tap_assign (tap_row_at c.args.network.taps.now) tap_bytes_of

pub overflow_add-count : goal.overflow_add-count
overflow_add-count c = record { fits = omega (arith, c.loop-k.invariant.within, c.tap_bytes-count.ensures.within) }

pub loop-k-preserved : goal.loop-k-preserved
loop-k-preserved c =
    one_beside tap_assign (tap_row_at c.args.network.taps.now) tap_bytes_of c.loop-k.k _ _ c.loop-k.invariant (rw c.read_tap_row.ensures at c.tap_bytes-count.ensures)
