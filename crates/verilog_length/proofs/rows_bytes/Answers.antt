-- `verilog_length::rows_bytes` meets its contract. Assumes nothing.
use native.Mathlib.Omega.{arith}
use Rattle.network.specs.Rows.{row_at}
use Rattle.verilog_text.specs.Text.{row_assign}
use Rattle.verilog_length.specs.Inner.{row_bytes_of}
use Rattle.verilog_length.proofs.Lines.{none_beside, one_beside}
use Rattle.verilog_length.proofs.rows_bytes.Goals as goal

pub loop-i-init : goal.loop-i-init
loop-i-init c = none_beside row_assign (row_at c.args.network.rows.now) row_bytes_of

pub overflow_add-count : goal.overflow_add-count
overflow_add-count c = record { fits = omega (arith, c.loop-i.invariant.within, c.row_bytes-count.ensures.within) }

pub loop-i-preserved : goal.loop-i-preserved
loop-i-preserved c =
    one_beside row_assign (row_at c.args.network.rows.now) row_bytes_of c.loop-i.i _ _ c.loop-i.invariant (rw c.read_row.ensures at c.row_bytes-count.ensures)
