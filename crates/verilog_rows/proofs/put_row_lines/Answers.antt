-- `verilog_rows::put_row_lines` meets its contract. Assumes nothing.
use mathlib.Core.Path.{ap}
use Prim.Native.Nat.{ℕ}
use native.Mathlib.Omega.{arith}
use lib.ListN.{length}
use Rattle.network.specs.declared.Row.{Row}
use Rattle.network.specs.Rows.{row_at, rows_of}
use Rattle.text.specs.Lines.{lines_from}
use Rattle.text.proofs.Puts.{put_all, then_all}
use Rattle.text.proofs.Lines.{lines_next, nothing_put, room_next}
use Rattle.verilog_text.specs.Text.{row_assign}
use Rattle.verilog_rows.proofs.put_row_lines.Goals as goal

pub loop-i-init : goal.loop-i-init
loop-i-init c = put_all (nothing_put row_assign (row_at c.args.network.rows.now) c.args.to.now)

pub put_row_line-requires : goal.put_row_line-requires
put_row_line-requires c =
    let rows = c.args.network.rows.now in
    omega (
      arith,
      c.requires.room,
      c.loop-i.invariant.next,
      c.loop-i.invariant.same_length,
      ap (λ (r : Row). length (row_assign c.loop-i.i r)) c.read_row.ensures,
      room_next (λ (j : ℕ). lines_from row_assign 0 (rows_of rows j)) (λ (j : ℕ). row_assign j (row_at rows j)) (lines_next row_assign (row_at rows)) c.loop-i.i c.args.network.row_count (omega arith),
    )

pub loop-i-preserved : goal.loop-i-preserved
loop-i-preserved c =
    rw (lines_next row_assign (row_at c.args.network.rows.now) c.loop-i.i) (then_all c.loop-i.invariant (rw c.read_row.ensures at c.put_row_line.ensures))
