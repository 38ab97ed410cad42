-- `verilog_taps::put_tap_lines` meets its contract. Assumes nothing.
use mathlib.Core.Path.{ap}
use Prim.Native.Nat.{ℕ}
use native.Mathlib.Omega.{arith}
use lib.ListN.{length}
use Rattle.network.specs.declared.TapRow.{TapRow}
use Rattle.network.specs.Rows.{tap_row_at, tap_rows_of}
use Rattle.text.specs.Lines.{lines_from}
use Rattle.text.proofs.Puts.{put_all, then_all}
use Rattle.text.proofs.Lines.{lines_next, nothing_put, room_next}
use Rattle.verilog_text.specs.Text.{tap_assign}
use Rattle.verilog_taps.proofs.put_tap_lines.Goals as goal

pub loop-k-init : goal.loop-k-init
loop-k-init c = put_all (nothing_put tap_assign (tap_row_at c.args.network.taps.now) c.args.to.now)

pub put_tap_line-requires : goal.put_tap_line-requires
put_tap_line-requires c =
    let taps = c.args.network.taps.now in
    omega (
      arith,
      c.requires.room,
      c.loop-k.invariant.next,
      c.loop-k.invariant.same_length,
      ap (λ (r : TapRow). length (tap_assign c.loop-k.k r)) c.read_tap_row.ensures,
      room_next (λ (j : ℕ). lines_from tap_assign 0 (tap_rows_of taps j)) (λ (j : ℕ). tap_assign j (tap_row_at taps j)) (lines_next tap_assign (tap_row_at taps)) c.loop-k.k c.args.network.tap_count (omega arith),
    )

pub loop-k-preserved : goal.loop-k-preserved
loop-k-preserved c =
    rw (lines_next tap_assign (tap_row_at c.args.network.taps.now) c.loop-k.k) (then_all c.loop-k.invariant (rw c.read_tap_row.ensures at c.put_tap_line.ensures))
