-- `sheet_taps::tap_line` meets its contract. Assumes nothing.
use mir.Syntax.{w32}
use mir.ValLaws.{to_z-of_z}
use Rattle.text.proofs.Puts.{put_as}
use Rattle.sheet_lines.proofs.Lines.{tap_none, tap_some}
use Rattle.sheet_taps.proofs.tap_line.Goals as goal

pub returns-then-tap-eq-NONE : goal.returns-then-tap-eq-NONE
returns-then-tap-eq-NONE c =
    let args = c.args in
    put_as (tap_none args.i args.tap args.value c.if-tap-eq-NONE.true) c.empty_tap_line.ensures

pub returns-else-tap-eq-NONE : goal.returns-else-tap-eq-NONE
returns-else-tap-eq-NONE c =
    let args = c.args in
    put_as (tap_some args.i args.tap args.value c.if-tap-eq-NONE.false) (rw (to_z-of_z w32 args.value c.ranges.value) at c.product_line.ensures)
