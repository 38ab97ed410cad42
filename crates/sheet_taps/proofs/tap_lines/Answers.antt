-- `sheet_taps::tap_lines` meets its contract. Assumes nothing.
use borrow.Author.Rules.{rules}
use native.Mathlib.Omega.{arith}
use lib.IntN.{pos}
use lib.ListN.{get_or}
use mir.Syntax.{w32}
use mir.Val.{SFits}
use mir.ValLaws.{to_z-of_z}
use Rattle.network.specs.Rows.{tap_row_at}
use Rattle.text.proofs.Puts.{then, widen, put_as}
use Rattle.text.proofs.Lines.{lines_next, nothing_put}
use Rattle.sheet_taps.specs.Inner.{tap_line_of}
use Rattle.sheet_taps.proofs.tap_lines.Goals as goal

pub loop-j-init : goal.loop-j-init
loop-j-init c = nothing_put (tap_line_of c.args.coefficients.now) (tap_row_at c.args.tap_rows.now) c.args.to.now

pub loop-j-preserved : goal.loop-j-preserved
loop-j-preserved c =
    let coefficients = c.args.coefficients.now in
    let line = tap_line_of coefficients in
    let tap = tap_row_at c.args.tap_rows.now in
    let fits : SFits w32 (get_or coefficients c.loop-j.j (pos 0)) = search rules in
    put_as (lines_next line tap c.loop-j.j) (widen (omega arith)
    (then c.loop-j.invariant (rw c.read_tap_row.ensures at rw (to_z-of_z w32 _ fits) at c.tap_line.ensures)))
