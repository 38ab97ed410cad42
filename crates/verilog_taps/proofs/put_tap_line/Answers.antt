-- `verilog_taps::put_tap_line` meets its contract, by the sign of the tap. Assumes nothing.
use borrow.Author.Rules.{rules}
use borrow.Author.Tests.{ne_eqb}
use mathlib.Core.Path.{◌≡◌}
use Rattle.network.specs.Rows.{plus, minus}
use Rattle.text.proofs.Puts.{then_all}
use Rattle.verilog_taps.proofs.put_tap_line.Goals as goal

pub returns-in_default : goal.returns-in_default
returns-in_default c =
    let tap = c.args.tap in
    let p : tap.sign ≡ plus → ⊥ = search rules in
    let q : tap.sign ≡ minus → ⊥ = search rules in
    rw (ne_eqb tap.sign plus p, ne_eqb tap.sign minus q) (then_all c.put_with.ensures.put_all c.put.ensures)
