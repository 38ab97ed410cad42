-- `network_rules::row_rule::keeps_row_rule` meets its contract: each return is a law of proofs/RowTests.antt. Assumes nothing.
use lib.Dec.{eqb}
use Rattle.network.specs.Rows.{plus}
use Rattle.network.proofs.RowTests.{row_first, row_left, row_right_lem, row_sum}
use native.Mathlib.Omega.{arith}
use mathlib.Core.Bool.{Bool, true, false, ◌&&◌}
use mathlib.Core.Path.{◌≡◌, refl, ◌∙◌}
use Rattle.network_rules.proofs.row_rule.keeps_row_rule.Goals.{then-left-i-via-then-left-i, then-left-i-via-else-left-i+then-right-i}
use Rattle.network_rules.proofs.row_rule.keeps_row_rule.Goals as goal

-- the derived test groups to the right
grouped : (a b c d e : Bool) → (a && (b && (c && (d && e)))) ≡ (a && b && c && d && e)
grouped true true true d e = refl
grouped true true false d e = refl
grouped true false c d e = refl
grouped false b c d e = refl

pub returns-then-i-eq0 : goal.returns-then-i-eq0
returns-then-i-eq0 c =
    λ n l.
    let row = c.read_row-row in
    let r = row.result in
    c.eq.ensures ∙ grouped (eqb r.left 0) (eqb r.right 0) (eqb r.shift 0) (eqb r.sign plus) (eqb r.value 1) ∙ row_first c.args.rows.now n c.args.i l row.result row.ensures c.if-i-eq0.true

pub returns-then-left-i : goal.returns-then-left-i
returns-then-left-i c =
    λ n l.
    let t = c.args.rows.now in
    let i = c.args.i in
    let row = c.read_row-row in
    elim c.then-left-i.branch [
      | then-left-i-via-then-left-i w ↦ row_left t n i l row.result row.ensures c.if-i-eq0.false (omega (arith, w.if-left-i.true))
      | then-left-i-via-else-left-i+then-right-i w ↦ row_right_lem t n i l row.result row.ensures c.if-i-eq0.false (omega (arith, w.if-right-i.true))
    ]

pub returns : goal.returns
returns c =
    λ n l.
    let row = c.read_row-row in
    c.is_sum.ensures
    ∙ row_sum c.args.rows.now n c.args.i l row.result row.ensures c.if-i-eq0.false c.if-left-i.false c.if-right-i.false c.read_value.result c.read_value-2.result c.read_value.ensures c.read_value-2.ensures
