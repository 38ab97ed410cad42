-- `network_rules::tap_row_rule::tap_product` meets its contract: each return is a law of proofs/TapTests.antt. Assumes nothing.
use mathlib.Core.Bool.{Bool}
use lib.IntN.{pos}
use Rattle.std.specs.Prelude.{Some}
use Rattle.sequence.proofs.UpTo.{length_up_to, get_d_up_to}
use Rattle.network.specs.declared.Row.{Row}
use Rattle.network.specs.Rows.{row_at, rows_of, row_in, no_row, tap_row_at}
use Rattle.network.specs.RowRule.{lifted}
use Rattle.network.specs.Coefficients.{with_sign}
use Rattle.std.specs.Bool.{then_some}
use Rattle.network_rules.specs.Inner.{product_of}
use Rattle.network_rules.proofs.TapTests.{tap_empty, tap_row, tap_tests}
use Prim.Native.Nat.{◌%◌, ◌<◌}
use mir.Syntax.{w32}
use mir.ValLaws.{to_z-of_z}
use mathlib.Core.Path.{◌≡◌, refl, sym, ap, ◌∙◌}
use native.Mathlib.Omega.{arith}
use Rattle.network_rules.proofs.tap_row_rule.tap_product.Goals.{After-is_product}
use Rattle.network_rules.proofs.tap_row_rule.tap_product.Goals as goal

-- what the test told
told : (c : After-is_product) → then_some c.is_product.result (with_sign c.read_tap_row-tap.result.sign (pos c.lift-p.result))
    ≡ product_of (rows_of c.args.network.rows.now c.args.network.row_count) (tap_row_at c.args.network.taps.now c.args.j)
told c =
    let n = c.args.network.row_count in
    let table = c.args.network.rows.now in
    let rows = rows_of table n in
    let tap = c.read_tap_row-tap.result in
    let h : tap.row < n = c.if-row-network.false in
    let v = c.read_value.ensures ∙ ap (λ (r : Row). r.value) (sym (get_d_up_to n (row_at table) no_row tap.row h)) in
    let e : c.lift-p.result ≡ lifted (tap.shift % 32) (row_in rows tap.row).value = c.lift-p.ensures.0 ∙ ap (lifted (tap.shift % 32)) v in
    ap (λ (b : Bool). then_some b (with_sign tap.sign (pos c.lift-p.result))) c.is_product.ensures.0
    ∙ tap_tests rows tap c.if-tap-eq-NONE.false (omega (arith, h, length_up_to n (row_at table))) c.lift-p.result e
    ∙ ap (product_of rows) c.read_tap_row-tap.ensures

pub returns-then-tap-eq-NONE : goal.returns-then-tap-eq-NONE
returns-then-tap-eq-NONE c =
    let rows = rows_of c.args.network.rows.now c.args.network.row_count in
    let tap = c.read_tap_row-tap in
    c.then_some.ensures ∙ tap_empty rows tap.result c.if-tap-eq-NONE.true _ refl _ refl ∙ ap (product_of rows) tap.ensures

pub returns-then-row-network : goal.returns-then-row-network
returns-then-row-network c =
    let n = c.args.network.row_count in
    let table = c.args.network.rows.now in
    let rows = rows_of table n in
    tap_row rows c.read_tap_row-tap.result c.if-tap-eq-NONE.false (omega (arith, c.if-row-network.true, length_up_to n (row_at table))) ∙ ap (product_of rows) c.read_tap_row-tap.ensures

pub returns-then-is_product : goal.returns-then-is_product
returns-then-is_product c =
    let z = with_sign c.read_tap_row-tap.result.sign (pos c.lift-p.result) in
    ap Some (to_z-of_z w32 c.with_sign.result (record { sfits = c.with_sign.type_inv }) ∙ c.with_sign.ensures)
    ∙ ap (λ (b : Bool). then_some b z) (sym c.if-is_product.true) ∙ told (goal.at-returns-then-is_product c).After-is_product

pub returns-else-is_product : goal.returns-else-is_product
returns-else-is_product c =
    let z = with_sign c.read_tap_row-tap.result.sign (pos c.lift-p.result) in
    ap (λ (b : Bool). then_some b z) (sym c.if-is_product.false) ∙ told (goal.at-returns-else-is_product c).After-is_product
