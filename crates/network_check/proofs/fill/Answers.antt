-- `network_check::fill` meets its contract, by the invariant of its loop. Assumes nothing.
use mathlib.Core.Bool.{not}
use mathlib.Core.List.{List, ◌++◌, map}
use lib.IntN.{ℤ, pos}
use mir.Syntax.{w32}
use mir.Val.{to_z, of_z}
use mir.ValLaws.{to_z-of_z}
use Rattle.std.specs.Prelude.{Some, None}
use Rattle.std.proofs.Common.{below_more}
use Rattle.refusal.specs.Answer.{Answer, given, Place, refuse_at}
use Rattle.sequence.specs.Inner.{front}
use Rattle.sequence.proofs.Front.{front_start, front_next, front_map}
use Rattle.sequence.proofs.UpTo.{length_up_to, get_d_up_to}
use Rattle.network.specs.Rows.{rows_of, tap_rows_of, tap_row_at, no_tap}
use Rattle.network.specs.Coefficients.{coefficient_of}
use Rattle.network.specs.Check.{breaks_tap_row_rule}
use Rattle.network_rules.proofs.TapTests.{product_kept, product_broken}
use Rattle.network_check.proofs.Scans.{found_lowest}
use Prim.Native.Nat.{ℕ, zero-le}
use mathlib.Core.Path.{◌≡◌, sym, ap, ◌∙◌}
use native.Mathlib.Omega.{arith}
use lib.ListN.{drop, set, get_or}
use Rattle.network_check.proofs.fill.Invariants.{at}
use Rattle.network_check.proofs.fill.Goals as goal

-- what it says of the place of the lowest broken tap row
abbrev refused_tap : Place → Answer (Unit {0})
refused_tap p = refuse_at p 11 (given tt)

pub loop-j-init : goal.loop-j-init
loop-j-init c =
    let net = c.args.network in
    record {
      kept = λ k l. absurd (omega arith);
      written = sym (front_start (at net.rows.now net.row_count net.taps.now net.tap_count) c.args.buffer.now);
    }

pub returns-in_default-clause-value : goal.returns-in_default-clause-value
returns-in_default-clause-value c =
    let net = c.args.network in
    let rows = rows_of net.rows.now net.row_count in
    let j = c.loop-j.j in
    let b = product_broken rows (tap_row_at net.taps.now j) (sym c.tap_product.ensures ∙ c.in_default.is) in
    ap refused_tap (found_lowest (tap_row_at net.taps.now) no_tap (breaks_tap_row_rule rows) net.tap_count (Some j) (zero-le, c.loop-j-test.true, λ l. ap not b, λ k l h. c.loop-j.invariant.kept k h))

pub loop-j-preserved : goal.loop-j-preserved
loop-j-preserved c =
    let net = c.args.network in
    let rows = rows_of net.rows.now net.row_count in
    let j = c.loop-j.j in
    let f = coefficient_of rows in
    let row = tap_row_at net.taps.now j in
    let y = c.in-Some.c in
    let places = at net.rows.now net.row_count net.taps.now net.tap_count in
    let k = product_kept rows row _ (sym c.tap_product.ensures ∙ c.in-Some.is) in
    let e : to_z w32 (of_z w32 y) ≡ f row = to_z-of_z w32 y (record { sfits = omega arith }) ∙ k.1 in
    let g : f row ≡ f (get_or (tap_rows_of net.taps.now net.tap_count) j no_tap) = ap f (sym (get_d_up_to net.tap_count (tap_row_at net.taps.now) no_tap j c.loop-j-test.true)) in
    record {
      kept = below_more _ _ c.loop-j.invariant.kept (λ l. ap not k.0);
      written =
          ap (λ (b : List ℤ). set b j (to_z w32 (of_z w32 y))) c.loop-j.invariant.written
          ∙ ap (λ (z : ℤ). set (front places c.args.buffer.now j) j z) (e ∙ g)
          ∙ front_next places c.args.buffer.now j (pos 0) (omega arith);
    }

pub returns : goal.returns
returns c =
    let net = c.args.network in
    let rows = rows_of net.rows.now net.row_count in
    let taps = tap_rows_of net.taps.now net.tap_count in
    let s = length_up_to net.tap_count (tap_row_at net.taps.now) in record {
      value = ap refused_tap (found_lowest (tap_row_at net.taps.now) no_tap (breaks_tap_row_rule rows) net.tap_count None (λ k z h. c.loop-j.invariant.kept k (omega arith)));
      buffer_after =
          c.loop-j.invariant.written ∙ front_map (coefficient_of rows) no_tap taps c.args.buffer.now c.loop-j.j (omega (arith, s)) (omega (arith, s))
          ∙ ap (λ (k : ℕ). map (coefficient_of rows) taps ++ drop k c.args.buffer.now) s;
    }
