-- `tap_set::round_all` meets its contract. Assumes nothing.
use borrow.Author.Rules.{rules}
use mathlib.Core.Path.{◌≡◌, refl, sym, ap, ◌∙◌}
use mathlib.Core.List.{List}
use Prim.Native.Nat.{◌+◌}
use native.Mathlib.Omega.{arith}
use mir.Syntax.{w32}
use mir.Val.{to_z, of_z}
use mir.ValLaws.{to_z-of_z}
use lib.IntN.{ℤ, pos}
use lib.ListN.{drop, set, get_or}
use lib.Ieee.{Float, nan}
use Rattle.refusal.proofs.Checks.{lowest_later}
use Rattle.sequence.proofs.Front.{front_start, front_next, front_map}
use Rattle.tap.specs.Rounding.{result_of, left_of}
use Rattle.tap.specs.Inner.{is_refused}
use Rattle.tap.proofs.Value.{zero_is}
use Rattle.tap_set.specs.declared.Report.{Report}
use Rattle.tap_set.specs.Set.{report_from}
use Rattle.tap_set.specs.Inner.{turned, with_leftover}
use Rattle.tap_set.proofs.Rounds.{whole, RoundedTo, rounded_to, report_next, tried_stop, tried_end}
use Rattle.tap_set.proofs.round_all.Invariants.{at}
use Rattle.tap_set.proofs.round_all.Goals.{in-Exact, in-Rounded}
use Rattle.tap_set.proofs.round_all.Goals as goal

pub loop-i-init : goal.loop-i-init
loop-i-init c =
    let a = c.args in
    record {
      to_come = refl;
      reported = ap (λ (l : Float). report_from a.f (record { divisor = a.divisor; leftover = l }) a.xs.now) zero_is;
      written = sym (front_start (at a.f a.xs.now) a.buffer.now);
    }

pub returns-in-Refused-clause-result_value : goal.returns-in-Refused-clause-result_value
returns-in-Refused-clause-result_value c =
    let a = c.args in
    tried_stop a.f a.divisor a.xs.now c.loop-i.i c.loop-i.invariant.to_come c.loop-i-test.true (ap is_refused (sym c.in-Refused.ensures.answer))

pub loop-i-preserved : goal.loop-i-preserved
loop-i-preserved c =
    let a = c.args in
    let xs = a.xs.now in
    let i = c.loop-i.i in
    let x = get_or xs i nan in
    let r : RoundedTo a.f x (to_z w32 (of_z w32 c.match-round_tap.n.0)) c.match-round_tap.n.1 = elim c.match-round_tap.branch [
      | in-Exact w ↦
          let back : to_z w32 (of_z w32 w.in-Exact.n) ≡ w.in-Exact.n = to_z-of_z w32 w.in-Exact.n (search rules) in
          rw (w.n-is, back, back, zero_is) (rounded_to a.f x _ w.in-Exact.ensures.answer)
      | in-Rounded w ↦
          let back : to_z w32 (of_z w32 w.in-Rounded.n) ≡ w.in-Rounded.n = to_z-of_z w32 w.in-Rounded.n (search rules) in
          rw (w.n-is, back, back) (rounded_to a.f x _ w.in-Rounded.ensures.answer)
    ] in
    let next : c.with-report.result ≡ with_leftover c.loop-i.report (left_of (result_of a.f x)) = c.with-report.ensures ∙ ap (with_leftover c.loop-i.report) r.left in
    record {
      to_come = sym (lowest_later nan (turned a.f) xs i c.loop-i-test.true r.taken) ∙ c.loop-i.invariant.to_come;
      reported = ap (λ (y : Report). report_from a.f y (drop (i + 1) xs)) next ∙ report_next a.f c.loop-i.report xs i c.loop-i-test.true ∙ c.loop-i.invariant.reported;
      written = ap (λ (z : ℤ). set c.loop-i.buffer i z) r.number
          ∙ ap (λ (b : List ℤ). set b i (whole a.f x)) c.loop-i.invariant.written
          ∙ front_next (at a.f xs) a.buffer.now i (pos 0) (omega arith);
    }

pub returns-clause-result_value : goal.returns-clause-result_value
returns-clause-result_value c =
    let a = c.args in tried_end a.f a.divisor a.xs.now c.loop-i.i c.loop-i.report c.loop-i.invariant.to_come c.loop-i.invariant.reported (omega arith)

pub returns-clause-front : goal.returns-clause-front
returns-clause-front c =
    let a = c.args in c.loop-i.invariant.written ∙ front_map (whole a.f) nan a.xs.now a.buffer.now c.loop-i.i (omega arith) (omega arith)
