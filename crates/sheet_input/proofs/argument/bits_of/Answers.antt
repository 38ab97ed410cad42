-- `sheet_input::argument::bits_of` meets its contract: a number above 31 only grows with further digits, so the loop may be left there. Assumes nothing.
use borrow.Author.Tests.{eqb-true, eqb-false}
use mathlib.Core.Path.{◌≡◌, sym, ap, ◌∙◌}
use Prim.Native.Nat.{ℕ, ◌-◌, ◌+◌, ◌*◌}
use native.Mathlib.Omega.{arith}
use lib.ListN.{length, drop, get_or}
use Rattle.std.proofs.lemmas.Result.{err_from_is_err_and}
use Rattle.text.specs.Numbers.{number_from}
use Rattle.refusal.specs.Answer.{given, turned_down_of}
use Rattle.refusal.specs.declared.Refusal.{Refusal}
use Rattle.sheet_input.proofs.Digits.{digits_next, digits_stop, digits_end, number_next, number_end, number_grows, refused_empty, refused_digits, refused_large, given_bits}
use Rattle.sheet_input.proofs.argument.bits_of.Goals as goal

pub returns-then-is_empty : goal.returns-then-is_empty
returns-then-is_empty c = sym (refused_empty c.args.text.now (eqb-true _ 0 (sym c.if-is_empty.ensures)))

pub returns-in_err-f : goal.returns-in_err-f
returns-in_err-f c =
    let loop = c.loop-b in
    let text = c.args.text.now in
    let no-digit = c.in_err-f.ensures in
    let p = err_from_is_err_and c.from_residual.result c.from_residual.ensures.1 in
    rw (p.1, p.2) (ap (λ (r : Refusal). turned_down_of r) no-digit.1
    ∙ sym (refused_digits text (loop.invariant.digits ∙ digits_stop text loop.b-index c.loop-b-test.true no-digit.0)))

pub returns-then-f-gt-MOST : goal.returns-then-f-gt-MOST
returns-then-f-gt-MOST c =
    let loop = c.loop-b in
    let text = c.args.text.now in
    let i = loop.b-index in
    let f = loop.f in
    let n = loop.invariant.number ∙ number_next text i f c.loop-b-test.true in
    sym (refused_large text (omega (arith, n, c.in_ok-f.ensures.1, c.if-f-gt-MOST.true, number_grows (10 * f + (get_or text i 0 - 48)) (drop (i + 1) text))))

pub loop-b-preserved : goal.loop-b-preserved
loop-b-preserved c =
    let loop = c.loop-b in
    let text = c.args.text.now in
    let i = loop.b-index in
    let inside = c.loop-b-test.true in
    let digit = c.in_ok-f.ensures in
    record {
      small = omega arith;
      digits = loop.invariant.digits ∙ digits_next text i inside digit.0;
      number = loop.invariant.number ∙ number_next text i loop.f inside ∙ ap (λ (k : ℕ). number_from (10 * loop.f + k) (drop (i + 1) text)) (sym digit.1);
    }

pub returns : goal.returns
returns c =
    let loop = c.loop-b in
    let text = c.args.text.now in
    let left = c.loop-b-test.false in
    let n = loop.invariant.number ∙ number_end text loop.b-index loop.f left in
    let some : length text ≡ 0 → ⊥ = eqb-false (length text) 0 (sym c.if-is_empty.ensures) in
    sym (given_bits text (omega (arith, some)) (loop.invariant.digits ∙ digits_end text loop.b-index left) (omega (arith, n, loop.invariant.small)) ∙ ap given n)
