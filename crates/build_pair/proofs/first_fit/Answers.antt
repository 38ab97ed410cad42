-- `build_pair::first_fit` meets its contract. Assumes nothing.
use mathlib.Core.Path.{◌≡◌, sym}
use Prim.Native.Nat.{suc, ◌/◌, ◌^◌, ◌<◌}
use native.Mathlib.Omega.{arith}
use borrow.Author.Count.{below_more}
use Rattle.network.specs.Rows.{rows_of}
use Rattle.build_steps.specs.Search.{none_fits, fit_at_left}
use Rattle.build_pair.proofs.Shifts.{lifted_at, try_next, left_none, left_first, fit_none, fit_first}
use Rattle.build_pair.proofs.Lefts.{sifting, turn_none, left_turns_none}
use Rattle.build_pair.proofs.first_fit.Goals as goal

pub first_turn-turn-requires : goal.first_turn-turn-requires
first_turn-turn-requires c = sifting c.args.rows.now c.args.sieve.now c.args.most c.args.v c.requires.0 c.requires.1

pub loop-i-init : goal.loop-i-init
loop-i-init c =
    let rows = c.args.rows.now in
    let turn = c.first_turn-turn in
    let start = c.max-shift in (
      λ k l. left_turns_none rows.table.now rows.count turn.result c.args.v turn.ensures.1 k (omega arith) (omega arith),
      omega (arith, start.ensures),
      omega (arith, start.ensures),
      λ k l w. turn_none rows.table.now rows.count turn.result c.args.v turn.ensures.1 (turn.result / 32) (suc k) w (omega (arith, start.ensures)) (omega (arith, start.ensures)),
    )

pub loop-a-init : goal.loop-a-init
loop-a-init c =
    let rows = c.args.rows.now in
    let inv = c.loop-i.invariant in
    record {
      from = inv.1;
      to = inv.2;
      is_lifted = lifted_at c.loop-i.shift c.value.result _ (omega (arith, c.value.type_inv)) inv.2 c.value.ensures;
      tried_below = λ k l. inv.3 k l c.loop-i-test.true;
    }

pub loop-a-preserved : goal.loop-a-preserved
loop-a-preserved c =
    let args = c.args in
    let small : c.loop-a.a < 2 ^ 32 = omega (arith, c.requires.0.small, c.requires.0.new_small) in
    try_next args.rows.now args.most args.v c.requires.0 c.loop-i.i c.loop-i-test.true c.loop-a.shift c.loop-a.a c.loop-a.invariant small (sym c.in_default.ensures)

pub loop-i-preserved : goal.loop-i-preserved
loop-i-preserved c =
    let args = c.args in
    let rows = args.rows.now in (
      below_more (λ k. fit_at_left (rows_of rows.table.now rows.count) args.v k ≡ none_fits) c.loop-i.i c.loop-i.invariant.0
          (left_none rows args.most args.v c.requires.0 c.loop-i.i c.loop-i-test.true c.loop-a.shift c.loop-a.a c.loop-a.invariant (omega arith)),
      omega arith,
      omega arith,
      λ k l. absurd (omega arith),
    )

pub returns-in-Some : goal.returns-in-Some
returns-in-Some c =
    let args = c.args in
    let rows = args.rows.now in
    let row = c.in-Some.row in
    let small : c.loop-a.a < 2 ^ 32 = omega (arith, c.requires.0.small, c.requires.0.new_small) in
    sym
    (fit_first rows.table.now rows.count args.v c.loop-i.i c.loop-i.invariant.0 row c.loop-i-test.true
    (left_first rows args.most args.v c.requires.0 c.loop-i.i c.loop-i-test.true c.loop-a.shift c.loop-a.a c.loop-a.invariant small row (sym c.in-Some.ensures)))

pub returns-after-loop-i : goal.returns-after-loop-i
returns-after-loop-i c =
    let rows = c.args.rows.now in
    sym (fit_none rows.table.now rows.count c.args.v c.loop-i.i c.loop-i.invariant.0 (omega arith))
