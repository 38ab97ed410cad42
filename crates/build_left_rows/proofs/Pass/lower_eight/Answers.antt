-- `build_left_rows::Pass::lower_eight` meets its contract: a turn that makes v with a right row has their sum or their difference for 2^s·left. Assumes
-- nothing.
use borrow.Author.Tests.{leb-false}
use mathlib.Core.Path.{◌≡◌, sym, ap, subst, ◌∙◌}
use Prim.Native.Nat.{ℕ, ◌+◌, ◌*◌, ◌-◌, ◌/◌, ◌≤◌, ◌<◌}
use native.Mathlib.Nat.{le_trans, mul-le-mul_right}
use native.Mathlib.Omega.{arith}
use lib.Bits.{bit_or}
use lib.ListN.{get_or}
use Rattle.std.proofs.Common.{rules}
use Rattle.build_index.specs.Inner.{value_at}
use Rattle.std.proofs.lemmas.Nat.{le_or_l, le_or_r}
use Rattle.build_left_rows.proofs.Sifted.{Telling, sums_tell, differences_tell, no_turn_told, named_or_told}
use Rattle.build_left_rows.proofs.Turns.{fewer_turns}
use Rattle.build_left_rows.specs.Inner.{NoTurn}
use Rattle.build_left_rows.proofs.Pass.lower_eight.Goals.{Start}
use Rattle.build_left_rows.proofs.Pass.lower_eight.Goals as goal

-- what the cells tell
by_sums : (c : Start) → Telling c.args.self.now.rows.now.table.now c.args.self.now.sieve.now.marks.now c.args.pairs.now.sums c.args.at (c.args.k + 8) c.args.self.now.rows.now.count (λ x. c.args.self.now.v + x)
by_sums c = let pass = c.args.self.now in sums_tell pass.rows.now pass.sieve.now pass.v c.requires.passing.0 c.args.at (c.args.k + 8) c.args.pairs.now c.requires.in_block

by_differences : (c : Start) → Telling c.args.self.now.rows.now.table.now c.args.self.now.sieve.now.marks.now c.args.pairs.now.differences c.args.at (c.args.k + 8) c.args.self.now.rows.now.count (λ x. (c.args.self.now.v - x) + (x - c.args.self.now.v))
by_differences c = let pass = c.args.self.now in differences_tell pass.rows.now pass.sieve.now pass.v c.requires.passing.0 c.args.at (c.args.k + 8) c.args.pairs.now c.requires.in_block

pub joined-sum-requires : goal.joined-sum-requires
joined-sum-requires c = (c.requires.in_block.few, (by_sums c).in_marks)

pub joined-difference-requires : goal.joined-difference-requires
joined-difference-requires c = (c.requires.in_block.few, (by_differences (goal.at-joined-difference-requires c).Start).in_marks)

pub returns-then-not-may_be_below : goal.returns-then-not-may_be_below
returns-then-not-may_be_below c =
    let start = (goal.at-returns-then-not-may_be_below c).Start in
    let args = c.args in
    let pass = args.self.now in
    let table = pass.rows.now.table.now in
    let marks = pass.sieve.now.marks.now in
    let sum = c.joined-sum in
    let difference = c.joined-difference in
    let below = (args.m + 31) / 32 in
    let low : bit_or sum.result difference.result * below < 128 = leb-false 128 _ (sym c.may_be_below.ensures ∙ c.if-not-may_be_below.true) in (
      omega arith,
      λ i l w. record {
        no_sum = no_turn_told table marks args.pairs.now.sums args.at (args.k + 8) pass.rows.now.count (λ x. pass.v + x) (by_sums start) args.m c.requires.passing.1 (args.k + i) (omega arith) w
            (omega (arith, mul-le-mul_right below (le_trans (sum.ensures i l) (le_or_l sum.result difference.result)), low));
        no_difference = no_turn_told table marks args.pairs.now.differences args.at (args.k + 8) pass.rows.now.count (λ x. (pass.v - x) + (x - pass.v)) (by_differences start) args.m c.requires.passing.1 (args.k + i) (omega arith) w
            (omega (arith, mul-le-mul_right below (le_trans (difference.ensures i l) (le_or_r sum.result difference.result)), low));
      },
    )

pub marked-sums-requires : goal.marked-sums-requires
marked-sums-requires c = record {
  cells = (c.requires.in_block.few, (by_sums (goal.at-marked-sums-requires c).Start).in_marks, omega (arith, c.requires.passing.1, c.requires.passing.0.index.few));
  in_one = c.joined-sum.ensures;
}

pub marked-differences-requires : goal.marked-differences-requires
marked-differences-requires c = record {
  cells = (c.requires.in_block.few, (by_differences (goal.at-marked-differences-requires c).Start).in_marks, omega (arith, c.lower_named-low.ensures.0, c.requires.passing.1, c.requires.passing.0.index.few));
  in_one = c.joined-difference.ensures;
}

pub overflow_add-at : goal.overflow_add-at
overflow_add-at c = omega (arith, c.requires.in_block.from, c.requires.in_block.few)

pub overflow_add-at-2 : goal.overflow_add-at-2
overflow_add-at-2 c = omega (arith, c.requires.in_block.from, c.requires.in_block.few)

pub returns : goal.returns
returns c =
    let start = (goal.at-returns c).Start in
    let args = c.args in
    let pass = args.self.now in
    let table = pass.rows.now.table.now in
    let values = pass.sieve.now.values.now in
    let marks = pass.sieve.now.marks.now in
    let n = pass.rows.now.count in
    let sifting = c.requires.passing.0 in
    let low = c.lower_named-low.result in
    let last = c.lower_named.result in
    let less : low ≤ args.m = c.lower_named-low.ensures.0 in (
      omega (arith, less, c.lower_named.ensures.0),
      λ i l w.
          let place : args.at + args.k + i ≡ args.at + (args.k + i) = omega arith in
          let value : get_or values (args.at + args.k + i) 0 ≡ value_at table (args.at + (args.k + i)) = ap (λ (j : ℕ). get_or values j 0) place ∙ sifting.sieve.values_are (args.at + (args.k + i)) w in
          record {
            no_sum = fewer_turns table low last (pass.v + value_at table (args.at + (args.k + i))) c.lower_named.ensures.0
                (named_or_told table marks args.pairs.now.sums args.at (args.k + 8) n (λ x. pass.v + x) (by_sums start) args.m c.requires.passing.1 c.marked-sums.result low (args.k + i) i less (omega arith) w
                (c.marked-sums.ensures.1 i l)
                (λ e.
                let (x, is, none) = c.lower_named-low.ensures.1 i e in
                let q : x ≡ pass.v + get_or values (args.at + args.k + i) 0 = search rules in
                subst (NoTurn table low) (q ∙ ap (λ (r : ℕ). pass.v + r) value) none));
            no_difference =
                named_or_told table marks args.pairs.now.differences args.at (args.k + 8) n (λ x. (pass.v - x) + (x - pass.v)) (by_differences start) low (omega (arith, less, c.requires.passing.1)) c.marked-differences.result last (args.k + i) i c.lower_named.ensures.0 (omega arith) w
                (c.marked-differences.ensures.1 i l)
                (λ e.
                let (x, is, none) = c.lower_named.ensures.1 i e in
                let q : x ≡ (pass.v - get_or values (args.at + args.k + i) 0) + (get_or values (args.at + args.k + i) 0 - pass.v) = search rules in
                subst (NoTurn table last) (q ∙ ap (λ (r : ℕ). (pass.v - r) + (r - pass.v)) value) none);
          },
    )
