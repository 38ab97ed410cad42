-- `build_sieve::SieveTables::joined` meets its contract: two marks in one are no less than either. Assumes nothing.
use Prim.Native.Nat.{◌+◌, ◌≤◌}
use native.Mathlib.Nat.{le_trans}
use borrow.Author.Count.{below_more}
use lib.Bits.{bit_or}
use Rattle.std.proofs.lemmas.Nat.{le_or_l, le_or_r}
use Rattle.build_sieve.specs.Inner.{mark_at}
use Rattle.build_sieve.proofs.SieveTables.joined.Goals as goal

pub loop-i-preserved : goal.loop-i-preserved
loop-i-preserved c =
    let args = c.args in
    let loop = c.loop-i in
    let mark = mark_at args.self.now.marks.now args.cells.now (args.k + loop.i) in
    below_more (λ j. mark_at args.self.now.marks.now args.cells.now (args.k + j) ≤ bit_or loop.all mark) loop.i (λ j l. le_trans (loop.invariant j l) (le_or_l loop.all mark))
    (le_or_r loop.all mark)
