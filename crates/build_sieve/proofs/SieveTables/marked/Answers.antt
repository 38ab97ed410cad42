-- `build_sieve::SieveTables::marked` meets its contract. Assumes nothing.
use Prim.Native.Nat.{ℕ, ◌+◌, ◌*◌, ◌≤◌, ◌<◌}
use mathlib.Core.Path.{sym, ◌∙◌}
use native.Mathlib.Omega.{arith}
use borrow.Author.Tests.{leb-false}
use Rattle.build_sieve.specs.Inner.{mark_at}
use Rattle.build_sieve.proofs.MaskDigits.{mask_more, zeros_more}
use Rattle.build_sieve.proofs.SieveTables.marked.Goals as goal

pub loop-i-preserved : goal.loop-i-preserved
loop-i-preserved c =
    let test = c.may_be_below in
    let args = c.args in
    let loop = c.loop-i in
    let some : 1 ≤ loop.i = omega arith in
    let few : loop.i ≤ 8 = omega arith in (
      mask_more loop.mask test.result loop.i some few loop.invariant.0,
      zeros_more (λ (j : ℕ). mark_at args.self.now.marks.now args.cells.now (args.k + j) * args.m < 128) loop.mask test.result loop.i some loop.invariant.1
          (λ e. leb-false 128 _ (sym test.ensures ∙ e)),
    )
