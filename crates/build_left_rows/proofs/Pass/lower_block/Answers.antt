-- `build_left_rows::Pass::lower_block` meets its contract. Assumes nothing.
use Prim.Native.Nat.{ℕ, ◌+◌, ◌*◌, ◌<◌}
use native.Mathlib.Omega.{arith}
use Rattle.build_index.specs.Inner.{value_at}
use Rattle.build_left_rows.specs.Inner.{NoLeft}
use Rattle.build_left_rows.proofs.Turns.{fewer_lefts, more_places}
use Rattle.build_left_rows.proofs.Pass.lower_block.Goals as goal

pub loop-eight-preserved : goal.loop-eight-preserved
loop-eight-preserved c =
    let args = c.args in
    let table = args.self.now.rows.now.table.now in
    let loop = c.loop-eight in
    let low = c.lower_eight-low in
    let NoLeftAt : ℕ → ℕ → Type 0 = λ m i. args.at + i < args.self.now.rows.now.count → NoLeft table m args.self.now.v (value_at table (args.at + i)) in (
      omega (arith, low.ensures.0, loop.invariant.0),
      λ i l.
          more_places (NoLeftAt loop.low) (NoLeftAt low.result) (8 * loop.eight) 8 (λ j h w. fewer_lefts low.result low.ensures.0 (h w)) loop.invariant.1 low.ensures.1 i (omega arith),
    )

pub returns : goal.returns
returns c =
    let loop = c.loop-eight in
    (loop.invariant.0, λ i l w. loop.invariant.1 i (omega (arith, c.requires.in_block.1)) w)
