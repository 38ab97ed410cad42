-- `build_left_rows::first_turn` meets its contract. Assumes nothing.
use Prim.Native.Nat.{ℕ, ◌+◌, ◌*◌, ◌-◌, ◌≤◌, ◌<◌}
use mathlib.Core.Path.{◌≡◌}
use mathlib.Core.Logic.{⊎_elim}
use native.Mathlib.Omega.{arith}
use Rattle.std.proofs.lemmas.Bool.{cases_lt}
use lib.ListN.{length}
use Rattle.build_index.specs.Inner.{value_at}
use Rattle.build_sieve.proofs.Sieves.{shift_small}
use Rattle.build_left_rows.specs.Inner.{NoLeft}
use Rattle.build_left_rows.proofs.Turns.{fewer_lefts, more_places}
use Rattle.build_left_rows.proofs.first_turn.Goals as goal

pub fill-requires-clause-sizes : goal.fill-requires-clause-sizes
fill-requires-clause-sizes c =
    let fit = c.stretch-count.ensures in (
      omega (arith, c.shift_for-shift.ensures, shift_small (length c.args.sieve.now.marks.now)),
      c.requires.new_small,
      fit.0,
      omega (arith, fit.2, c.requires.sieve.room),
    )

pub loop-block-preserved : goal.loop-block-preserved
loop-block-preserved c =
    let rows = c.args.rows.now in
    let loop = c.loop-block in
    let at = 32 * loop.block in
    let count = c.stretch-count in
    let low = c.lower_block-low in
    let NoLeftAt : ℕ → ℕ → Type 0 = λ m i. i < rows.count → NoLeft rows.table.now m c.args.v (value_at rows.table.now i) in (
      omega (arith, low.ensures.0, loop.invariant.0),
      λ k l w.
          ⊎_elim (λ (b : k < at). fewer_lefts low.result low.ensures.0 (loop.invariant.1 k b w))
          (λ (b : at ≤ k).
          let last : k < at + count.result = ⊎_elim (λ (f : rows.count - at ≤ count.result). omega arith) (λ (f : count.result ≡ 32). omega arith) count.ensures.3 in
          more_places (NoLeftAt loop.low) (NoLeftAt low.result) at count.result (λ j h u. fewer_lefts low.result low.ensures.0 (h u)) loop.invariant.1 low.ensures.1 k last w)
          (cases_lt k at),
    )

pub returns : goal.returns
returns c =
    let loop = c.loop-block in
    (loop.invariant.0, λ k l. loop.invariant.1 k (omega arith) l)
