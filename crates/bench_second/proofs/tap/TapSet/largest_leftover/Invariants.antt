-- `bench_second::tap::TapSet::largest_leftover` meets its contract. The invariant: before the first tap, the largest leftover is +0. Assumes nothing.
use Rattle.std.proofs.Common.{◌≡◌}
use Rattle.bench_second.specs.Inner.{nought}
use Rattle.bench_second.proofs.tap.TapSet.largest_leftover.Given as goal

abbrev pub invariant-loop-tap : goal.invariant-loop-tap
invariant-loop-tap l = l.tap-index ≡ 0 → l.largest ≡ nought
