-- The first k words are the first k registers, raised.
use Rattle.std.proofs.Common.{◌≡◌, ℕ, ◌<◌, ◌+◌, get_or, length}
use Rattle.run_products.specs.Inner.{raised_by}
use Rattle.run_moves.proofs.raise.Given as goal

abbrev pub invariant-loop-k : goal.invariant-loop-k
invariant-loop-k l = record {
  size : length l.line.words ≡ 260;
  bias : l.line.bias ≡ l.initial.line.bias;
  raised : (i : ℕ) → i < l.k → get_or l.line.words i 0 ≡ raised_by (get_or l.tables.offsets.now (i + 5) 0) l.line.bias (get_or l.registers i 0);
}
