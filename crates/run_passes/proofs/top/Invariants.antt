-- The first k words are registers, raised, with k from the width on; the registers from there on are 0, so their words are 0, raised.
use Rattle.std.proofs.Common.{◌≡◌, ℕ, ◌≤◌, List, length}
use Rattle.run_convolution.specs.Sums.{held}
use Rattle.run_tables.specs.Inner.{Raised}
use Rattle.run_passes.proofs.top.Given as goal

abbrev pub invariant-loop-k : goal.invariant-loop-k
invariant-loop-k l = record {
  size : length l.line.words ≡ 260;
  bias : l.line.bias ≡ l.initial.line.bias;
  raised : (r : List ℕ) → ((i : ℕ) → l.tables.width ≤ i → held r i ≡ 0) → Raised l.tables.width l.tables.offsets.now l.initial.line.bias r l.initial.line.words
      → Raised l.k l.tables.offsets.now l.initial.line.bias r l.line.words;
}
