-- `coefficient::reduce` meets its contract. Assumes nothing.
use Rattle.word.proofs.Zero.{zero_word}
use Rattle.coefficient.specs.Parts.{parts_of}
use Rattle.coefficient.proofs.reduce.Goals as goal

pub returns-then-n-eq0 : goal.returns-then-n-eq0
unfolding parts_of
returns-then-n-eq0 c = record { split = rw (zero_word c.args.n c.ranges.n c.if-n-eq0.true) }
