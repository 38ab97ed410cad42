-- `build_sieve::Sieve::extend` meets its contract. The invariant of its loop: the rows below i are in the sieve. Assumes nothing.
use Rattle.build_sieve.specs.Inner.{SieveOf, SameSieve}
use Rattle.build_sieve.proofs.Sieve.extend.Given as goal

abbrev pub invariant-loop-i : goal.invariant-loop-i
invariant-loop-i l = SieveOf l.rows.table.now l.self.values.now l.self.marks.now l.i × SameSieve l.initial.self l.self
