-- `build_rows::add_rows` meets its contract. The invariant of its loop (`Round`): the rows that are there keep the row rule, none has a value above `most`,
-- the table is untouched past them, and the steps of the odd parts still to come, over these rows, give the rows of all odd parts. It holds once
-- row 0 is there, with which document 01 begins. One turn takes the next odd part off that list: `take_part` does its step, and no row that an odd part
-- brings has a larger value than the part itself, so that `most` stays a bound. There is room for each step, since no step takes a row away and all
-- rows together have room. Assumes nothing.
use Rattle.build_sieve.specs.Inner.{HasSieve, SameSieve}
use Rattle.build_rows.proofs.Rounds.{Round}
use Rattle.build_rows.proofs.add_rows.Given as goal

abbrev pub invariant-loop-part : goal.invariant-loop-part
invariant-loop-part l = record {
  round : Round l.parts l.choices l.fn.rows l.rows l.most l.part-index;
  sieved : HasSieve l.rows l.sieve;
  lent : SameSieve l.fn.sieve l.sieve;
}
