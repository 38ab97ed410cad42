-- `build_rows::add_rows` meets its contract. Its invariant says how. Assumes nothing.
use Rattle.std.proofs.Common.{arith, ◌∙◌}
use Rattle.build_index.proofs.Room.{less_room, same_room}
use Rattle.build_rows.proofs.Rounds.{round_start, round_end, round_next, some_rows, ready}
use Rattle.build_rows.proofs.add_rows.Goals as goal

pub first_row-requires : goal.first_row-requires
first_row-requires c =
    let a = c.args in
    let some = some_rows a.parts.now a.choices.now in record {
      indexed = (c.requires.none, c.requires.index, less_room a.rows.now 1 _ some c.requires.room);
      sieve = (c.requires.sieve, omega (arith, some, c.requires.sieve_room));
    }

pub loop-part-init : goal.loop-part-init
loop-part-init c =
    let a = c.args in
    let f = c.first_row in
    record { round = round_start a.parts.now a.choices.now a.rows.now f.new.rows f.ensures.grown; sieved = f.ensures.sieved; lent = f.ensures.lent }

pub take_part-requires : goal.take_part-requires
take_part-requires c =
    let loop = c.loop-part in
    let a = c.args in
    let r = same_room a.rows.now loop.rows _ loop.invariant.round.grown.lent.table_long loop.invariant.round.grown.lent.links_long c.requires.room in
    ready a.parts.now a.choices.now a.rows.now loop.rows loop.most loop.part-index _ c.loop-part-test.true loop.invariant.round (c.requires.parts loop.part-index _ c.loop-part-test.true) loop.sieve r loop.invariant.sieved (omega (arith, c.requires.sieve_room, loop.invariant.lent.values_long))

pub loop-part-preserved : goal.loop-part-preserved
loop-part-preserved c =
    let loop = c.loop-part in
    let a = c.args in
    let taken = c.take_part.ensures in
    let lent = loop.invariant.lent in
    record {
      round = round_next a.parts.now a.choices.now a.rows.now loop.rows loop.most loop.part-index _ c.loop-part-test.true loop.invariant.round (c.requires.parts loop.part-index _ c.loop-part-test.true) c.take_part.new.rows c.max-most.result c.max-most.ensures taken.grown;
      sieved = taken.sieved;
      lent = record {
        values = taken.lent.values ∙ lent.values;
        marks = taken.lent.marks ∙ lent.marks;
        values_long = taken.lent.values_long ∙ lent.values_long;
        marks_long = taken.lent.marks_long ∙ lent.marks_long;
      };
    }

pub returns : goal.returns
returns c =
    let loop = c.loop-part in
    let a = c.args in
    record {
      grown = round_end a.parts.now a.choices.now a.rows.now loop.rows loop.most loop.part-index c.loop-part-test.false loop.invariant.round;
      lent = loop.invariant.lent;
    }
