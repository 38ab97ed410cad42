-- `build_rows::take_part` meets its contract: no step changes a row that is there. Assumes nothing.
use Rattle.build_rows.proofs.Sieved.{no_fewer, room_left, sieve_carried, step_bounded}
use Rattle.build_rows.proofs.take_part.Goals as goal

pub add_part-requires : goal.add_part-requires
add_part-requires c = let read = c.read.ensures in rw (read.values, read.marks) c.requires

pub extend-requires : goal.extend-requires
extend-requires c =
    let added = c.add_part.ensures in
    let read = c.read-2.ensures in
    record {
      sieve = rw read.table (sieve_carried c.requires added);
      room = rw (read.table, read.count) (no_fewer c.requires added, room_left c.requires added, added.index.room, added.index.few);
      by_index = rw (read.table, read.count) (step_bounded c.requires added);
    }

pub returns-clause-sieved : goal.returns-clause-sieved
returns-clause-sieved c = let read = c.read-2.ensures in rw (read.table, read.count) at c.extend.ensures.sieve
