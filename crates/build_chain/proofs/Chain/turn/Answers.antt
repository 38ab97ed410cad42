-- `build_chain::Chain::turn` meets its contract. Assumes nothing.
use Rattle.std.proofs.Common.{length}
use Rattle.build_chain.specs.Inner.{rows_in, to_come}
use Rattle.build_index.proofs.Room.{less_room}
use Rattle.build_chain.proofs.Turns.{step_room, turned}
use Rattle.build_chain.proofs.Chain.turn.Goals as goal

pub reach-requires-clause-has_room : goal.reach-requires-clause-has_room
reach-requires-clause-has_room c =
    let args = c.args in
    let rows = args.rows.now in
    less_room rows _ (length (to_come args.self (rows_in rows))) (step_room rows args.self c.next_digit-step.result c.requires.reading.0 c.next_digit-step.ensures) c.requires.has_room

pub returns : goal.returns
returns c =
    let args = c.args in
    turned args.rows.now args.self c.next_digit-step.result c.requires.reading.0 c.next_digit-step.ensures c.reach.new.rows c.reach.result c.reach.ensures
