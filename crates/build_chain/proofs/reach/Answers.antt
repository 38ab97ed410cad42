-- `build_chain::reach` meets its contract. What `find` says of the value decides: a row that is there is used, and else one is written, in the room that
-- the contract grants for one row more. Assumes nothing.
use Rattle.std.proofs.Common.{◌≡◌, sym, ap, ◌∙◌, arith}
use Rattle.refusal.specs.Answer.{nowhere, found_at}
use Rattle.build_steps.specs.Search.{row_with}
use Rattle.build_index.proofs.Values.{row_found}
use Rattle.build_chain.specs.Inner.{rows_in}
use Rattle.build_chain.proofs.Turns.{found, added_length, written}
use Rattle.build_chain.proofs.reach.Goals as goal

pub overflow_cast-result : goal.overflow_cast-result
overflow_cast-result c =
    let rows = c.args.rows.now in
    record { fits = omega (arith, (row_found rows.table.now rows.count c.args.row.value c.in-Some.i (sym c.find.ensures ∙ ap found_at c.in-Some.is)).0, c.requires.indexed.few) }

pub put-requires-clause-room : goal.put-requires-clause-room
put-requires-clause-room c =
    let r = c.requires.has_room in
    let e = added_length c.args.rows.now c.args.row (sym c.find.ensures ∙ ap found_at c.in-None.is) in
    (omega (arith, e, r.few), omega (arith, e, r.words), omega (arith, e, r.linked))

pub returns-in-Some : goal.returns-in-Some
returns-in-Some c =
    found c.args.rows.now c.args.row c.in-Some.i c.requires.indexed (sym c.find.ensures ∙ ap found_at c.in-Some.is)

pub returns-in-None : goal.returns-in-None
returns-in-None c =
    written c.args.rows.now c.args.row (sym c.find.ensures ∙ ap found_at c.in-None.is) c.put.new.self c.put.ensures.grown c.put.ensures.one_more
