-- `plane_words::write_cell` meets its contract. Assumes nothing.
use Rattle.std.proofs.Common.{arith}
use Rattle.plane_words.proofs.Adding.{adding_start, Step, machine_fits, taken, adding_on, adding_end}
use Rattle.plane_words.proofs.write_cell.Goals as goal
use Rattle.plane_words.proofs.write_cell.Goals.{After-some_place-p}

-- the place that is taken
step : (c : After-some_place-p) → Step c.args.table.now c.args.c c.args.mask c.loop-rest.rest c.loop-rest.table c.some_place-p.result
step c =
    let place = c.some_place-p.ensures in
    record { few = c.requires.in_bounds.1; long = c.requires.in_bounds.0; so_far = c.loop-rest.invariant; low = place.0; one = place.1 }

pub loop-rest-init : goal.loop-rest-init
loop-rest-init c = adding_start c.args.table.now c.args.c c.args.mask

pub overflow_add-table-in-loop-rest : goal.overflow_add-table-in-loop-rest
overflow_add-table-in-loop-rest c =
    let place = c.some_place-p in
    record { fits = machine_fits (step (goal.at-overflow_add-table-in-loop-rest c).After-some_place-p) (c.requires.by_index place.result place.ensures.0) }

pub overflow_sub-rest : goal.overflow_sub-rest
overflow_sub-rest c = (taken (step (goal.at-overflow_sub-rest c).After-some_place-p)).0

pub loop-rest-smaller : goal.loop-rest-smaller
loop-rest-smaller c = (taken (step (goal.at-loop-rest-smaller c).After-some_place-p)).1

pub loop-rest-preserved : goal.loop-rest-preserved
loop-rest-preserved c = adding_on (step (goal.at-loop-rest-preserved c).After-some_place-p)

pub returns : goal.returns
returns c = adding_end c.args.table.now c.args.c c.args.mask c.loop-rest.rest c.loop-rest.table c.requires.in_bounds.0 c.loop-rest.invariant (omega arith)
