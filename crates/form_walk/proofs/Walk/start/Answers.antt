-- `form_walk::Walk::start` meets its contract. Assumes nothing.
use Rattle.form_walk.proofs.Parts.{start_is}
use Rattle.form_walk.proofs.Walk.start.Goals as goal

pub returns : goal.returns
returns c = start_is c.args.form c.taken.result c.taken.ensures
