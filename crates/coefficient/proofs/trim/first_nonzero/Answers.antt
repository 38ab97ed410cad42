-- `coefficient::first_nonzero` meets its contract: what the scan found is the first nonzero. Assumes nothing.
use Rattle.std.proofs.Common.{rules, ◌∙◌}
use Rattle.coefficient.proofs.Ends.{FirstFound, start_found}
use Rattle.coefficient.proofs.trim.first_nonzero.Goals as goal

pub returns : goal.returns
returns c =
    let w : FirstFound c.args.h.now c.position.result = search rules in
    record { first = c.unwrap_or.ensures ∙ start_found c.args.h.now c.position.result w }
