-- `coefficient::end_of_nonzero` meets its contract: what the scan from the end found is the last nonzero. Assumes nothing.
use Rattle.std.proofs.Common.{rules, ◌≡◌, ◌+◌, MatchOption}
use Rattle.coefficient.proofs.Ends.{LastFound, end_found}
use Rattle.coefficient.proofs.trim.end_of_nonzero.Goals as goal

pub returns : goal.returns
returns c =
    let w : LastFound c.args.h.now c.rposition.result = search rules in
    let e : MatchOption c.rposition.result (c.map_or.result ≡ 0) (λ i. c.map_or.result ≡ i + 1) = search rules in
    record { past_last = end_found c.args.h.now c.rposition.result c.map_or.result w e }
