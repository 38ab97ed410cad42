-- `network_rules::row_rule::is_sum` meets its contract. Assumes nothing.
use mathlib.Core.Path.{refl}
use Rattle.network_rules.proofs.SumTests.{sum_tests}
use Rattle.network_rules.proofs.row_rule.is_sum.Goals as goal

pub returns : goal.returns
returns c =
    let args = c.args in
    sum_tests args.row args.left args.right c.lift-a.result args.right args.row.value c.is_worked.result
    c.lift-a.ensures.0 refl refl c.is_worked.ensures
