-- `network_check::first_broken_row` meets its contract: what the search finds is the lowest row that breaks the rule. Assumes nothing.
use Prim.Native.Nat.{ℕ}
use Rattle.std.proofs.Common.{rules}
use Rattle.std.proofs.lemmas.Iterator.{first_from_Range}
use Rattle.network.specs.Rows.{rows_of}
use Rattle.network.specs.Check.{breaks_row_rule}
use Rattle.network_check.proofs.Scans.{Breaks, Keeps, found_lowest, found_within}
use Rattle.network_check.proofs.first_broken_row.Goals as goal

abbrev same : ℕ → ℕ
same k = k

pub returns : goal.returns
returns c =
    let n = c.args.network.row_count in
    let breaks = breaks_row_rule (rows_of c.args.network.rows.now n) in
    let found = first_from_Range _ _ _ c.find.result (Breaks same 0 breaks n) (Keeps same 0 breaks n) c.find.ensures.ran (λ x q e l. search rules) (λ x q e. (search rules, λ l. search rules)) in
    record {
      value = found_lowest same 0 breaks n c.find.result found;
      within = found_within same 0 breaks n c.find.result found;
    }
