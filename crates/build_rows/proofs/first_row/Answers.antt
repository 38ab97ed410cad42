-- `build_rows::first_row` meets its contract. Assumes nothing.
use Rattle.std.proofs.Common.{◌≡◌, ℕ, ◌++◌, List, [], ◌∷◌, ap, subst}
use Rattle.refusal.specs.Answer.{lowest_from}
use Rattle.sequence.specs.UpTo.{up_to}
use Rattle.network.specs.declared.Row.{Row}
use Rattle.network.specs.Rows.{rows_of, first_row_of}
use Rattle.build_steps.specs.Search.{row_with}
use Rattle.build_index.specs.Inner.{Grown}
use Rattle.build_rows.proofs.Sieved.{first_bounded}
use Rattle.build_rows.proofs.first_row.Goals.{Start, After-put}
use Rattle.build_rows.proofs.first_row.Goals as goal

-- no rows are there
no_rows : (table : List ℕ) (n : ℕ) → n ≡ 0 → rows_of table n ≡ []
unfolding up_to
no_rows table n e = ap (rows_of table) e

empty : (s : Start) → rows_of s.args.rows.now.table.now s.args.rows.now.count ≡ []
empty s = no_rows s.args.rows.now.table.now s.args.rows.now.count s.requires.indexed.0

-- row 0 is there
row_0_put : (c : After-put) → Grown c.args.rows.now c.put.new.self (first_row_of ∷ [])
row_0_put c =
    subst (λ (l : List Row). Grown c.args.rows.now c.put.new.self (l ++ (first_row_of ∷ []))) (empty (goal.at-After-put c).Start) c.put.ensures.grown

pub put-requires-clause-new_value : goal.put-requires-clause-new_value
unfolding row_with lowest_from
put-requires-clause-new_value c = ap (λ (l : List Row). row_with l 1) (empty (goal.at-put-requires-clause-new_value c).Start)

pub extend-requires-clause-by_index : goal.extend-requires-clause-by_index
extend-requires-clause-by_index c =
    let read = c.read.ensures in
    rw (read.table, read.count) (first_bounded c.args.rows.now c.put.new.self (row_0_put (goal.at-extend-requires-clause-by_index c).After-put))

pub returns-clause-sieved : goal.returns-clause-sieved
returns-clause-sieved c = let read = c.read.ensures in rw (read.table, read.count) at c.extend.ensures.sieve

pub returns-clause-grown : goal.returns-clause-grown
returns-clause-grown c = row_0_put (goal.at-returns-clause-grown c).After-put
