-- `build_pair::row_signs::Search::with_sign` meets its contract. At most one value makes v on the right (`right_value_of`): 0 and a value above `most` have
-- no row, and `find` tells the row of any other. Assumes nothing.
use mathlib.Core.Path.{◌≡◌, sym, ap, ◌∙◌}
use native.Mathlib.Omega.{arith}
use Rattle.std.proofs.Common.{rules}
use Rattle.refusal.specs.Answer.{at_place, found_at}
use Rattle.network.specs.Rows.{rows_of}
use Rattle.build_steps.specs.Search.{none_fits, row_with}
use Rattle.build_index.proofs.Values.{row_found}
use Rattle.build_pair.specs.Inner.{fit_of}
use Rattle.build_pair.proofs.Signs.{sign_zero, sign_past, sign_found, sign_missing}
use Rattle.build_pair.proofs.row_signs.Search.with_sign.Goals.{In_ok-right, then-x-eq0-via-then-x-eq0, then-x-eq0-via-else-x-eq0+then-x-self}
use Rattle.build_pair.proofs.row_signs.Search.with_sign.Goals as goal

-- the row that was found
found : (c : In_ok-right) → row_with (rows_of c.args.self.now.rows.now.table.now c.args.self.now.rows.now.count) c.right_value-x.result ≡ at_place c.in_ok-right.right
found c = sym c.find.ensures ∙ ap found_at c.in_ok-right.was

pub returns-then-x-eq0 : goal.returns-then-x-eq0
returns-then-x-eq0 c =
    let given = c.args.self.now in
    let x = c.right_value-x in
    elim c.then-x-eq0.branch [
      | then-x-eq0-via-then-x-eq0 w ↦ sign_zero given.rows.now given.most given.v given.searchable c.args.left c.requires.0 c.args.sign c.requires.1 x.result x.ensures (omega arith)
      | then-x-eq0-via-else-x-eq0+then-x-self w ↦ sign_past given.rows.now given.most given.v given.searchable c.args.left c.requires.0 c.args.sign c.requires.1 x.result x.ensures (omega arith)
    ]

pub returns-in_err-right : goal.returns-in_err-right
returns-in_err-right c =
    let given = c.args.self.now in
    let x = c.right_value-x in
    let none : fit_of c.from_residual.result ≡ none_fits = search rules in
    none
    ∙ sign_missing given.rows.now given.most given.v given.searchable c.args.left c.requires.0 c.args.sign c.requires.1 x.result x.ensures (sym c.find.ensures ∙ ap found_at c.in_err-right.was)

pub overflow_cast-result : goal.overflow_cast-result
overflow_cast-result c =
    let rows = c.args.self.now.rows.now in
    omega (arith, (row_found rows.table.now rows.count c.right_value-x.result c.in_ok-right.right (found c)).0, c.args.self.now.searchable.index.few)

pub returns : goal.returns
returns c =
    let given = c.args.self.now in
    let x = c.right_value-x in
    sign_found given.rows.now given.most given.v given.searchable c.args.left c.requires.0 c.args.sign c.requires.1 x.result x.ensures c.in_ok-right.right (found (goal.at-returns c).In_ok-right)
