-- `build_pair::row_signs::Search::at_shift` meets its contract. Assumes nothing.
use mathlib.Core.Path.{◌≡◌, refl, sym, ap, ◌∙◌}
use Prim.Native.Nat.{◌+◌}
use native.Mathlib.Omega.{arith}
use lib.ListN.{drop}
use Rattle.network.specs.Rows.{rows_of}
use Rattle.build_steps.specs.Search.{or_else, first_over, tried, fit_at_shift, signs}
use Rattle.build_pair.proofs.FirstOver.{over_drop}
use Rattle.build_pair.proofs.row_signs.Search.at_shift.Goals as goal

pub loop-sign-init : goal.loop-sign-init
unfolding fit_at_shift
loop-sign-init c = refl

pub returns-in-Some : goal.returns-in-Some
unfolding or_else
returns-in-Some c =
    let given = c.args.self.now in
    let try = tried (rows_of given.rows.now.table.now given.rows.now.count) given.v c.args.left.row c.args.left.shift in
    let loop = c.loop-sign in
    sym
    (loop.invariant ∙ over_drop try signs loop.sign-index (omega arith)
    ∙ ap (λ f. or_else f (first_over try (drop (loop.sign-index + 1) signs))) (sym c.in-Some.ensures))

pub loop-sign-preserved : goal.loop-sign-preserved
unfolding or_else
loop-sign-preserved c =
    let given = c.args.self.now in
    let try = tried (rows_of given.rows.now.table.now given.rows.now.count) given.v c.args.left.row c.args.left.shift in
    let loop = c.loop-sign in
    loop.invariant ∙ over_drop try signs loop.sign-index (omega arith)
    ∙ ap (λ f. or_else f (first_over try (drop (loop.sign-index + 1) signs))) (sym c.in_default.ensures)

pub returns : goal.returns
unfolding first_over
returns c =
    let end : c.loop-sign.sign-index ≡ 3 = omega arith in
    sym (c.loop-sign.invariant ∙ ap (λ k. first_over (tried (rows_of c.args.self.now.rows.now.table.now c.args.self.now.rows.now.count) c.args.self.now.v c.args.left.row c.args.left.shift) (drop k signs)) end)
