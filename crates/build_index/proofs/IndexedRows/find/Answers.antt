-- `build_index::IndexedRows::find` meets its contract. Assumes nothing.
use mathlib.Core.Path.{◌≡◌, sym, ◌∙◌}
use Prim.Native.Nat.{◌<◌, ◌-◌}
use native.Mathlib.Omega.{arith}
use Rattle.build_index.specs.Inner.{value_at}
use Rattle.build_index.proofs.Values.{found_row, missing_row}
use Rattle.build_index.proofs.IndexedRows.find.Goals as goal

pub returns-then-value-x : goal.returns-then-value-x
returns-then-value-x c =
    let rows = c.args.self.now in
    let k = c.loop-p.p - 1 in
    let e : value_at rows.table.now k ≡ c.args.x = sym c.value.ensures ∙ c.if-value-x.true in
    let h : k < rows.count = omega (arith, c.loop-p.invariant.low) in
    sym (found_row rows.table.now rows.count c.args.x k h e (λ i l q. c.requires.distinct i k l h (q ∙ sym e)))

pub returns : goal.returns
returns c =
    sym (missing_row c.args.self.now.table.now c.args.self.now.count c.args.x (λ i k e. c.loop-p.invariant.none i (omega arith) k e))
