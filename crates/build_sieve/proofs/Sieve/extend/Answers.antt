-- `build_sieve::Sieve::extend` meets its contract. Assumes nothing.
use Prim.Native.Nat.{ℕ, ◌+◌, ◌≤◌, ◌<◌}
use mathlib.Core.Path.{◌≡◌, sym, ap, subst, ◌∙◌}
use native.Mathlib.Nat.{le_trans, mul-le-mul_right}
use native.Mathlib.Omega.{arith}
use lib.ListN.{length, get_or, length-set, set}
use Rattle.build_sieve.specs.Inner.{cell_of, shift_for_of, cell_within, SieveOf}
use Rattle.build_sieve.proofs.Sieves.{shift_small, cell_in, sieve_next}
use Rattle.build_sieve.proofs.Sieve.extend.Goals.{After-cell_of-cell}
use Rattle.build_sieve.proofs.Sieve.extend.Goals as goal

-- the place that is marked is the value's cell
in_own : (c : After-cell_of-cell) → c.cell_of-cell.result ≡ cell_within (length c.loop-i.self.marks.now) c.value-value.result
in_own c =
    c.cell_of-cell.ensures ∙ ap (λ (s : ℕ). cell_of s c.value-value.result) (c.shift_for-shift.ensures ∙ ap shift_for_of (sym c.loop-i.invariant.1.marks_long))

-- and one of the marks
in_marks : (c : After-cell_of-cell) → c.cell_of-cell.result < length c.loop-i.self.marks.now
in_marks c =
    let loop = c.loop-i in
    omega (arith, in_own c, cell_in (length loop.self.marks.now) c.value-value.result loop.invariant.0.cells)

pub cell_of-cell-requires : goal.cell_of-cell-requires
cell_of-cell-requires c =
    (omega (arith, c.shift_for-shift.ensures, shift_small (length c.args.self.now.marks.now)), omega (arith, c.value-value.ensures, c.requires.by_index c.loop-i.i c.loop-i-test.true))

pub bounds-self-cell : goal.bounds-self-cell
bounds-self-cell c = in_marks c

pub bounds-self-cell-in-loop-i : goal.bounds-self-cell-in-loop-i
bounds-self-cell-in-loop-i c = in_marks (goal.at-bounds-self-cell-in-loop-i c).After-cell_of-cell

pub loop-i-preserved : goal.loop-i-preserved
loop-i-preserved c =
    let mark = c.mark_of in
    let loop = c.loop-i in
    let value = c.value-value in
    let new = c.max.result in
    let values = loop.self.values.now in
    let marks = loop.self.marks.now in
    let own = in_own (goal.at-loop-i-preserved c).After-cell_of-cell in
    let kept : get_or marks c.cell_of-cell.result 0 ≤ new = omega (arith, c.max.ensures) in
    let high : mark.result ≤ new = omega (arith, c.max.ensures) in (
      subst (λ (k : ℕ). SieveOf c.args.rows.now.table.now (set values loop.i value.result) (set marks k new) (loop.i + 1)) (sym own)
          (sieve_next c.args.rows.now.table.now values marks loop.i value.result new loop.invariant.0 (omega (arith, c.requires.room.1, loop.invariant.1.values_long)) value.ensures
          (subst (λ (k : ℕ). get_or marks k 0 ≤ new) own kept) (le_trans mark.ensures (mul-le-mul_right (loop.i + 1) high))),
      record {
        values = loop.invariant.1.values;
        marks = loop.invariant.1.marks;
        values_long = simp length-set loop.invariant.1.values_long;
        marks_long = simp length-set loop.invariant.1.marks_long;
      },
    )
