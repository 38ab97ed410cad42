-- `tap::part` meets its contract. The machine writes n as bits and reads it back. Assumes nothing.
use mathlib.Core.Path.{◌≡◌, sym, ap, ◌∙◌, subst}
use mathlib.Core.Bool.{true, false}
use lib.IntN.{ℤ}
use lib.Ieee.{binary64, eq, sub, of_int}
use mir.Syntax.{w32}
use mir.Val.{to_z, of_z}
use mir.ValLaws.{to_z-of_z}
use Rattle.refusal.specs.Answer.{given}
use Rattle.tap.specs.Rounding.{exact, rounded}
use Rattle.tap.specs.Inner.{parted}
use Rattle.tap.proofs.Steps.{parted_yes, parted_no}
use Rattle.tap.proofs.part.Goals.{Start}
use Rattle.tap.proofs.part.Goals as goal

back : (c : Start) → to_z w32 (of_z w32 c.args.n) ≡ c.args.n
back c = to_z-of_z w32 c.args.n c.ranges.n

pub returns-then-x-y : goal.returns-then-x-y
returns-then-x-y c =
    let x = c.args.x in
    let n = c.args.n in
    let b = back (goal.at-returns-then-x-y c).Start in
    ap (λ (z : ℤ). given (exact z)) b ∙ ap given (parted_yes x n (subst (λ (y : ℤ). eq x (of_int binary64 y) ≡ true) b c.if-x-y.true))

pub returns-else-x-y : goal.returns-else-x-y
returns-else-x-y c =
    let x = c.args.x in
    let n = c.args.n in
    let b = back (goal.at-returns-else-x-y c).Start in
    subst (λ (y : ℤ). given (rounded y (sub binary64 x (of_int binary64 y))) ≡ given (parted x n)) (sym b)
    (ap given (parted_no x n (subst (λ (y : ℤ). eq x (of_int binary64 y) ≡ false) b c.if-x-y.false)))
