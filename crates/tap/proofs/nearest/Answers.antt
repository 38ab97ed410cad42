-- `tap::nearest` meets its contract: the number that `nearest_even` gives is a coefficient, so that the cast loses nothing. Assumes nothing.
use mathlib.Core.Path.{sym, ap, ◌∙◌, subst}
use lib.Dec.{T}
use lib.IntN.{ℤ}
use lib.Ieee.{Float, binary64, in_signed, to_signed}
use mir.Syntax.{w32}
use mir.Val.{to_z, of_z}
use mir.ValLaws.{to_z-of_z}
use Rattle.tap.specs.Inner.{nearest_of}
use Rattle.tap.proofs.Even.{rounds_i32, counted}
use Rattle.tap.proofs.nearest.Goals as goal

pub float_to_int-result : goal.float_to_int-result
float_to_int-result c =
    subst (λ (y : Float). T (in_signed binary64 31 y)) (sym c.nearest_even.ensures) (counted c.args.x c.requires).0

pub returns : goal.returns
returns c =
    let x = c.args.x in
    ap (λ (z : ℤ). to_z w32 (of_z w32 z)) (ap (to_signed 31) c.nearest_even.ensures ∙ (counted x c.requires).1) ∙ to_z-of_z w32 (nearest_of x) (rounds_i32 x c.requires)
