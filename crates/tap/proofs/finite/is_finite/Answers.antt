-- `tap::finite::is_finite` meets its contract. Assumes nothing.
use mathlib.Core.Path.{sym, subst}
use lib.Dec.{T}
use Rattle.tap.proofs.Bits.{bits_finite, nan_never}
use Rattle.tap.proofs.finite.is_finite.Goals as goal

pub returns-then-is_nan : goal.returns-then-is_nan
returns-then-is_nan c = nan_never c.args.x _ (sym c.is_nan.ensures.value) c.if-is_nan.true

pub returns : goal.returns
returns c = bits_finite c.args.x (subst T (sym c.well_formed.0.1) tt)
