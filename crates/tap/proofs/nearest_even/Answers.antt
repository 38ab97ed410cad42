-- `tap::nearest_even` meets its contract: the number that it adds and takes off again is one that rounds (`IsLift`). Assumes nothing.
use mathlib.Core.Path.{refl}
use lib.Dec.{lit≤, lit<}
use lib.Ieee.{of_bits}
use Rattle.tap.proofs.Even.{rounded_by}
use Rattle.tap.proofs.nearest_even.Goals as goal

pub returns : goal.returns
unfolding of_bits
returns c = rounded_by c.args.x _ _ c.requires (record {
  large = lit≤ tt;
  room = lit< tt;
  positive = refl;
  whole = refl;
  even = refl;
}) refl
