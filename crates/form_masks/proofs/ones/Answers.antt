-- `form_masks::ones` meets its contract: what the operation means is the number of ones. Assumes nothing.
use mathlib.Core.Path.{refl}
use Rattle.form_masks.proofs.ones.Goals as goal

pub returns : goal.returns
returns c = refl
