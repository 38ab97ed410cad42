-- `tap_normalise::total` meets its contract. Assumes nothing.
use native.Mathlib.Omega.{arith}
use Rattle.std.proofs.lemmas.Grind.{common_steps}
use mathlib.Core.Path.{◌≡◌, refl, ap, ◌∙◌}
use mathlib.Core.List.{List, [], ◌∷◌}
use lib.Ieee.{Float, binary64, add}
use Rattle.std.specs.List.{fold}
use Rattle.tap.proofs.Value.{zero_is}
use Rattle.tap_normalise.specs.Normalised.{sum_from}
use Rattle.tap_normalise.proofs.total.Goals as goal

added : (t : Float) (xs : List Float) → fold (add binary64) t xs ≡ sum_from t xs
unfolding sum_from
added t [] = refl
added t (x ∷ xs) = added (add binary64 t x) xs

pub returns : goal.returns
returns c =
    let e : c.fold.result ≡ fold (add binary64) _ c.args.taps.now = grind (arith, common_steps) in
    e ∙ added _ c.args.taps.now ∙ ap (λ (t : Float). sum_from t c.args.taps.now) zero_is
