-- `tap_normalise::first_not_finite` meets its contract. Assumes nothing.
use borrow.Author.Rules.{rules}
use borrow.Author.Tests.{tests}
use mathlib.Core.Path.{ap, ◌∙◌}
use mathlib.Core.Bool.{Bool}
use lib.Ieee.{Float}
use Rattle.std.specs.Prelude.{not}
use Rattle.std.proofs.lemmas.Iterator.{YieldsList-from_slice}
use Rattle.std.proofs.lemmas.Iterator.Search.{position_from_yields_List}
use Rattle.refusal.specs.Answer.{found_at}
use Rattle.refusal.proofs.Lowest.{found_position}
use Rattle.tap.specs.Rounding.{finite}
use Rattle.tap_normalise.proofs.first_not_finite.Goals as goal

breaks : Float → Bool
breaks x = not (finite x)

pub returns : goal.returns
unfolding breaks
returns c =
    let xs = c.args.xs.now in
    ap found_at (position_from_yields_List breaks _ _ c.position.result c.position.ensures.ran (YieldsList-from_slice xs cc) (λ x b q k. search (rules, tests))) ∙ found_position breaks xs
