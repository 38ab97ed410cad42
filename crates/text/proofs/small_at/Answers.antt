-- `text::small_at` meets its contract. Assumes nothing.
use mathlib.Core.Path.{refl}
use native.Mathlib.Omega.{arith}
use Rattle.text.proofs.Decimals.{decimal_one, decimal_two, digits_one, digits_two}
use Rattle.text.proofs.Puts.{stored_as}
use Rattle.text.proofs.small_at.Goals as goal

pub bounds-area-at : goal.bounds-area-at
bounds-area-at c =
    omega (arith, c.requires.1, digits_one c.args.n c.if-n-lt10.true)

pub returns-then-n-lt10 : goal.returns-then-n-lt10
returns-then-n-lt10 c =
    stored_as (decimal_one c.args.n c.if-n-lt10.true) (record { next = refl; text = refl })

pub pair_at-requires : goal.pair_at-requires
pair_at-requires c =
    (c.requires.0, omega (arith, c.requires.1, digits_two c.args.n c.if-n-lt10.false c.requires.0))

pub returns : goal.returns
returns c =
    stored_as (decimal_two c.args.n c.if-n-lt10.false c.requires.0) c.pair_at.ensures
