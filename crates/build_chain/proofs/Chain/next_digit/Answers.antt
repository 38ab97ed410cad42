-- `build_chain::Chain::next_digit` meets its contract. The highest bit of the mask is the place of the next nonzero digit, and the form's plus mask tells its
-- sign. 2^gap·v fits a word, since the value at which the chain ends is below 2^31 and the values of a chain do not fall (`raised_fits`).
-- Assumes nothing.
use Rattle.std.proofs.Common.{suc, ◌*◌, ◌-◌, ◌^◌, ◌≤◌, ◌<◌, rules, arith}
use native.Mathlib.Nat.{mul-one, pow-suc}
use Rattle.build_chain.proofs.NextDigit.{before, raised_fits, is_next}
use Rattle.build_chain.proofs.Chain.next_digit.Goals.{After-ilog2-place}
use Rattle.build_chain.proofs.Chain.next_digit.Goals as goal

small : (c : After-ilog2-place) → c.args.self.now.form.plus < 2 ^ 32
small c = search rules

high : (c : After-ilog2-place) → c.args.self.now.rest < 2 ^ suc c.ilog2-place.result
high c = omega (arith, c.ilog2-place.ensures.next_power_gt, pow-suc 2 c.ilog2-place.result)

below : (c : After-ilog2-place) → c.ilog2-place.result < c.args.self.now.place
below c =
    before c.args.self.now c.requires.0 (small c) c.ilog2-place.result c.ilog2-place.ensures.power_le (high c)

fits : (c : After-ilog2-place)
    → (2 ≤ 2 ^ (c.args.self.now.place - c.ilog2-place.result) * c.args.self.now.value)
    × (2 ^ (c.args.self.now.place - c.ilog2-place.result) * c.args.self.now.value ≤ 2 ^ 31)
fits c =
    raised_fits c.args.self.now c.requires.0 (small c) c.ilog2-place.result c.ilog2-place.ensures.power_le (high c)

pub overflow_sub-gap : goal.overflow_sub-gap
overflow_sub-gap c = omega (arith, below (goal.at-overflow_sub-gap c).After-ilog2-place)

pub lifted-raised-requires : goal.lifted-raised-requires
lifted-raised-requires c =
    (omega (arith, c.requires.0.place_to), omega (arith, (fits (goal.at-lifted-raised-requires c).After-ilog2-place).1))

pub overflow_add-raised : goal.overflow_add-raised
overflow_add-raised c =
    record { fits = omega (arith, c.lifted-raised.ensures, (fits (goal.at-overflow_add-raised c).After-ilog2-place).1) }

pub returns : goal.returns
returns c =
    let args = c.args in
    rw (c.choose.ensures, c.choose-2.ensures, c.lifted-raised.ensures, c.lifted.ensures, mul-one (2 ^ c.ilog2-place.result))
    (is_next args.self.now c.requires.0 (small (goal.at-returns c).After-ilog2-place) c.ilog2-place.result c.ilog2-place.ensures.power_le (high (goal.at-returns c).After-ilog2-place))
