-- `build_tables::build_accepted` meets its contract. What can be built and the odd parts in order say which parts are built, that each can be, and that there
-- are at most as many rows besides row 0 as the weights of all odd parts together, less one for each. Assumes nothing.
use Rattle.std.proofs.Common.{◌≡◌, ℕ, ◌+◌, ◌≤◌, ◌<◌, length, take, arith}
use lib.Seq.{length-take-le}
use Rattle.build_steps.specs.Steps.{built_rows}
use Rattle.build_tables.proofs.Plans.{rows_few, rows_weighed}
use Rattle.build_tables.proofs.build_accepted.Goals.{After-order-count, After-total_weight-weights}
use Rattle.build_tables.proofs.build_accepted.Goals as goal

counted : (c : After-order-count) → length (take c.order-count.result c.order-count.new.parts) ≡ c.order-count.result
counted c =
    let long : length c.order-count.new.parts ≡ 256 = c.order-count.auto.parts in
    length-take-le c.order-count.result c.order-count.new.parts (omega (arith, c.order-count.ensures.few, c.requires.can_build.few, long))

-- row 0, and for each odd part one row less than its weight
weighed : (c : After-total_weight-weights) → length (built_rows c.args.coefficients.now c.args.choices.now) + c.order-count.result ≤ 1 + c.total_weight-weights.result
weighed c =
    let a = c.args in
    omega (arith, c.total_weight-weights.ensures.total, counted (goal.at-After-total_weight-weights c).After-order-count, rows_weighed a.coefficients.now a.choices.now a.rows.now a.taps.now (take c.order-count.result c.order-count.new.parts) c.requires c.order-count.ensures.ordered)

-- no more rows than a table has room for
few : (c : After-total_weight-weights) (k : ℕ) → c.total_weight-weights.result < c.order-count.result + k → length (built_rows c.args.coefficients.now c.args.choices.now) ≤ k
few c k h = omega (arith, weighed c, h)

-- its sieve too
sieved : (c : After-total_weight-weights) (k w b : ℕ) → length (built_rows c.args.coefficients.now c.args.choices.now) ≤ k → k + 7 ≤ w → 2048 ≤ b
    → (length (built_rows c.args.coefficients.now c.args.choices.now) + 7 ≤ w) × (2048 ≤ b)
sieved c k w b h l m = (omega (arith, h, l), m)

all_few : (c : After-total_weight-weights) → length (built_rows c.args.coefficients.now c.args.choices.now) ≤ 3841
all_few c =
    let a = c.args in rows_few a.coefficients.now a.choices.now a.rows.now a.taps.now (take c.order-count.result c.order-count.new.parts) c.requires c.order-count.ensures.ordered

pub within-requires-clause-index : goal.within-requires-clause-index
within-requires-clause-index c = (omega arith, few (goal.at-within-requires-clause-index c).After-total_weight-weights 64 c.if-weights-count.true)

pub within-requires-clause-sieve : goal.within-requires-clause-sieve
within-requires-clause-sieve c =
    let w = (goal.at-within-requires-clause-sieve c).After-total_weight-weights in
    sieved w 64 72 2048 (few w 64 c.if-weights-count.true) (omega arith) (omega arith)

pub within-requires-then-weights-count-2-clause-index : goal.within-requires-then-weights-count-2-clause-index
within-requires-then-weights-count-2-clause-index c =
    (omega arith, few (goal.at-within-requires-then-weights-count-2-clause-index c).After-total_weight-weights 512 c.if-weights-count-2.true)

pub within-requires-then-weights-count-2-clause-sieve : goal.within-requires-then-weights-count-2-clause-sieve
within-requires-then-weights-count-2-clause-sieve c =
    let w = (goal.at-within-requires-then-weights-count-2-clause-sieve c).After-total_weight-weights in
    sieved w 512 520 8192 (few w 512 c.if-weights-count-2.true) (omega arith) (omega arith)

pub within-requires-then-weights-count-3-clause-index : goal.within-requires-then-weights-count-3-clause-index
within-requires-then-weights-count-3-clause-index c =
    (omega arith, few (goal.at-within-requires-then-weights-count-3-clause-index c).After-total_weight-weights 3072 c.if-weights-count-3.true)

pub within-requires-then-weights-count-3-clause-sieve : goal.within-requires-then-weights-count-3-clause-sieve
within-requires-then-weights-count-3-clause-sieve c =
    let w = (goal.at-within-requires-then-weights-count-3-clause-sieve c).After-total_weight-weights in
    sieved w 3072 3080 32768 (few w 3072 c.if-weights-count-3.true) (omega arith) (omega arith)

pub within-requires-2-clause-index : goal.within-requires-2-clause-index
within-requires-2-clause-index c = (omega arith, all_few (goal.at-within-requires-2-clause-index c).After-total_weight-weights)

pub within-requires-2-clause-sieve : goal.within-requires-2-clause-sieve
within-requires-2-clause-sieve c =
    let w = (goal.at-within-requires-2-clause-sieve c).After-total_weight-weights in
    sieved w 3841 3848 32768 (all_few w) (omega arith) (omega arith)
