-- `text::decimal_at` meets its contract. Assumes nothing.
use native.Mathlib.Omega.{arith}
use Rattle.text.proofs.Decimals.{decimal_pair, decimal_pairs, digits_pair, digits_past_four}
use Rattle.text.proofs.Puts.{stored_then, stored_as, stored_length}
use Rattle.text.proofs.+decimal_at.Goals as goal

pub small_at-a-requires : goal.small_at-a-requires
small_at-a-requires t c = (omega (arith, c.if-n-lt10000.true), omega (arith, c.requires, digits_pair c.args.n c.if-n-lt100.false))

pub pair_at-requires : goal.pair_at-requires
pair_at-requires t c = (
  omega arith,
  omega (arith, c.requires, digits_pair c.args.n c.if-n-lt100.false, c.small_at-a.ensures.next, stored_length c.small_at-a.ensures),
)

pub returns-then-n-lt10000 : goal.returns-then-n-lt10000
returns-then-n-lt10000 t c = stored_as (decimal_pair c.args.n c.if-n-lt100.false) (stored_then c.small_at-a.ensures c.pair_at.ensures)

pub decimal_at-a-requires : goal.decimal_at-a-requires
decimal_at-a-requires t c = (
  omega (arith, c.decreases, c.if-n-lt10000.false),
  omega (arith, c.requires, digits_past_four c.args.n c.if-n-lt10000.false),
)

pub pair_at-b-requires : goal.pair_at-b-requires
pair_at-b-requires t c = (
  omega arith,
  omega (arith, c.requires, digits_past_four c.args.n c.if-n-lt10000.false, c.decimal_at-a.ensures.next, stored_length c.decimal_at-a.ensures),
)

pub pair_at-requires-2 : goal.pair_at-requires-2
pair_at-requires-2 t c = (
  omega arith,
  omega (
    arith,
    c.requires,
    digits_past_four c.args.n c.if-n-lt10000.false,
    c.decimal_at-a.ensures.next,
    stored_length c.decimal_at-a.ensures,
    c.pair_at-b.ensures.next,
    stored_length c.pair_at-b.ensures,
  ),
)

pub returns : goal.returns
returns t c =
    stored_as (decimal_pairs c.args.n c.if-n-lt10000.false)
    (stored_then c.decimal_at-a.ensures (stored_then c.pair_at-b.ensures c.pair_at-2.ensures))
