-- `text::Writer::put_number` meets its contract. Assumes nothing.
use native.Mathlib.Omega.{arith}
use lib.Dec.{lit≤}
use Rattle.text.specs.Inner.{number_bytes}
use Rattle.text.proofs.Decimals.{decimal_le}
use Rattle.text.proofs.Puts.{widen}
use Rattle.text.proofs.Writer.put_number.Goals as goal

pub put_decimal-requires : goal.put_decimal-requires
put_decimal-requires c =
    omega (arith, c.requires, decimal_le number_bytes c.args.n (lit≤ tt) (omega (arith, c.ranges.n)))

pub returns : goal.returns
returns c =
    widen (decimal_le number_bytes c.args.n (lit≤ tt) (omega (arith, c.ranges.n))) c.put_decimal.ensures
