-- `text::Writer::put_with` meets its contract. Assumes nothing.
use native.Mathlib.Omega.{arith}
use Rattle.text.proofs.Puts.{then_all}
use Rattle.text.proofs.Writer.put_with.Goals as goal

pub returns : goal.returns
returns c = record {
  put_all = then_all c.put.ensures c.put_decimal.ensures;
  value = omega (arith, c.put.ensures.next, c.put_decimal.ensures.next);
}
