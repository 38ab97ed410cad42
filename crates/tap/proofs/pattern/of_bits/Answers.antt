-- `tap::pattern::of_bits` meets its contract. Assumes nothing.
use Rattle.tap.proofs.Nan.{nan_read, not_nan}
use Rattle.tap.proofs.pattern.of_bits.Goals as goal

pub float_from_bits-result : goal.float_from_bits-result
float_from_bits-result c = not_nan c.args.bits c.if-bits-gt9218868437227405312.false

pub returns-then-bits-gt9218868437227405312 : goal.returns-then-bits-gt9218868437227405312
returns-then-bits-gt9218868437227405312 c = nan_read c.args.bits c.if-bits-gt9218868437227405312.true
