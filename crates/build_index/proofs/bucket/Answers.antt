-- `build_index::bucket` meets its contract. Assumes nothing.
use mathlib.Core.Path.{refl}
use Rattle.build_index.specs.Inner.{bucket_of}
use Rattle.build_index.proofs.Chains.{bucket_below}
use Rattle.build_index.proofs.bucket.Goals as goal

pub returns : goal.returns
unfolding bucket_of
returns c = (refl, bucket_below c.args.m c.args.x c.requires)
