-- `plane_words::some_place` meets its contract. Assumes nothing.
use Rattle.plane_words.proofs.Places.{trailing}
use Rattle.plane_words.proofs.some_place.Goals as goal

pub returns : goal.returns
returns c = trailing 32 c.args.x c.requires c.ranges.x.fits
