-- `plane_cells::writing::clear_words` meets its contract. Assumes nothing.
use Rattle.std.proofs.Common.{◌++◌, drop, ap}
use Rattle.plane_cells.proofs.writing.clear_words.Goals as goal

pub returns : goal.returns
returns c = ap (λ words. words ++ drop 128 c.args.table.now) c.clear.ensures
