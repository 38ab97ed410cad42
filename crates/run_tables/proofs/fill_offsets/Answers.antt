-- `run_tables::fill_offsets` meets its contract. Assumes nothing.
use Rattle.run_tables.proofs.Backward.{from_end}
use Rattle.run_tables.proofs.fill_offsets.Goals as goal

pub loop-j-init : goal.loop-j-init
loop-j-init c = from_end _ _ _ c.requires.zeros c.requires.zero_from
