-- `build_index::Rows::find` meets its contract. Assumes nothing.
use mathlib.Core.Path.{ap, ◌∙◌}
use mathlib.Core.List.{List}
use Rattle.network.specs.declared.Row.{Row}
use Rattle.build_steps.specs.Search.{row_with}
use Rattle.build_index.proofs.Reading.{rows_read, index_read}
use Rattle.build_index.proofs.Rows.find.Goals as goal

pub find-requires : goal.find-requires
find-requires c = index_read c.read.ensures c.requires

pub returns : goal.returns
returns c = c.find.ensures ∙ ap (λ (rows : List Row). row_with rows c.args.x) (rows_read c.read.ensures)
