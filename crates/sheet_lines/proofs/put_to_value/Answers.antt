-- `sheet_lines::put_to_value` meets its contract. Assumes nothing.
use Rattle.text.proofs.Puts.{then}
use Rattle.sheet_lines.proofs.put_to_value.Goals as goal

pub returns : goal.returns
returns c =
    then c.put_number.ensures c.put.ensures
