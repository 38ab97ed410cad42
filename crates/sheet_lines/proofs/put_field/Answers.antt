-- `sheet_lines::put_field` meets its contract. Assumes nothing.
use Rattle.text.proofs.Puts.{then}
use Rattle.sheet_lines.proofs.put_field.Goals as goal

pub returns : goal.returns
returns c =
    then c.put_number.ensures c.put_byte.ensures
