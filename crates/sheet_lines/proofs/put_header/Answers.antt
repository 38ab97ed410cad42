-- `sheet_lines::put_header` meets its contract. Assumes nothing.
use Rattle.sheet_lines.specs.Lines.{line, columns, header}
use Rattle.sheet_lines.proofs.put_header.Goals as goal

pub returns : goal.returns
unfolding line columns header
returns c =
    c.put.ensures
