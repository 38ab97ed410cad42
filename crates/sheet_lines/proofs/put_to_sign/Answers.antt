-- `sheet_lines::put_to_sign` meets its contract. Assumes nothing.
use Rattle.text.specs.Numbers.{decimal}
use Rattle.sheet_lines.proofs.Lines.{comma}
use Rattle.sheet_lines.proofs.put_to_sign.Goals as goal

pub returns : goal.returns
returns c =
    let args = c.args in
    comma (decimal args.number) c.put_field.ensures
    (comma (decimal args.left) c.put_field-2.ensures
    (comma (decimal args.shift) c.put_field-3.ensures c.put.ensures))
