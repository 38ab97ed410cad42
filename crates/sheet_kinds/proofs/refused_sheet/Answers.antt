-- `sheet_kinds::refused_sheet` meets its contract. Assumes nothing.
use mathlib.Core.Path.{sym}
use lib.Dec.{lit≤}
use Rattle.text.proofs.Puts.{then, widen}
use Rattle.sheet_kinds.specs.Text.{refused_text}
use Rattle.sheet_kinds.proofs.refused_sheet.Goals as goal

pub returns : goal.returns
unfolding refused_text
returns c =
    rw (sym c.number.ensures, sym c.place.ensures)
    (widen (lit≤ tt) (then c.put_header.ensures c.refused_line.ensures))
