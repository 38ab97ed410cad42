-- `sheet_text::sheet` meets its contract. Assumes nothing.
use borrow.Author.Rules.{rules}
use mathlib.Core.Path.{refl}
use Prim.Native.Nat.{◌≤◌}
use lib.ListN.{length}
use Rattle.sheet_lines.specs.Inner.{area_bytes}
use Rattle.sheet_input.specs.Argument.{argument_of}
use Rattle.sheet_text.proofs.Sheets.{sheet_of_answer, written_sheet}
use Rattle.sheet_text.proofs.sheet.Goals.{in-Err, in_default}
use Rattle.sheet_text.proofs.sheet.Goals as goal

pub returns : goal.returns
returns c =
    let input = c.args.input.now in
    let argument = argument_of c.args.argument in
    let room : area_bytes ≤ length c.args.out.now = search rules in
    elim c.match-tap_sheet.branch [
      | in-Err w ↦
          let nothing = w.in-Err.ensures in
          rw w.to-is (written_sheet input argument (sheet_of_answer input argument _ nothing.1) refl (rw nothing.0 at w.refused_sheet.ensures) room)
      | in_default w ↦
          rw w.to-is (written_sheet input argument (sheet_of_answer input argument _ refl) refl w.in_default.ensures room)
    ]
