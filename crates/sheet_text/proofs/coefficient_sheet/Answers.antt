-- `sheet_text::coefficient_sheet` meets its contract: building turns no such coefficients down (`never_refused`), and leaves tables that hold the network of the definitions (`printable`), so that the sheet of the tables is the sheet of the network.
-- Assumes nothing.
use mathlib.Core.Path.{sym, ap, ◌∙◌}
use Rattle.refusal.specs.Answer.{answer_of}
use Rattle.network.specs.Rows.{row_table, tap_table}
use Rattle.text.proofs.Puts.{put_as}
use Rattle.sheet_kinds.specs.Text.{network_text}
use Rattle.sheet_text.specs.Sheet.{choices}
use Rattle.sheet_text.proofs.Building.{zeros, room, Printable, printable, never_refused}
use Rattle.sheet_text.proofs.coefficient_sheet.Goals.{In_ok-n}
use Rattle.sheet_text.proofs.coefficient_sheet.Goals as goal

pub returns-in_err-n : goal.returns-in_err-n
unfolding choices
returns-in_err-n c =
    absurd (never_refused c.args.coefficients.now c.requires.0 (zeros row_table) (zeros tap_table) (room row_table) (room tap_table) _ _ (ap answer_of (sym c.in_err-n.was) ∙ c.build.ensures.answer))

tables : (c : In_ok-n) → Printable c.args.coefficients.now c.requires.0 (zeros row_table) (zeros tap_table) (room row_table) (room tap_table) c.in_ok-n.n c.build.new.rows c.build.new.taps
unfolding choices
tables c =
    printable c.args.coefficients.now c.requires.0 (zeros row_table) (zeros tap_table) (room row_table) (room tap_table) c.in_ok-n.n _ _
    (ap answer_of (sym c.in_ok-n.was) ∙ c.build.ensures.answer) c.build.ensures.rows_left c.build.ensures.taps_left

pub network_sheet-requires-clause-network_in : goal.network_sheet-requires-clause-network_in
network_sheet-requires-clause-network_in c = (tables (goal.at-network_sheet-requires-clause-network_in c).In_ok-n).ready

pub returns : goal.returns
returns c = put_as (ap network_text (sym (tables (goal.at-returns c).In_ok-n).network)) c.network_sheet.ensures
