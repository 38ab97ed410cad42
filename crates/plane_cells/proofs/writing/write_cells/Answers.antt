-- `plane_cells::writing::write_cells` meets its contract. Assumes nothing.
use Rattle.std.proofs.Common.{◌≡◌, length, drop, ap, ◌∙◌, arith, rules}
use Rattle.signed_digit.specs.Masks.{plus_mask, minus_mask}
use Rattle.form_masks.specs.declared.Form.{Form}
use Rattle.plane_cells.proofs.Forms.{form_chosen}
use Rattle.plane_cells.proofs.Planes.{table_of, no_cells, has_room, cell_added, past_kept, empty}
use Rattle.plane_cells.proofs.writing.write_cells.Goals as goal

pub loop-c-init : goal.loop-c-init
loop-c-init c = record {
  plus = empty _ c.args.plus.now c.clear_words.ensures ∙ no_cells plus_mask c.args.coefficients.now c.args.choices.now (drop 128 c.clear_words.new.table);
  minus = empty _ c.args.minus.now c.clear_words-2.ensures ∙ no_cells minus_mask c.args.coefficients.now c.args.choices.now (drop 128 c.clear_words-2.new.table);
}

pub write_cell-requires-clause-by_index : goal.write_cell-requires-clause-by_index
write_cell-requires-clause-by_index c =
    has_room plus_mask c.args.coefficients.now c.args.choices.now (drop 128 c.clear_words.new.table) c.loop-c.c c.loop-c.plus c.loop-c.invariant.plus (omega arith)

pub write_cell-requires-in-loop-c-clause-by_index : goal.write_cell-requires-in-loop-c-clause-by_index
write_cell-requires-in-loop-c-clause-by_index c =
    has_room minus_mask c.args.coefficients.now c.args.choices.now (drop 128 c.clear_words-2.new.table) c.loop-c.c c.loop-c.minus c.loop-c.invariant.minus (omega arith)

pub loop-c-preserved : goal.loop-c-preserved
loop-c-preserved c =
    let n = c.args.coefficients.now in
    let choices = c.args.choices.now in
    let form = form_chosen n choices c.loop-c.c (search rules) c.form_at-form.result c.form_at-form.ensures in
    record {
      plus = c.write_cell.ensures ∙ cell_added plus_mask n choices (drop 128 c.clear_words.new.table) c.loop-c.c c.form_at-form.result.plus c.loop-c.plus c.loop-c.invariant.plus (ap (λ (g : Form). g.plus) form);
      minus = c.write_cell-in-loop-c.ensures ∙ cell_added minus_mask n choices (drop 128 c.clear_words-2.new.table) c.loop-c.c c.form_at-form.result.minus c.loop-c.minus c.loop-c.invariant.minus (ap (λ (g : Form). g.minus) form);
    }

pub returns-clause-plus : goal.returns-clause-plus
returns-clause-plus c =
    let n = c.args.coefficients.now in
    let e : c.loop-c.c ≡ length n = omega arith in
    (rw e at c.loop-c.invariant.plus) ∙ ap (λ rest. table_of plus_mask n c.args.choices.now rest (length n)) (past_kept _ c.args.plus.now c.clear_words.ensures)

pub returns-clause-minus : goal.returns-clause-minus
returns-clause-minus c =
    let n = c.args.coefficients.now in
    let e : c.loop-c.c ≡ length n = omega arith in
    (rw e at c.loop-c.invariant.minus) ∙ ap (λ rest. table_of minus_mask n c.args.choices.now rest (length n)) (past_kept _ c.args.minus.now c.clear_words-2.ensures)
