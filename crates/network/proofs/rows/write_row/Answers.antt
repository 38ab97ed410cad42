-- `network::rows::write_row` meets its contract: a copy into a part is the words written one after the other. Assumes nothing.
use Rattle.std.proofs.Common.{◌*◌, ◌∙◌, sym, refl, arith}
use Rattle.std.proofs.lemmas.List.Edits.{sets-eq}
use Rattle.std.proofs.lemmas.Slice.{put_mid-paste}
use Rattle.network.specs.Rows.{row_words, words_of_row}
use Rattle.network.proofs.rows.write_row.Goals as goal

pub returns : goal.returns
returns c =
    let words = words_of_row c.args.row in
    let copied = put_mid-paste (row_words * c.args.i) _ c.args.rows.now _ words row_words c.copy_from_slice.ensures.after (omega arith) refl in
    copied ∙ sym (sets-eq words c.args.rows.now (row_words * c.args.i) c.requires)
