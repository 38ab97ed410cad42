-- `network::tap_rows::write_tap_row` meets its contract: a copy into a part is the words written one after the other. Assumes nothing.
use Rattle.std.proofs.Common.{◌*◌, ◌∙◌, sym, refl, arith}
use Rattle.std.proofs.lemmas.List.Edits.{sets-eq}
use Rattle.std.proofs.lemmas.Slice.{put_mid-paste}
use Rattle.network.specs.Rows.{tap_words, words_of_tap_row}
use Rattle.network.proofs.tap_rows.write_tap_row.Goals as goal

pub returns : goal.returns
returns c =
    let words = words_of_tap_row c.args.tap in
    let copied = put_mid-paste (tap_words * c.args.j) _ c.args.taps.now _ words tap_words c.copy_from_slice.ensures.after (omega arith) refl in
    copied ∙ sym (sets-eq words c.args.taps.now (tap_words * c.args.j) c.requires)
