-- `build_index::Rows::put` meets its contract. Assumes nothing.
use mathlib.Core.Path.{refl, ap}
use Prim.Native.Nat.{◌+◌, ◌*◌, ◌≤◌}
use native.Mathlib.Omega.{arith}
use lib.ListN.{length, length-set}
use lib.Seq.{sets}
use Rattle.network.specs.declared.Row.{Row}
use Rattle.network.specs.Rows.{row_words, words_of_row}
use Rattle.network.proofs.Items.{new_item, old_item, items_written, rest_kept, length_written}
use Rattle.network.proofs.Tables.{row_layout}
use Rattle.build_index.proofs.Chains.{indexed_next}
use Rattle.build_index.proofs.Rows.put.Goals as goal

pub returns-clause-grown : goal.returns-clause-grown
returns-clause-grown c =
    let rows = c.args.self.now in
    let table = rows.table.now in
    let n = rows.count in
    let row = c.args.row in
    let room = c.requires.room.1 in
    let written = sets table (row_words * n) (words_of_row row) in
    let still-room : row_words * n + row_words ≤ length written = omega (arith, length_written row_layout table n row, room) in
    rw (c.write_row.ensures, c.bucket-own.ensures.0)
    (record {
      rows_are = items_written row_layout table n row room;
      rest = rest_kept row_layout table n row room;
      index = indexed_next table written rows.heads.now rows.links.now n row.value c.requires.indexed (ap (λ (x : Row). x.value) (new_item row_layout table n row room))
          (λ i l. ap (λ (x : Row). x.value) (old_item row_layout table n row room i l)) c.requires.room.0 still-room c.requires.room.2 c.requires.new_value;
      lent = record {
        table = refl;
        heads = refl;
        links = refl;
        table_long = length_written row_layout table n row;
        heads_long = simp length-set refl;
        links_long = simp length-set refl;
      };
    })
