-- `build_tap_rows::row_of` meets its contract. Assumes nothing.
use Rattle.std.proofs.Common.{◌≡◌, ℕ, ◌^◌, ◌<◌, ◌≤◌, List, Option, Some, None, sym, arith}
use Rattle.std.specs.Option.{unwrap_or}
use Rattle.refusal.specs.Answer.{found_at}
use Rattle.network.specs.Rows.{rows_of}
use Rattle.build_steps.specs.Search.{row_with}
use Rattle.build_index.proofs.Values.{row_found}
use Rattle.build_tap_rows.proofs.row_of.Goals as goal

-- rows are few
small : (table : List ℕ) (n x : ℕ) → n ≤ 4096 → (o : Option ℕ) → found_at o ≡ row_with (rows_of table n) x → unwrap_or o 0 < 2 ^ 32
small table n x h None e = omega arith
small table n x h (Some i) e = omega (arith, h, (row_found table n x i (sym e)).0)

pub overflow_cast-result : goal.overflow_cast-result
overflow_cast-result c =
    let rows = c.args.rows.now in
    record { fits = rw c.unwrap_or.ensures (small rows.table.now rows.count c.args.x c.requires.few c.find.result c.find.ensures) }
