-- `build_left_rows::lower` meets its contract: rows are odd, so that 2^s·left is x for the odd part of x and its factors 2 alone. Assumes nothing.
use mathlib.Core.Path.{◌≡◌, sym, ap, ◌∙◌}
use Prim.Native.Nat.{ℕ, ◌+◌, ◌*◌, ◌/◌, ◌^◌, ◌<◌}
use native.Mathlib.Omega.{arith}
use lib.Count.{count_trailing_zeros}
use Rattle.refusal.specs.Answer.{at_place, found_at}
use Rattle.word.proofs.LowZeros.{zeros_below}
use Rattle.network.specs.Rows.{rows_of}
use Rattle.build_steps.specs.Search.{row_with}
use Rattle.build_index.proofs.Values.{row_found, row_missing}
use Rattle.build_left_rows.proofs.Turns.{no_turn}
use Rattle.build_left_rows.proofs.lower.Goals.{In-Some}
use Rattle.build_left_rows.proofs.lower.Goals as goal

abbrev odd_part : ℕ → ℕ
odd_part x = x / 2 ^ count_trailing_zeros 32 x

-- the row that was found
found : (c : In-Some) → row_with (rows_of c.args.rows.now.table.now c.args.rows.now.count) (odd_part c.args.x) ≡ at_place c.in-Some.k
found c = sym c.find.ensures ∙ ap found_at c.in-Some.is

turn_small : (c : In-Some) → 32 * c.in-Some.k + count_trailing_zeros 32 c.args.x < 2 ^ 32
turn_small c =
    let rows = c.args.rows.now in
    omega (arith, (row_found rows.table.now rows.count (odd_part c.args.x) c.in-Some.k (found c)).0, c.requires.0.few, zeros_below 32 c.args.x c.ranges.x.fits c.requires.3)

pub overflow_mul-k : goal.overflow_mul-k
overflow_mul-k c = omega (arith, turn_small c)

pub overflow_add-k : goal.overflow_add-k
overflow_add-k c = omega (arith, turn_small c)

pub returns-in-Some : goal.returns-in-Some
returns-in-Some c =
    let rows = c.args.rows.now in
    let k = c.in-Some.k in
    let is = found (goal.at-returns-in-Some c).In-Some in (
      omega (arith, c.min.ensures),
      no_turn rows.table.now rows.count c.min.result k c.args.x (omega (arith, c.min.ensures, c.requires.1)) c.requires.2
          (λ i b e.
          let f = row_found rows.table.now rows.count (odd_part c.args.x) k is in
          c.requires.0.distinct i k b f.0 (e ∙ sym f.1))
          (omega (arith, c.min.ensures)),
    )

pub returns-in-None : goal.returns-in-None
returns-in-None c =
    let rows = c.args.rows.now in (
      omega arith,
      no_turn rows.table.now rows.count c.args.m rows.count c.args.x c.requires.1 c.requires.2
          (row_missing rows.table.now rows.count (odd_part c.args.x) (sym c.find.ensures ∙ ap found_at c.in-None.is)) (omega (arith, c.requires.1)),
    )
