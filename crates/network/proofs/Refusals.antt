-- What a refusal of an entry that is handed a network means: `network_refusals`. Assumes nothing.
use mathlib.Core.Path.{◌≡◌, sym, ap, ◌∙◌}
use mathlib.Core.Bool.{Bool, true, false, ◌||◌, true≢false}
use mathlib.Core.List.{List}
use Prim.Native.Nat.{ℕ, ◌≤◌, ◌<◌}
use native.Mathlib.Nat.{pos_of_ne-zero}
use native.Mathlib.Omega.{arith}
use borrow.Author.Tests.{ltb-true, ltb-false, eqb-true, eqb-false, not-true, not-false}
use lib.Dec.{eqb, ltb}
use lib.IntN.{ℤ}
use lib.ListN.{length, get_or}
use Rattle.refusal.specs.Answer.{Answer, given, refused, nowhere, at_place, lowest}
use Rattle.refusal.proofs.Checks.{given_refused, neither, either, refused_if, refused_at, lowest_none_at}
use Rattle.refusal.proofs.Lowest.{lowest_is}
use Rattle.sequence.proofs.UpTo.{length_up_to}
use Rattle.network.specs.Rows.{Network, network_of, row_at, tap_row_in, no_tap, row_table, tap_table}
use Rattle.network.specs.RowRule.{RowRule}
use Rattle.network.specs.Check.{breaks_row_rule, breaks_tap_row_rule, numbers, checked, short_tables, network_answer, outcome}
use Rattle.network.specs.Claims.{UnderLength, rows_short, taps_short, another_short, TablesFit, LowestRow, LowestTapRow, NetworkRefusals, no_taps, too_many_taps, short_table_lem, no_rows, too_many_rows, row_broken, tap_row_broken}
use Rattle.network.proofs.Rules.{row_rule, row_kept, tap_rule, tap_kept}
use Rattle.network.proofs.Passed.{number_at}

pub not_both : (b : Bool) → b ≡ true → b ≡ false → ⊥
not_both b p q = true≢false (sym p ∙ q)

under_length : (short : Bool) (rows taps : List ℕ) → (short_tables rows taps || short) ≡ true → UnderLength short rows taps
under_length short rows taps e =
    either (short_tables rows taps) short e
    (λ f. either (ltb (length rows) row_table) (ltb (length taps) tap_table) f (λ r. rows_short (ltb-true _ _ r)) (λ t. taps_short (ltb-true _ _ t)))
    another_short

tables_fit : (short : Bool) (rows taps : List ℕ) (m : ℕ) → 1 ≤ m → m ≤ 256 → (short_tables rows taps || short) ≡ false → TablesFit short rows taps m
tables_fit short rows taps m from to e =
    let s = neither (short_tables rows taps) short e in
    let t = neither (ltb (length rows) row_table) (ltb (length taps) tap_table) s.0 in
    record { taps_from = from; taps_to = to; rows_long = ltb-false _ _ t.0; taps_long = ltb-false _ _ t.1; others_long = s.1 }

-- an answer whose outcome is a refusal is that refusal
pub outcome_refused : (a : Answer (List ℤ)) (number place : ℕ) → refused number place ≡ outcome a → a ≡ refused number place
outcome_refused (given h) number place e = absurd (let z : ◌≡◌ {A = ℕ} 0 1 = cc in omega arith)
outcome_refused (refused n p) number place e = cc

module _ (net : Network) (from : 1 ≤ length net.rows) (to : length net.rows ≤ 4096) where
  keeps : (i : ℕ) → i < length net.rows → breaks_row_rule net.rows (get_or (numbers (length net.rows)) i 0) ≡ false → RowRule net.rows i
  keeps i l e = row_rule net.rows i (not-false _ (ap (breaks_row_rule net.rows) (sym (number_at (length net.rows) i l)) ∙ e))

  lowest_row : (k : ℕ) → lowest (breaks_row_rule net.rows) (numbers (length net.rows)) ≡ at_place k → LowestRow net k
  lowest_row k e =
      let w = lowest_is 0 (breaks_row_rule net.rows) (numbers (length net.rows)) k e in
      let l : k < length net.rows = omega (arith, w.within, length_up_to (length net.rows) (λ (i : ℕ). i)) in
      record {
        rows_from = from;
        rows_to = to;
        within = l;
        broken = λ r. not_both _ (row_kept net.rows k r) (not-true _ (ap (breaks_row_rule net.rows) (sym (number_at (length net.rows) k l)) ∙ w.holds));
        kept = λ i h. keeps i (omega arith) (w.not_before i h);
      }

  rows_keep : lowest (breaks_row_rule net.rows) (numbers (length net.rows)) ≡ nowhere → (i : ℕ) → i < length net.rows → RowRule net.rows i
  rows_keep e i l =
      keeps i l (lowest_none_at 0 (breaks_row_rule net.rows) 0 (numbers (length net.rows)) i e (omega (arith, length_up_to (length net.rows) (λ (i : ℕ). i))))

  lowest_tap : (k : ℕ) → lowest (breaks_row_rule net.rows) (numbers (length net.rows)) ≡ nowhere → lowest (breaks_tap_row_rule net.rows) net.taps ≡ at_place k
      → LowestTapRow net k
  lowest_tap k n e =
      let w = lowest_is no_tap (breaks_tap_row_rule net.rows) net.taps k e in
      record {
        rows_from = from;
        rows_to = to;
        rows_kept = rows_keep n;
        within = w.within;
        broken = λ t. not_both _ (tap_kept net.rows (tap_row_in net.taps k) t) (not-true _ w.holds);
        kept = λ j h. tap_rule net.rows (tap_row_in net.taps j) (not-false _ (w.not_before j h));
      }

module _ (short : Bool) (rows : List ℕ) (n : ℕ) (taps : List ℕ) (m number place : ℕ) where
  abbrev Meant : Type 0
  Meant = NetworkRefusals short rows n taps m number place

  abbrev net : Network
  net = network_of rows n taps m

  rows_are : length net.rows ≡ n
  rows_are = length_up_to n (row_at rows)

  -- the checks of the network
  of_network : TablesFit short rows taps m → checked net ≡ refused number place → Meant
  unfolding checked
  of_network fits e =
      refused_if _ 10 _ number place e
      (λ b q p. either _ _ b (λ c. no_rows q p fits (sym rows_are ∙ eqb-true _ _ c)) (λ c. too_many_rows q p fits (omega (arith, ltb-true 4096 (length net.rows) c, rows_are))))
      (λ b e.
      let c = neither (eqb (length net.rows) 0) (ltb 4096 (length net.rows)) b in
      let from = pos_of_ne-zero (eqb-false _ _ c.0) in
      let to = ltb-false _ _ c.1 in
      refused_at _ 10 _ number place e
      (λ w q. row_broken q fits (lowest_row net from to place w))
      (λ w e. refused_at _ 11 _ number place e (λ v q. tap_row_broken q fits (lowest_tap net from to place w v)) (λ v e. given_refused _ number place e)))

  pub network_refusals : network_answer short rows n taps m ≡ refused number place → Meant
  unfolding network_answer
  network_refusals e =
      refused_if (eqb m 0) 1 _ number place e
      (λ b q p. no_taps q p (eqb-true _ _ b))
      (λ b e.
      let from = pos_of_ne-zero (eqb-false _ _ b) in
      refused_if (ltb 256 m) 2 _ number place e
      (λ b q p. too_many_taps q p (ltb-true _ _ b))
      (λ b e.
      let to = ltb-false 256 m b in
      refused_if (short_tables rows taps || short) 3 _ number place e
      (λ b q p. short_table_lem q p from to (under_length short rows taps b))
      (λ b e. of_network (tables_fit short rows taps m from to b) e)))

  -- where an entry returns no more than the outcome
  pub outcome_refusals : refused number place ≡ outcome (network_answer short rows n taps m) → Meant
  outcome_refusals e = network_refusals (outcome_refused (network_answer short rows n taps m) number place e)
