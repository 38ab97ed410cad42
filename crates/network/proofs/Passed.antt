-- Checks and rules: `checked_passed` and `passed_checked` of the checks 10 and 11, `given_accepted` and `accepted_given` of all checks of an entry.
-- Assumes nothing.
use mathlib.Core.Path.{◌≡◌, refl, sym, ap, ◌∙◌}
use mathlib.Core.Bool.{Bool, true, false, not, ◌||◌}
use mathlib.Core.List.{List}
use Prim.Native.Nat.{ℕ, ◌≤◌, ◌<◌}
use native.Mathlib.Nat.{pos_of_ne-zero}
use native.Mathlib.Omega.{arith}
use borrow.Author.Tests.{ltb-false, eqb-false, le-ltb, ne_eqb, not-false}
use lib.Dec.{eqb, ltb}
use lib.IntN.{ℤ}
use lib.ListN.{length, get_or}
use Rattle.refusal.specs.Answer.{given, refuse_if, refuse_at, Place, lowest}
use Rattle.refusal.proofs.Lowest.{is_nowhere}
use Rattle.refusal.proofs.Checks.{given_same, neither, check_passes, given_if, given_at, lowest_none_at}
use Rattle.sequence.proofs.UpTo.{length_up_to, get_d_up_to}
use Rattle.network.specs.Rows.{Network, network_of, tap_row_in, no_tap, row_table, tap_table}
use Rattle.network.specs.RowRule.{keeps_row_rule_of}
use Rattle.network.specs.Coefficients.{coefficients}
use Rattle.network.specs.Check.{breaks_row_rule, breaks_tap_row_rule, numbers, checked, short_tables, network_answer}
use Rattle.network.specs.Accepted.{KeepsRules, Accepted}
use Rattle.network.proofs.Rules.{row_rule, row_kept, tap_rule, tap_kept}

-- the number at place i is i
length_numbers : (n : ℕ) → length (numbers n) ≡ n
length_numbers n = length_up_to n _

pub number_at : (n i : ℕ) → i < n → get_or (numbers n) i 0 ≡ i
number_at n i l = get_d_up_to n _ 0 i l

checked_is : (net : Network) → checked net ≡ refuse_if (eqb (length net.rows) 0 || ltb 4096 (length net.rows)) 10
    (refuse_at (lowest (breaks_row_rule net.rows) (numbers (length net.rows))) 10
    (refuse_at (lowest (breaks_tap_row_rule net.rows) net.taps) 11 (given (coefficients net))))
unfolding checked
checked_is net = refl

above : (n : ℕ) → 1 ≤ n → n ≡ 0 → ⊥
above n l e = omega arith

pub checked_passed : (net : Network) (h : List ℤ) → checked net ≡ given h → KeepsRules net h
checked_passed net h e =
    let rs = net.rows in
    let n = length rs in
    let c = given_if (eqb n 0 || ltb 4096 n) 10 _ h (sym (checked_is net) ∙ e) in
    let r = given_at (lowest (breaks_row_rule rs) (numbers n)) 10 _ h c.1 in
    let t = given_at (lowest (breaks_tap_row_rule rs) net.taps) 11 _ h r.1 in
    let w = neither (eqb n 0) (ltb 4096 n) c.0 in
    let kept : (i : ℕ) → i < n → keeps_row_rule_of rs i ≡ true =
    λ i l. not-false (keeps_row_rule_of rs i) (ap (breaks_row_rule rs) (sym (number_at n i l)) ∙ lowest_none_at 0 (breaks_row_rule rs) 0 (numbers n) i r.0 (omega (arith, length_numbers n))) in
    record {
      rows_from = pos_of_ne-zero (eqb-false n 0 w.0);
      rows_to = ltb-false 4096 n w.1;
      rows = λ i l. row_rule rs i (kept i l);
      taps = λ j l. tap_rule rs (tap_row_in net.taps j) (not-false _ (lowest_none_at no_tap (breaks_tap_row_rule rs) 0 net.taps j t.0 l));
      result = sym (given_same (coefficients net) h t.1);
    }

pub passed_checked : (net : Network) (h : List ℤ) → KeepsRules net h → checked net ≡ given h
passed_checked net h p =
    let rs = net.rows in
    let n = length rs in
    checked_is net
    ∙ check_passes (eqb n 0 || ltb 4096 n) 10 _ (rw (ne_eqb n 0 (above n p.rows_from), le-ltb 4096 n p.rows_to))
    ∙ ap (λ (w : Place). refuse_at w 10 (refuse_at (lowest (breaks_tap_row_rule rs) net.taps) 11 (given (coefficients net))))
    (is_nowhere 0 (breaks_row_rule rs) (numbers n) 0 (λ i l. row_at i (omega (arith, length_numbers n))))
    ∙ ap (λ (w : Place). refuse_at w 11 (given (coefficients net)))
    (is_nowhere no_tap (breaks_tap_row_rule rs) net.taps 0 (λ j l. ap not (tap_kept rs (tap_row_in net.taps j) (p.taps j l))))
    ∙ ap given (sym p.result)
  where
    row_at : (i : ℕ) → i < length net.rows → breaks_row_rule net.rows (get_or (numbers (length net.rows)) i 0) ≡ false
    row_at i l = ap (breaks_row_rule net.rows) (number_at (length net.rows) i l) ∙ ap not (row_kept net.rows i (p.rows i l))

module _ (short : Bool) (rows : List ℕ) (row_count_of : ℕ) (taps : List ℕ) (tap_count : ℕ) where
  pub answer_is : network_answer short rows row_count_of taps tap_count
      ≡ refuse_if (eqb tap_count 0) 1 (refuse_if (ltb 256 tap_count) 2 (refuse_if (short_tables rows taps || short) 3 (checked (network_of rows row_count_of taps tap_count))))
  unfolding network_answer
  answer_is = refl

  pub given_accepted : (h : List ℤ) → network_answer short rows row_count_of taps tap_count ≡ given h → Accepted short rows row_count_of taps tap_count h
  given_accepted h e =
      let a = given_if (eqb tap_count 0) 1 _ h (sym answer_is ∙ e) in
      let b = given_if (ltb 256 tap_count) 2 _ h a.1 in
      let c = given_if (short_tables rows taps || short) 3 _ h b.1 in
      let s = neither (short_tables rows taps) short c.0 in
      let t = neither (ltb (length rows) row_table) (ltb (length taps) tap_table) s.0 in
      record {
        taps_from = pos_of_ne-zero (eqb-false tap_count 0 a.0);
        taps_to = ltb-false 256 tap_count b.0;
        rows_long = ltb-false (length rows) row_table t.0;
        taps_long = ltb-false (length taps) tap_table t.1;
        others_long = s.1;
        passed = checked_passed (network_of rows row_count_of taps tap_count) h c.1;
      }

  pub accepted_given : (h : List ℤ) → Accepted short rows row_count_of taps tap_count h → network_answer short rows row_count_of taps tap_count ≡ given h
  accepted_given h w =
      answer_is
      ∙ check_passes (eqb tap_count 0) 1 _ (ne_eqb tap_count 0 (above tap_count w.taps_from))
      ∙ check_passes (ltb 256 tap_count) 2 _ (le-ltb 256 tap_count w.taps_to)
      ∙ check_passes (short_tables rows taps || short) 3 _
      (rw (le-ltb (length rows) row_table w.rows_long, le-ltb (length taps) tap_table w.taps_long, w.others_long))
      ∙ passed_checked (network_of rows row_count_of taps tap_count) h w.passed
