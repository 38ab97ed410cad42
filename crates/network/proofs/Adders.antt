-- The coefficients that are 0 are those of the empty tap rows, so that either may be counted: `empty_zero`, `zero_empty`, `taps_counted`. Assumes nothing.
use mathlib.Core.Path.{◌≡◌, refl, sym, ap, subst, ◌∙◌}
use mathlib.Core.Bool.{Bool, true, false, not, cond, ◌||◌}
use mathlib.Core.List.{List}
use Prim.Native.Nat.{ℕ, zero, suc, ◌^◌, ◌≤◌, ◌<◌}
use native.Mathlib.Nat.{mul_comm}
use native.Mathlib.Omega.{arith}
use borrow.Author.Tests.{ne_eqb}
use lib.Dec.{T, eqb}
use lib.IntN.{ℤ, pos, neg_ℤ}
use lib.ListN.{length, get_or}
use Rattle.word.specs.Zero.{is_zero}
use Rattle.word.proofs.LowZeros.{product_above}
use Rattle.sequence.proofs.Count.{count_same}
use Rattle.network.specs.declared.Row.{Row}
use Rattle.network.specs.declared.TapRow.{TapRow}
use Rattle.network.specs.Rows.{Network, none, plus, minus, row_in, tap_row_in, no_tap}
use Rattle.network.specs.RowRule.{RowRule, lifted}
use Rattle.network.specs.Coefficients.{coefficient_of}
use Rattle.network.specs.TapRowRule.{is_tap_sign, EmptyTap, TapRowRule, is_empty_lem, is_product_lem, is_empty}
use Rattle.network.specs.Accepted.{KeepsRules}
use Rattle.network.specs.Adders.{is_nonzero, nonzero_taps_of, used_tap_rows}
use Rattle.network.proofs.Rules.{empty_tap, empty_kept}
use Rattle.network.proofs.Given.{empty_is, coefficient_is}

-- ---- a tap row with a sign gives no 0
value_above : (rows : List Row) (i : ℕ) → RowRule rows i → 1 ≤ (row_in rows i).value
value_above rows zero r = omega (arith, r.value)
value_above rows (suc i) r = r.value_from

lifted_above : (s v : ℕ) → 1 ≤ v → 1 ≤ lifted s v
lifted_above s v h = omega (arith, (product_above v s h).0, mul_comm v (2 ^ s))

signed_nonzero : (a b : Bool) (n : ℕ) → 1 ≤ n → T (a || b) → is_zero (cond a (pos n) (cond b (neg_ℤ (pos n)) (pos 0))) ≡ false
signed_nonzero a b zero h t = absurd (omega arith)
signed_nonzero true b (suc n) h t = refl
signed_nonzero false true (suc n) h t = refl
signed_nonzero false false (suc n) h t = absurd t

has_sign : (sign : ℕ) → T (is_tap_sign sign) → eqb sign none ≡ false
has_sign sign t = ne_eqb sign none (λ e. subst (λ (s : ℕ). T (is_tap_sign s)) e t)

-- ---- one tap row, and each of a network that passes
alike : (rows : List Row) (t : TapRow) → ((i : ℕ) → i < length rows → RowRule rows i) → TapRowRule rows t → is_zero (coefficient_of rows t) ≡ is_empty t
unfolding coefficient_of
alike rows t rule (is_empty_lem w) = ap is_zero (empty_is rows t w.sign) ∙ sym (empty_kept t w)
alike rows t rule (is_product_lem w) =
    let v = (row_in rows t.row).value in
    let above = lifted_above t.shift v (value_above rows t.row (rule t.row w.row)) in
    signed_nonzero (eqb t.sign plus) (eqb t.sign minus) (lifted t.shift v) above w.sign ∙ sym (rw (has_sign t.sign w.sign))

module _ (net : Network) (h : List ℤ) (p : KeepsRules net h) where
  pub alike_at : (j : ℕ) → j < length net.taps → is_zero (get_or h j (pos 0)) ≡ is_empty (tap_row_in net.taps j)
  alike_at j l = ap is_zero (coefficient_is net h p j) ∙ alike net.rows (tap_row_in net.taps j) p.rows (p.taps j l)

  pub empty_zero : (j : ℕ) → j < length net.taps → EmptyTap (tap_row_in net.taps j) → get_or h j (pos 0) ≡ pos 0
  empty_zero j l e = coefficient_is net h p j ∙ empty_is net.rows (tap_row_in net.taps j) e.sign

  pub zero_empty : (j : ℕ) → j < length net.taps → get_or h j (pos 0) ≡ pos 0 → EmptyTap (tap_row_in net.taps j)
  zero_empty j l e = empty_tap (tap_row_in net.taps j) (sym (alike_at j l) ∙ ap is_zero e)

  pub taps_counted : used_tap_rows net.taps ≡ nonzero_taps_of h
  taps_counted =
      count_same (λ (t : TapRow). not (is_empty t)) is_nonzero (coefficient_of net.rows) net.taps no_tap
      (λ j l. ap not (sym (alike net.rows (tap_row_in net.taps j) p.rows (p.taps j l))))
      ∙ ap nonzero_taps_of (sym p.result)
