-- A network that passes multiplies: every row gives its value times the sample (`rows_multiply`), every tap its coefficient times the sample
-- (`taps_multiply`). Assumes nothing.
use mathlib.Core.Path.{◌≡◌, refl, sym, ap, ap₂, ◌∙◌}
use mathlib.Core.Bool.{Bool, true, false}
use mathlib.Core.List.{List, [], ◌∷◌, map}
use Prim.Native.Nat.{ℕ, zero, suc, ◌<◌, zero-le, suc-le-suc}
use native.Mathlib.Omega.{arith}
use borrow.Author.Tests.{ltb-true, ltb-false}
use lib.Dec.{ltb}
use lib.IntN.{ℤ, pos, ◌*ℤ◌, zero-*ℤ}
use lib.ListN.{length, get_or, length-append, get_or-append}
use lib.Seq.{get_or_at}
use Rattle.word.proofs.Multiples.{one_times}
use Rattle.network.specs.declared.Row.{Row}
use Rattle.network.specs.declared.TapRow.{TapRow}
use Rattle.network.specs.Rows.{Network, row_in, tap_row_in}
use Rattle.network.specs.RowRule.{RowRule, combined, lifted}
use Rattle.network.specs.Coefficients.{with_sign, coefficient_of}
use Rattle.network.specs.TapRowRule.{TapRowRule, is_empty_lem, is_product_lem}
use Rattle.network.specs.Evaluation.{shifted_up, row_gives, row_results, tap_gives, tap_results}
use Rattle.network.proofs.Multiples.{combined_times, signed_times, shifted_times}
use Rattle.network.specs.Accepted.{KeepsRules}

length_results : (rows : List Row) (x : ℤ) (n : ℕ) → length (row_results rows x n) ≡ n
unfolding row_results
length_results rows x zero = refl
length_results rows x (suc n) = length-append (row_results rows x n) (row_gives rows x (row_results rows x n) n ∷ []) ∙ omega (arith, length_results rows x n)

module _ (rows : List Row) (x : ℤ) where
  -- row k gives its value times x
  abbrev Multiplies : ℕ → ℕ → Type 0
  Multiplies n k = get_or (row_results rows x n) k (pos 0) ≡ pos (row_in rows k).value *ℤ x

  -- the next row, from what the rows before it gave
  next_row : (n : ℕ) → RowRule rows n → ((k : ℕ) → k < n → Multiplies n k) → row_gives rows x (row_results rows x n) n ≡ pos (row_in rows n).value *ℤ x
  next_row zero rule before = sym (ap (λ (v : ℕ). pos v *ℤ x) rule.value ∙ one_times x)
  next_row (suc n) rule before =
      let r = row_in rows (suc n) in
      let left = (row_in rows r.left).value in
      let right = (row_in rows r.right).value in
      ap₂ (λ (p q : ℤ). combined r.sign (shifted_up r.shift p) q) (before r.left rule.left) (before r.right rule.right)
      ∙ ap (λ (p : ℤ). combined r.sign p (pos right *ℤ x)) (shifted_times x r.shift left)
      ∙ combined_times x r.sign (pos (lifted r.shift left)) (pos right)
      ∙ ap (λ (z : ℤ). z *ℤ x) (sym rule.worked)

  -- one row more
  one_more : (n k : ℕ) → k < suc n → RowRule rows n → ((k : ℕ) → k < n → Multiplies n k) → (b : Bool) → ltb k n ≡ b → Multiplies (suc n) k
  unfolding row_results
  one_more n k l rule before true e =
      let h : k < n = ltb-true k n e in
      get_or-append (row_results rows x n) (row_gives rows x (row_results rows x n) n ∷ []) (pos 0) k (omega (arith, length_results rows x n)) ∙ before k h
  one_more n k l rule before false e =
      let q : n ≡ k = omega (arith, ltb-false k n e) in
      get_or_at (row_results rows x n) (row_gives rows x (row_results rows x n) n) [] (pos 0) k (length_results rows x n ∙ q)
      ∙ next_row n rule before
      ∙ ap (λ (i : ℕ). pos (row_in rows i).value *ℤ x) q

  all_rows : (n : ℕ) → ((i : ℕ) → i < n → RowRule rows i) → (k : ℕ) → k < n → Multiplies n k
  all_rows zero rule k l = absurd (omega arith)
  all_rows (suc n) rule k l = one_more n k l (rule n (omega arith)) (λ i h. all_rows n (λ j g. rule j (omega arith)) i h) (ltb k n) refl

  one_tap : (t : TapRow) → ((i : ℕ) → i < length rows → RowRule rows i) → TapRowRule rows t → tap_gives (row_results rows x (length rows)) t ≡ coefficient_of rows t *ℤ x
  unfolding coefficient_of
  one_tap t rule (is_empty_lem w) = rw w.sign (sym (zero-*ℤ x))
  one_tap t rule (is_product_lem w) =
      let v = (row_in rows t.row).value in
      ap (λ (z : ℤ). with_sign t.sign (shifted_up t.shift z)) (all_rows (length rows) rule t.row w.row)
      ∙ ap (with_sign t.sign) (shifted_times x t.shift v)
      ∙ signed_times x t.sign (pos (lifted t.shift v))

-- ---- the statement

module _ (net : Network) (h : List ℤ) (p : KeepsRules net h) (sample : ℤ) where
  pub rows_multiply : (i : ℕ) → i < length net.rows → get_or (row_results net.rows sample (length net.rows)) i (pos 0) ≡ pos (row_in net.rows i).value *ℤ sample
  rows_multiply i l = all_rows net.rows sample (length net.rows) p.rows i l

  pub taps_multiply : tap_results net sample ≡ map (λ (c : ℤ). c *ℤ sample) h
  taps_multiply =
      tap_by_tap net.taps (λ j l. one_tap net.rows sample (tap_row_in net.taps j) p.rows (p.taps j l)) ∙ ap (map (λ (c : ℤ). c *ℤ sample)) (sym p.result)
    where
      tap_by_tap : (ts : List TapRow)
          → ((j : ℕ) → j < length ts → tap_gives (row_results net.rows sample (length net.rows)) (tap_row_in ts j) ≡ coefficient_of net.rows (tap_row_in ts j) *ℤ sample)
          → map (tap_gives (row_results net.rows sample (length net.rows))) ts ≡ map (λ (c : ℤ). c *ℤ sample) (map (coefficient_of net.rows) ts)
      tap_by_tap [] f = refl
      tap_by_tap (t ∷ ts) f = ap₂ (λ (z : ℤ) (zs : List ℤ). z ∷ zs) (f 0 (suc-le-suc zero-le)) (tap_by_tap ts (λ j l. f (suc j) (suc-le-suc l)))
