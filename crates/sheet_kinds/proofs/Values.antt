-- The text that the writers make of a network's tables and coefficients is the network's. Assumes nothing.
use mathlib.Core.Path.{◌≡◌, refl, sym, ap, ap₂, ◌∙◌}
use mathlib.Core.List.{List, [], ◌∷◌, ◌++◌, map}
use Prim.Native.Nat.{ℕ, suc, ◌+◌, ◌-◌}
use native.Mathlib.Omega.{arith}
use lib.IntN.{ℤ, pos}
use lib.ListN.{length, get_or, get_or-map}
use Rattle.sequence.proofs.UpTo.{length_up_to}
use Rattle.network.specs.declared.Row.{Row}
use Rattle.network.specs.declared.TapRow.{TapRow}
use Rattle.network.specs.Rows.{row_at, rows_of, tap_rows_of, network_of, no_tap}
use Rattle.network.specs.Coefficients.{coefficient_of}
use Rattle.network.specs.Adders.{joining_adders_of, adders}
use Rattle.text.specs.Lines.{lines_from}
use Rattle.sheet_lines.specs.Lines.{header, node_line_of, tap_line_text, total_line_of}
use Rattle.sheet_taps.specs.Inner.{tap_line_of}
use Rattle.sheet_kinds.specs.Text.{tap_line_in, network_text}
use Rattle.sheet_kinds.specs.Inner.{NetworkIn}

none_tap : (rows : List Row) → coefficient_of rows no_tap ≡ pos 0
unfolding coefficient_of
none_tap rows = refl

product_at : (rows : List Row) (taps : List TapRow) (j : ℕ) → get_or (map (coefficient_of rows) taps) j (pos 0) ≡ coefficient_of rows (get_or taps j no_tap)
product_at rows taps j = ap (get_or (map (coefficient_of rows) taps) j) (sym (none_tap rows)) ∙ get_or-map (coefficient_of rows) taps j no_tap

module _ (rows : List Row) (values : List ℤ) where
  lines_same : (i : ℕ) (taps : List TapRow) → ((j : ℕ) → get_or values (i + j) (pos 0) ≡ coefficient_of rows (get_or taps j no_tap))
      → lines_from (tap_line_of values) i taps ≡ lines_from (tap_line_in rows) i taps
  unfolding lines_from
  lines_same i [] h = refl
  lines_same i (t ∷ taps) h =
      let a : get_or values i (pos 0) ≡ coefficient_of rows t = ap (λ (k : ℕ). get_or values k (pos 0)) (plus_none i) ∙ h 0 in
      let b = lines_same (suc i) taps (λ j. ap (λ (k : ℕ). get_or values k (pos 0)) (moved i j) ∙ h (suc j)) in
      ap (λ (z : ℤ). tap_line_text i t z ++ lines_from (tap_line_of values) (suc i) taps) a ∙ ap (λ (l : List ℕ). tap_line_in rows i t ++ l) b
    where
      plus_none : (i : ℕ) → i ≡ i + 0
      plus_none i = omega arith

      moved : (i j : ℕ) → suc i + j ≡ i + suc j
      moved i j = omega arith

  -- each tap's coefficient is the product of its tap row
  pub tap_lines_same : (taps : List TapRow) → values ≡ map (coefficient_of rows) taps → lines_from (tap_line_of values) 0 taps ≡ lines_from (tap_line_in rows) 0 taps
  tap_lines_same taps e = lines_same 0 taps (λ j. ap (λ (l : List ℤ). get_or l (0 + j) (pos 0)) e ∙ ap (λ (k : ℕ). get_or (map (coefficient_of rows) taps) k (pos 0)) (none_plus j) ∙ product_at rows taps j)
    where
      none_plus : (j : ℕ) → 0 + j ≡ j
      none_plus j = omega arith

pub network_written : (rows : List ℕ) (n : ℕ) (taps : List ℕ) (m : ℕ) (values : List ℤ) (total : ℕ) → NetworkIn rows n taps m values → total ≡ n - 1 + joining_adders_of values
    → network_text (network_of rows n taps m)
    ≡ header ++ (lines_from node_line_of 0 (rows_of rows n) ++ (lines_from (tap_line_of values) 0 (tap_rows_of taps (length values)) ++ total_line_of total))
unfolding network_text
network_written rows n taps m values total h e =
    let same : adders (network_of rows n taps m) ≡ total =
    sym (e ∙ ap₂ (λ (k : ℕ) (h : List ℤ). k - 1 + joining_adders_of h) (sym (length_up_to n (row_at rows))) h.products) in
    rw (h.each, tap_lines_same (rows_of rows n) values (tap_rows_of taps m) h.products)
    (ap (λ (k : ℕ). header ++ (lines_from node_line_of 0 (rows_of rows n) ++ (lines_from (tap_line_in (rows_of rows n)) 0 (tap_rows_of taps m) ++ total_line_of k))) same)
