-- One sign, and the three signs in their order. Assumes nothing.
use mathlib.Core.Path.{◌≡◌, sym, ap, ◌∙◌}
use mathlib.Core.List.{List}
use Prim.Native.Nat.{ℕ, ◌<◌}
use native.Mathlib.Omega.{arith}
use lib.Dec.{T}
use Rattle.refusal.specs.Answer.{nowhere, at_place}
use Rattle.network.specs.declared.Row.{Row}
use Rattle.network.specs.Rows.{plus, minus, reversed, rows_of}
use Rattle.network.specs.RowRule.{is_row_sign}
use Rattle.build_steps.specs.Search.{Fit, fit, none_fits, or_else, first_over, row_with, row_over, tried, fit_at_shift}
use Rattle.build_index.specs.declared.IndexedRows.{IndexedRows}
use Rattle.build_index.specs.Inner.{value_at}
use Rattle.build_pair.specs.declared.row_signs.Left.{Left}
use Rattle.build_pair.specs.Inner.{right_value_of, Searchable, AtShift}
use Rattle.build_pair.proofs.FirstOver.{else_none}
use Rattle.build_pair.proofs.Tries.{tried_right, tried_missing}

-- ---- the signs in their order

pub three_signs : (rows : List Row) (v left shift : ℕ) (f g h : Fit) → tried rows v left shift plus ≡ f → tried rows v left shift minus ≡ g
    → tried rows v left shift reversed ≡ h → fit_at_shift rows v left shift ≡ or_else f (or_else g h)
unfolding fit_at_shift first_over
three_signs rows v left shift f g h e p q = rw (e, p, q) (ap (λ (x : Fit). or_else f (or_else g x)) (else_none h))

module _ (r : IndexedRows) (most v : ℕ) (s : Searchable r most v) where
  abbrev t : List ℕ
  t = r.table.now

  abbrev n : ℕ
  n = r.count

  pub positive : (k : ℕ) → k < r.count → 0 < value_at r.table.now k
  positive k l = omega (arith, s.odd k l)

  -- ---- one sign: x is the value that makes v on the right

  module _ (l : Left) (at : AtShift r l) (sign : ℕ) (known : T (is_row_sign sign)) (x : ℕ) (is : x ≡ right_value_of sign l.lifted v) where
    missing : ((k : ℕ) → k < n → value_at t k ≡ right_value_of sign l.lifted v → ⊥) → none_fits ≡ tried (rows_of t n) v l.row l.shift sign
    missing h = sym (tried_missing t n v l.row l.shift l.lifted at.within at.is_lifted at.low positive sign known h)

    pub sign_zero : x ≡ 0 → none_fits ≡ tried (rows_of r.table.now r.count) v l.row l.shift sign
    sign_zero z = missing (λ k b e. omega (arith, positive k b))

    pub sign_past : most < x → none_fits ≡ tried (rows_of r.table.now r.count) v l.row l.shift sign
    sign_past h = missing (λ k b e. omega (arith, s.bounded k b))

    right : tried (rows_of t n) v l.row l.shift sign ≡ row_over v l.row l.shift sign (row_with (rows_of t n) x)
    right =
        tried_right t n v l.row l.shift l.lifted at.within at.is_lifted at.low positive sign known
        ∙ ap (λ (y : ℕ). row_over v l.row l.shift sign (row_with (rows_of t n) y)) (sym is)

    pub sign_missing : row_with (rows_of r.table.now r.count) x ≡ nowhere → none_fits ≡ tried (rows_of r.table.now r.count) v l.row l.shift sign
    unfolding row_over
    sign_missing e = sym (right ∙ ap (row_over v l.row l.shift sign) e)

    pub sign_found : (k : ℕ) → row_with (rows_of r.table.now r.count) x ≡ at_place k
        → fit (record { left = l.row; right = k; shift = l.shift; sign = sign; value = v }) ≡ tried (rows_of r.table.now r.count) v l.row l.shift sign
    unfolding row_over
    sign_found k e = sym (right ∙ ap (row_over v l.row l.shift sign) e)
