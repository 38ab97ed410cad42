-- The tap row rule, test by test, as the code makes the tests. Assumes nothing.
use mathlib.Core.Path.{◌≡◌, refl, sym, ap, ◌∙◌}
use mathlib.Core.Bool.{Bool, true, false, ◌&&◌, ◌||◌, or-false}
use mathlib.Core.List.{List}
use Prim.Native.Nat.{ℕ, ◌%◌, ◌≤◌, ◌<◌}
use native.Mathlib.Omega.{arith}
use borrow.Author.Tests.{leb-true, leb-false, lt-ltb, le-ltb, le-leb, lt-leb, ne_eqb}
use lib.Dec.{eqb, leb, ltb}
use lib.IntN.{ℤ, pos}
use lib.ListN.{length}
use Rattle.network.specs.declared.Row.{Row}
use Rattle.network.specs.declared.TapRow.{TapRow}
use Rattle.network.specs.Rows.{none, row_in}
use Rattle.network.specs.RowRule.{lifted}
use Rattle.network.specs.Coefficients.{with_sign, coefficient_of}
use Rattle.network.specs.TapRowRule.{is_tap_sign, is_product_of, keeps_tap_row_rule}
use Rattle.word.specs.Bounds.{within_bounds}
use Rattle.std.specs.Prelude.{Some, None}
use Rattle.std.specs.Bool.{then_some}
use Rattle.network_rules.specs.Inner.{product_of}

-- ---- a tap row

second_fails : (a b c d : Bool) → b ≡ false → (a && b && c && d) ≡ false
second_fails true b c d e = rw e
second_fails false b c d e = refl

third_fails : (a b c d : Bool) → c ≡ false → (a && b && c && d) ≡ false
third_fails true true c d e = rw e
third_fails true false c d e = refl
third_fails false b c d e = refl

others : (a b c d : Bool) → b ≡ true → c ≡ true → (a && d) ≡ (a && b && c && d)
others true b c d e f = rw (e, f)
others false b c d e f = refl

empty_sign : (s : ℕ) (a b d e f : Bool) (z : ℤ) → s ≡ none
    → then_some (a && b) (pos 0) ≡ then_some (eqb s none && a && b || is_tap_sign s && d && e && f) (with_sign s z)
empty_sign s a b d e f z h = rw h (ap (λ (x : Bool). then_some x (pos 0)) (sym (or-false (a && b))))

module _ (rows : List Row) (t : TapRow) where
  -- k is the number of the row, and b whether it and the shift are 0
  pub tap_empty : t.sign ≡ none → (k : ℕ) → k ≡ t.row → (b : Bool) → (eqb k 0 && eqb t.shift 0) ≡ b → then_some b (pos 0) ≡ product_of rows t
  unfolding product_of keeps_tap_row_rule coefficient_of
  tap_empty e k q b f =
      ap (λ (x : Bool). then_some x (pos 0)) (sym f ∙ ap (λ (j : ℕ). eqb j 0 && eqb t.shift 0) q)
      ∙ empty_sign t.sign (eqb t.row 0) (eqb t.shift 0) (ltb t.row (length rows)) (leb t.shift 31) (within_bounds (coefficient_of rows t)) _ e

  module _ (n : t.sign ≡ none → ⊥) where
    not_empty : keeps_tap_row_rule rows t ≡ is_product_of rows t
    unfolding keeps_tap_row_rule
    not_empty = ap (λ (b : Bool). b && eqb t.row 0 && eqb t.shift 0 || is_product_of rows t) (ne_eqb t.sign none n)

    product_is : then_some (is_product_of rows t) (coefficient_of rows t) ≡ product_of rows t
    unfolding product_of
    product_is = ap (λ (b : Bool). then_some b (coefficient_of rows t)) (sym not_empty)

    pub tap_row : length rows ≤ t.row → None ≡ product_of rows t
    tap_row l =
        ap (λ (b : Bool). then_some b (coefficient_of rows t)) (sym (second_fails (is_tap_sign t.sign) (ltb t.row (length rows)) (leb t.shift 31) (within_bounds (coefficient_of rows t)) (le-ltb t.row (length rows) l)))
        ∙ product_is

    tap_shift : 31 < t.shift → None ≡ product_of rows t
    tap_shift l =
        ap (λ (b : Bool). then_some b (coefficient_of rows t)) (sym (third_fails (is_tap_sign t.sign) (ltb t.row (length rows)) (leb t.shift 31) (within_bounds (coefficient_of rows t)) (lt-leb t.shift 31 l)))
        ∙ product_is

    tap_signed : t.row < length rows → t.shift ≤ 31 → then_some (is_tap_sign t.sign && within_bounds (coefficient_of rows t)) (coefficient_of rows t) ≡ product_of rows t
    tap_signed l m =
        ap (λ (b : Bool). then_some b (coefficient_of rows t))
        (others (is_tap_sign t.sign) (ltb t.row (length rows)) (leb t.shift 31) (within_bounds (coefficient_of rows t)) (lt-ltb t.row (length rows) l) (le-leb t.shift 31 m))
        ∙ product_is

    -- p is the number of the code
    pub tap_tests : t.row < length rows → (p : ℕ) → p ≡ lifted (t.shift % 32) (row_in rows t.row).value
        → then_some (leb t.shift 31 && is_tap_sign t.sign && within_bounds (with_sign t.sign (pos p))) (with_sign t.sign (pos p)) ≡ product_of rows t
    unfolding coefficient_of
    tap_tests l p e = go (leb t.shift 31) refl
      where
        go : (q : Bool) → leb t.shift 31 ≡ q → then_some (q && is_tap_sign t.sign && within_bounds (with_sign t.sign (pos p))) (with_sign t.sign (pos p)) ≡ product_of rows t
        go true f =
            let m : t.shift ≤ 31 = leb-true t.shift 31 f in
            let g : t.shift % 32 ≡ t.shift = omega arith in
            let h : p ≡ lifted t.shift (row_in rows t.row).value = e ∙ ap (λ (n : ℕ). lifted n (row_in rows t.row).value) g in
            ap (λ (n : ℕ). then_some (is_tap_sign t.sign && within_bounds (with_sign t.sign (pos n))) (with_sign t.sign (pos n))) h ∙ tap_signed l m
        go false f = tap_shift (leb-false t.shift 31 f)

-- ---- what a product that was read tells

if_coefficient : (b : Bool) (z y : ℤ) → then_some b z ≡ Some y → (b ≡ true) × (y ≡ z)
if_coefficient true z y e = (refl, cc)
if_coefficient false z y e = let q : ◌≡◌ {A = ℕ} 0 1 = cc in absurd (omega arith)

if_broken : (b : Bool) (z : ℤ) → then_some b z ≡ None → b ≡ false
if_broken true z e = let q : ◌≡◌ {A = ℕ} 0 1 = cc in absurd (omega arith)
if_broken false z e = refl

pub product_kept : (rows : List Row) (t : TapRow) (y : ℤ) → product_of rows t ≡ Some y → (keeps_tap_row_rule rows t ≡ true) × (y ≡ coefficient_of rows t)
unfolding product_of
product_kept rows t y e = if_coefficient (keeps_tap_row_rule rows t) (coefficient_of rows t) y e

pub product_broken : (rows : List Row) (t : TapRow) → product_of rows t ≡ None → keeps_tap_row_rule rows t ≡ false
unfolding product_of
product_broken rows t e = if_broken (keeps_tap_row_rule rows t) (coefficient_of rows t) e
