-- The computed rules are the rules in document 01's words: `row_rule` and `row_kept`, `tap_rule` and `tap_kept`. Assumes nothing.
use mathlib.Core.Path.{◌≡◌, refl, sym, ap, ◌∙◌}
use mathlib.Core.Bool.{Bool, true, false, ◌||◌, false≢true}
use mathlib.Core.List.{List}
use Prim.Native.Nat.{ℕ, zero, suc, ◌-◌, ◌%◌, ◌^◌}
use borrow.Author.Tests.{ltb-true, leb-true, eqb-true, lt-ltb, le-leb, eq-eqb}
use lib.Dec.{eqb, leb, ltb}
use lib.IntN.{ℤ, pos, negsuc}
use lib.ListN.{length}
use Rattle.word.specs.Bounds.{within_bounds}
use Rattle.word.proofs.Bounds.{within_bounds_lem, bounds_within}
use Rattle.network.specs.declared.Row.{Row}
use Rattle.network.specs.declared.TapRow.{TapRow}
use Rattle.network.specs.Rows.{none, plus, row_in}
use Rattle.network.specs.RowRule.{combined, is_row_sign, lifted, FirstRow, LaterRow, RowRule, is_first_of, shift_within, is_natural, is_worked_of, value_within, is_sum_of, is_later, keeps_row_rule_of}
use Rattle.network.specs.Coefficients.{coefficient_of}
use Rattle.network.specs.TapRowRule.{is_tap_sign, EmptyTap, ProductTap, TapRowRule, is_empty_lem, is_product_lem, is_empty, is_product_of, keeps_tap_row_rule}
use Rattle.word.proofs.Booleans.{holds, is_true}
use Rattle.network.proofs.Booleans.{both, three, four, five}

-- ---- rows

pub natural_is : (z : ℤ) (n : ℕ) → is_natural z n ≡ true → pos n ≡ z
natural_is (pos m) n e = ap pos (sym (eqb-true m n e))
natural_is (negsuc m) n e = absurd (false≢true e)

pub is_natural_lem : (z : ℤ) (n : ℕ) → pos n ≡ z → is_natural z n ≡ true
is_natural_lem z n e = ap (λ (w : ℤ). is_natural w n) (sym e) ∙ eq-eqb n n refl

first_row_lem : (r : Row) → is_first_of r ≡ true → FirstRow r
first_row_lem r e =
    let p = five (eqb r.left 0) (eqb r.right 0) (eqb r.shift 0) (eqb r.sign plus) (eqb r.value 1) e in
    record {
      left = eqb-true r.left 0 p.0;
      right = eqb-true r.right 0 p.1;
      shift = eqb-true r.shift 0 p.2;
      sign = eqb-true r.sign plus p.3;
      value = eqb-true r.value 1 p.4;
    }

first_kept : (r : Row) → FirstRow r → is_first_of r ≡ true
first_kept r f = rw (f.left, f.right, f.shift, f.sign, f.value)

module _ (rows : List Row) (i : ℕ) (r : Row) where
  a : ℕ
  a = lifted r.shift (row_in rows r.left).value

  b : ℕ
  b = (row_in rows r.right).value

  later_row : is_later rows i r ≡ true → LaterRow rows i r
  unfolding a b
  later_row e =
      let l = three (ltb r.left i) (ltb r.right i) (is_sum_of r (row_in rows r.left).value b) e in
      let s = four (shift_within r.shift) (is_worked_of r.sign a b r.value) (value_within r.value) (leb a (2 ^ 32)) l.2 in
      let t = both (leb 1 r.shift) (leb r.shift 31) s.0 in
      let w = both (is_row_sign r.sign) (is_natural (combined r.sign (pos a) (pos b)) r.value) s.1 in
      let v = three (eqb (r.value % 2) 1) (leb 1 r.value) (leb r.value (2 ^ 31 - 1)) s.2 in
      record {
        left = ltb-true r.left i l.0;
        right = ltb-true r.right i l.1;
        shift_from = leb-true 1 r.shift t.0;
        shift_to = leb-true r.shift 31 t.1;
        sign = holds (is_row_sign r.sign) w.0;
        worked = natural_is (combined r.sign (pos a) (pos b)) r.value w.1;
        odd = eqb-true (r.value % 2) 1 v.0;
        value_from = leb-true 1 r.value v.1;
        value_to = leb-true r.value (2 ^ 31 - 1) v.2;
        bounded = leb-true a (2 ^ 32) s.3;
      }

  later_kept : LaterRow rows i r → is_later rows i r ≡ true
  unfolding a b
  later_kept w =
      rw (
        lt-ltb r.left i w.left,
        lt-ltb r.right i w.right,
        le-leb 1 r.shift w.shift_from,
        le-leb r.shift 31 w.shift_to,
        is_true (is_row_sign r.sign) w.sign,
        is_natural_lem (combined r.sign (pos a) (pos b)) r.value w.worked,
        eq-eqb (r.value % 2) 1 w.odd,
        le-leb 1 r.value w.value_from,
        le-leb r.value (2 ^ 31 - 1) w.value_to,
        le-leb a (2 ^ 32) w.bounded,
      )

pub row_rule : (rows : List Row) (i : ℕ) → keeps_row_rule_of rows i ≡ true → RowRule rows i
unfolding keeps_row_rule_of
row_rule rows zero e = first_row_lem (row_in rows 0) e
row_rule rows (suc i) e = later_row rows (suc i) (row_in rows (suc i)) e

pub row_kept : (rows : List Row) (i : ℕ) → RowRule rows i → keeps_row_rule_of rows i ≡ true
unfolding keeps_row_rule_of
row_kept rows zero w = first_kept (row_in rows 0) w
row_kept rows (suc i) w = later_kept rows (suc i) (row_in rows (suc i)) w

-- ---- tap rows

pub empty_tap : (t : TapRow) → is_empty t ≡ true → EmptyTap t
empty_tap t e =
    let p = three (eqb t.sign none) (eqb t.row 0) (eqb t.shift 0) e in
    record { sign = eqb-true t.sign none p.0; row = eqb-true t.row 0 p.1; shift = eqb-true t.shift 0 p.2 }

pub empty_kept : (t : TapRow) → EmptyTap t → is_empty t ≡ true
empty_kept t w = rw (w.sign, w.row, w.shift)

product_tap : (rows : List Row) (t : TapRow) → is_product_of rows t ≡ true → ProductTap rows t
product_tap rows t e =
    let c = coefficient_of rows t in
    let p = four (is_tap_sign t.sign) (ltb t.row (length rows)) (leb t.shift 31) (within_bounds c) e in
    record {
      sign = holds (is_tap_sign t.sign) p.0;
      row = ltb-true t.row (length rows) p.1;
      shift = leb-true t.shift 31 p.2;
      bounds = bounds_within c p.3;
    }

pub tap_rule : (rows : List Row) (t : TapRow) → keeps_tap_row_rule rows t ≡ true → TapRowRule rows t
unfolding keeps_tap_row_rule
tap_rule rows t e = go (is_empty t) (is_product_of rows t) refl refl e
  where
    go : (x y : Bool) → is_empty t ≡ x → is_product_of rows t ≡ y → (x || y) ≡ true → TapRowRule rows t
    go true y p q h = is_empty_lem (empty_tap t p)
    go false true p q h = is_product_lem (product_tap rows t q)
    go false false p q h = absurd (false≢true h)

pub tap_kept : (rows : List Row) (t : TapRow) → TapRowRule rows t → keeps_tap_row_rule rows t ≡ true
unfolding keeps_tap_row_rule
tap_kept rows t (is_empty_lem w) = rw (empty_kept t w)
tap_kept rows t (is_product_lem w) = or_right (is_empty t) (is_product_of rows t) (kept_product w)
  where
    or_right : (x y : Bool) → y ≡ true → (x || y) ≡ true
    or_right true y h = refl
    or_right false y h = h

    kept_product : ProductTap rows t → is_product_of rows t ≡ true
    kept_product w =
        rw (
          is_true (is_tap_sign t.sign) w.sign,
          lt-ltb t.row (length rows) w.row,
          le-leb t.shift 31 w.shift,
          within_bounds_lem (coefficient_of rows t) w.bounds,
        )
