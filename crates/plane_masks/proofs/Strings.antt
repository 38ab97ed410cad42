-- The string that two tables hold for a cell: its value is the sum of the scaled planes, and where the cell overlaps in no plane, its masks are those that the
-- tables hold. Assumes nothing.
use mathlib.Core.Path.{◌≡◌, refl, sym, ap, ap₂, ◌∙◌, subst}
use mathlib.Core.Bool.{Bool, true, false, ◌||◌, ◌&&◌, true≢false}
use mathlib.Core.List.{List}
use Prim.Native.Nat.{ℕ, zero, suc, ◌+◌, ◌<◌, ◌^◌}
use native.Mathlib.Omega.{arith}
use borrow.Author.Tests.{eqb-true, eqb-false, eq-eqb}
use lib.Dec.{eqb}
use lib.IntN.{ℤ, pos, ◌+ℤ◌, ◌*ℤ◌}
use lib.ListN.{length}
use Rattle.refusal.specs.Answer.{given}
use Rattle.refusal.proofs.Checks.{neither}
use Rattle.sequence.specs.Sum.{sum_below}
use Rattle.sequence.proofs.UpTo.{length_up_to, get_d_up_to}
use Rattle.signed_digit.specs.Digit.{Digit, digit_value, nought}
use Rattle.signed_digit.specs.String.{digit_at}
use Rattle.signed_digit.specs.Masks.{plus_bit, minus_bit, plus_mask, minus_mask, digit_of}
use Rattle.signed_digit.specs.Value.{term, value}
use Rattle.signed_digit.proofs.Strings.{small}
use Rattle.signed_digit.proofs.Masks.{masks_bits, masks_disjoint}
use Rattle.form_masks.specs.declared.Form.{Form}
use Rattle.form_masks.specs.Form.{form_of, string_of, TwoMasks}
use Rattle.form_masks.specs.Value.{value_of}
use Rattle.form_masks.proofs.Forms.{string_form, form_value}
use Rattle.plane_masks.specs.Binary.{bit_at}
use Rattle.plane_masks.specs.Planes.{plane_bit, digit_in, cell_string, scaled_sum, cell_mask}
use Rattle.plane_masks.specs.Grid.{any_below, overlaps}
use Rattle.plane_masks.specs.Claims.{InBoth, Apart}
use Rattle.plane_masks.proofs.Binary.{bit_small, binary_ext, binary_whole}

sum_ext : (n : ℕ) (f g : ℕ → ℤ) → ((i : ℕ) → i < n → f i ≡ g i) → sum_below n f ≡ sum_below n g
sum_ext zero f g h = refl
sum_ext (suc n) f g h = ap₂ (λ (x y : ℤ). x +ℤ y) (sum_ext n f g (λ i l. h i (omega arith))) (h n (omega arith))

-- ---- a test below a number
pub none_below : (n : ℕ) (f : ℕ → Bool) → ((i : ℕ) → i < n → f i ≡ false) → any_below n f ≡ false
none_below zero f h = refl
none_below (suc n) f h = ap₂ (λ (a b : Bool). a || b) (none_below n f (λ i l. h i (omega arith))) (h n (omega arith))

below_none : (n : ℕ) (f : ℕ → Bool) → any_below n f ≡ false → (i : ℕ) → i < n → f i ≡ false
below_none zero f e i h = absurd (omega arith)
below_none (suc n) f e i h = go (λ (l : i < n). below_none n f (neither (any_below n f) (f n) e).0 i l) (eqb i n) refl
  where
    less : (i n : ℕ) → i < suc n → (i ≡ n → ⊥) → i < n
    less i n h d = omega arith

    go : (i < n → f i ≡ false) → (t : Bool) → eqb i n ≡ t → f i ≡ false
    go ih true q = ap f (eqb-true i n q) ∙ (neither (any_below n f) (f n) e).1
    go ih false q = ih (less i n h (eqb-false i n q))

below_some : (n : ℕ) (f : ℕ → Bool) → any_below n f ≡ true → (i : ℕ) × (i < n) × (f i ≡ true)
below_some zero f e = absurd (true≢false (sym e))
below_some (suc n) f e = go (any_below n f) refl (below_some n f) e
  where
    go : (b : Bool) → any_below n f ≡ b → (any_below n f ≡ true → (i : ℕ) × (i < n) × (f i ≡ true)) → (b || f n) ≡ true → (i : ℕ) × (i < suc n) × (f i ≡ true)
    go true q ih e = let r = ih q in (r.0, omega (arith, r.1), r.2)
    go false q ih e = (n, omega arith, e)

-- ---- a cell that overlaps in no plane
module _ (plus minus : List ℕ) (c : ℕ) where
  plus_small : (p : ℕ) → plane_bit plus p c < 2
  plus_small p = bit_small _ _

  minus_small : (p : ℕ) → plane_bit minus p c < 2
  minus_small p = bit_small _ _

  both_true : (a b : Bool) → (a && b) ≡ true → (a ≡ true) × (b ≡ true)
  both_true true b e = (refl, e)
  both_true false b e = absurd (true≢false (sym e))

  -- the test of a plane
  abbrev shared : ℕ → Bool
  shared p = eqb (plane_bit plus p c) 1 && eqb (plane_bit minus p c) 1

  in_both : (p : ℕ) → shared p ≡ true → InBoth plus minus c p
  in_both p e =
      let b = both_true (eqb (plane_bit plus p c) 1) (eqb (plane_bit minus p c) 1) e in
      record { in_plus = eqb-true (plane_bit plus p c) 1 b.0; in_minus = eqb-true (plane_bit minus p c) 1 b.1 }

  is_shared : (p : ℕ) → InBoth plus minus c p → shared p ≡ true
  is_shared p o = ap₂ (λ (a b : Bool). a && b) (eq-eqb (plane_bit plus p c) 1 o.in_plus) (eq-eqb (plane_bit minus p c) 1 o.in_minus)

  pub not_apart : overlaps plus minus c ≡ true → (p : ℕ) × (p < 32) × InBoth plus minus c p
  unfolding overlaps
  not_apart e = let r = below_some 32 shared e in (r.0, r.1, in_both r.0 r.2)

  pub are_apart : overlaps plus minus c ≡ false → Apart plus minus c
  unfolding overlaps
  are_apart e p h o = true≢false (sym (is_shared p o) ∙ below_none 32 shared e p h)

  pub apart_is : Apart plus minus c → overlaps plus minus c ≡ false
  unfolding overlaps
  apart_is a = none_below 32 shared (λ p h. go p h (shared p) refl)
    where
      go : (p : ℕ) → p < 32 → (t : Bool) → shared p ≡ t → shared p ≡ false
      go p h true e = absurd (a p h (in_both p e))
      go p h false e = e

  -- ---- its string
  pub string_length : length (cell_string plus minus c) ≡ 32
  unfolding cell_string
  string_length = length_up_to 32 (λ (p : ℕ). digit_in plus minus p c)

  string_digit : (p : ℕ) → p < 32 → digit_at (cell_string plus minus c) p ≡ digit_in plus minus p c
  unfolding cell_string
  string_digit p h = get_d_up_to 32 (λ (p : ℕ). digit_in plus minus p c) nought p h

  pub scaled_value : scaled_sum plus minus c ≡ value (cell_string plus minus c)
  unfolding scaled_sum value
  scaled_value =
      sum_ext 32 (λ (p : ℕ). digit_value (digit_in plus minus p c) *ℤ pos (2 ^ p)) (term (cell_string plus minus c))
      (λ p h. ap (λ (d : Digit). digit_value d *ℤ pos (2 ^ p)) (sym (string_digit p h)))
      ∙ ap (λ (n : ℕ). sum_below n (term (cell_string plus minus c))) (sym string_length)

  -- ---- and its masks
  module _ (apart : Apart plus minus c) where
    plus_bit_lem : (x y : ℕ) → x < 2 → y < 2 → (x + y ≡ 2 → ⊥) → plus_bit (digit_of x y) ≡ x
    plus_bit_lem zero zero h k n = refl
    plus_bit_lem zero (suc y) h k n = refl
    plus_bit_lem (suc x) y h k n = omega arith

    minus_bit_lem : (x y : ℕ) → x < 2 → y < 2 → (x + y ≡ 2 → ⊥) → minus_bit (digit_of x y) ≡ y
    minus_bit_lem zero zero h k n = refl
    minus_bit_lem zero (suc y) h k n = omega arith
    minus_bit_lem (suc x) zero h k n = refl
    minus_bit_lem (suc x) (suc y) h k n = absurd (n (omega arith))

    not_two : (p : ℕ) → p < 32 → plane_bit plus p c + plane_bit minus p c ≡ 2 → ⊥
    not_two p h e =
        let x = plus_small p in
        let y = minus_small p in
        apart p h (record { in_plus = omega (arith, x, y, e); in_minus = omega (arith, x, y, e) })

    fits : plus_mask (cell_string plus minus c) + minus_mask (cell_string plus minus c) < 2 ^ 32
    fits = omega (arith, small (cell_string plus minus c), ap (λ (n : ℕ). 2 ^ n) string_length)

    plus_mask_lem : plus_mask (cell_string plus minus c) ≡ cell_mask plus c
    unfolding cell_mask
    plus_mask_lem =
        sym (binary_whole 32 (plus_mask (cell_string plus minus c)) (omega (arith, fits)))
        ∙ binary_ext 32 (bit_at (plus_mask (cell_string plus minus c))) (λ (p : ℕ). plane_bit plus p c)
        (λ p h. (masks_bits (cell_string plus minus c) p).0 ∙ ap plus_bit (string_digit p h) ∙ plus_bit_lem (plane_bit plus p c) (plane_bit minus p c) (plus_small p) (minus_small p) (not_two p h))

    minus_mask_lem : minus_mask (cell_string plus minus c) ≡ cell_mask minus c
    unfolding cell_mask
    minus_mask_lem =
        sym (binary_whole 32 (minus_mask (cell_string plus minus c)) (omega (arith, fits)))
        ∙ binary_ext 32 (bit_at (minus_mask (cell_string plus minus c))) (λ (p : ℕ). plane_bit minus p c)
        (λ p h. (masks_bits (cell_string plus minus c) p).1 ∙ ap minus_bit (string_digit p h) ∙ minus_bit_lem (plane_bit plus p c) (plane_bit minus p c) (plus_small p) (minus_small p) (not_two p h))

    abbrev cell_form : Form
    cell_form = record { plus = cell_mask plus c; minus = cell_mask minus c }

    pub form_is : form_of (cell_string plus minus c) ≡ cell_form
    form_is = ap₂ (λ (x y : ℕ). record { plus = x; minus = y }) plus_mask_lem minus_mask_lem

    pub string_is : string_of cell_form ≡ cell_string plus minus c
    string_is = ap string_of (sym form_is) ∙ string_form (cell_string plus minus c) string_length

    pub value_is : value_of cell_form ≡ given (scaled_sum plus minus c)
    value_is = ap value_of (sym form_is) ∙ form_value (cell_string plus minus c) string_length ∙ ap given (sym scaled_value)

    pub two_masks : TwoMasks cell_form
    two_masks = subst TwoMasks form_is (record { plus_32 = omega (arith, fits); minus_32 = omega (arith, fits); no_place_in_both = masks_disjoint (cell_string plus minus c) })
