-- A form's string by its two masks. Assumes nothing.
use mathlib.Core.Path.{◌≡◌, refl, sym, ap, ap₂, ◌∙◌}
use Prim.Native.Nat.{ℕ, zero, suc, ◌/◌, ◌%◌, ◌^◌, ◌<◌, max}
use native.Mathlib.Nat.{pow-suc}
use native.Mathlib.Omega.{arith}
use lib.Bits.{bit_or, or_step}
use lib.ListN.{length}
use Rattle.signed_digit.specs.Digit.{nonzero}
use Rattle.signed_digit.specs.String.{digit_at}
use Rattle.signed_digit.specs.Masks.{mask, plus_bit, digit_of, from_masks}
use Rattle.signed_digit.proofs.Masks.{masks_bits, from_masks_places, from_masks_plus}
use Rattle.form_masks.specs.declared.Form.{Form}
use Rattle.form_masks.specs.Form.{string_of}

digit_counts : (a b : ℕ) → a < 2 → b < 2 → nonzero (digit_of a b) ≡ max a b
digit_counts zero zero h l = refl
digit_counts zero (suc zero) h l = refl
digit_counts zero (suc (suc b)) h l = absurd (omega arith)
digit_counts (suc zero) zero h l = refl
digit_counts (suc zero) (suc zero) h l = refl
digit_counts (suc zero) (suc (suc b)) h l = absurd (omega arith)
digit_counts (suc (suc a)) b h l = absurd (omega arith)

union_mask : (p x y : ℕ) → x < 2 ^ p → y < 2 ^ p → mask nonzero (from_masks p x y) ≡ bit_or x y
union_mask zero x y h l =
    let a : 0 ≡ x = omega arith in
    let b : 0 ≡ y = omega arith in
    ap₂ bit_or a b
union_mask (suc p) x y h l =
    let a = digit_counts (x % 2) (y % 2) (omega arith) (omega arith) in
    let r = union_mask p (x / 2) (y / 2) (omega (arith, pow-suc 2 p)) (omega (arith, pow-suc 2 p)) in
    omega (arith, a, r, or_step x y)

module _ (form : Form) where
  pub string_places : length (string_of form) ≡ 32
  unfolding string_of
  string_places = from_masks_places 32 form.plus form.minus

  module _ (p : form.plus < 2 ^ 32) where
    pub string_mask : form.minus < 2 ^ 32 → mask nonzero (string_of form) ≡ bit_or form.plus form.minus
    unfolding string_of
    string_mask m = union_mask 32 form.plus form.minus p m

    pub plus_bit_lem : (q : ℕ) → form.plus / 2 ^ q % 2 ≡ plus_bit (digit_at (string_of form) q)
    unfolding string_of
    plus_bit_lem q = ap (λ (x : ℕ). x / 2 ^ q % 2) (sym (from_masks_plus 32 form.plus form.minus p)) ∙ (masks_bits (from_masks 32 form.plus form.minus) q).0
