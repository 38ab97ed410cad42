-- Forms and strings, there and back: a form read back gives its string's value and weight, and a string's form gives the string. Assumes nothing.
use mathlib.Core.Path.{◌≡◌, sym, ap, ap₂, ◌∙◌}
use mathlib.Core.Bool.{Bool, true, false, cond}
use Prim.Native.Nat.{ℕ, zero, suc, ◌+◌, ◌-◌, ◌<◌, ◌^◌}
use native.Mathlib.Omega.{arith}
use lib.Bits.{bit_and, bit_or}
use lib.Count.{ones}
use lib.Dec.{ltb}
use lib.IntN.{pos, negsuc, ◌-ℤ◌}
use lib.ListN.{length}
use lib.Signed.{mag}
use mir.Syntax.{w64}
use mir.Val.{SFits}
use Rattle.refusal.specs.declared.Refusal.{Refusal}
use Rattle.refusal.specs.Table.{place_of}
use Rattle.refusal.specs.Answer.{Answer, given, refused, turned_down_of, refuse_at, Place}
use Rattle.signed_digit.specs.String.{DigitString}
use Rattle.signed_digit.specs.Value.{value}
use Rattle.signed_digit.specs.Weight.{weight}
use Rattle.signed_digit.specs.Masks.{plus_mask, minus_mask, from_masks}
use Rattle.signed_digit.proofs.Value.{value_masks}
use Rattle.signed_digit.proofs.Masks.{masks_disjoint, masks_string, masks_weight, from_masks_plus, from_masks_minus}
use Rattle.form_masks.specs.declared.Form.{Form}
use Rattle.form_masks.specs.Form.{form_of, string_of, overlap_in, overlap}
use Rattle.form_masks.specs.Inner.{OverlapTold}
use Rattle.form_masks.specs.Value.{value_of}
use Rattle.form_masks.specs.Weight.{weight_of}
use Rattle.form_masks.proofs.Weights.{union_weight}
use Rattle.form_masks.proofs.Overlap.{overlap_and, lowest_nowhere}

-- ---- the check 8, by the bitwise and of the masks
pub overlapping : {A : Type 0} (form : Form) (refusal : Refusal) (rest : Answer A) → OverlapTold form refusal → turned_down_of refusal ≡ refuse_at (overlap form) 8 rest
overlapping form refusal rest t = ap (λ (n : ℕ). refused n (place_of refusal)) t.number ∙ ap (λ (p : Place). refuse_at p 8 rest) t.place

module _ {A : Type 0} (x y : ℕ) (rest : Answer A) where
  pub disjoint : bit_and x y ≡ 0 → rest ≡ refuse_at (overlap_in 32 x y) 8 rest
  disjoint z = sym (ap (λ (p : Place). refuse_at p 8 rest) (overlap_and 32 x y ∙ lowest_nowhere 32 (bit_and x y) z))

-- ---- the string of two masks with no place in common
module _ (form : Form) (hx : form.plus < 2 ^ 32) (hy : form.minus < 2 ^ 32) (z : bit_and form.plus form.minus ≡ 0) where
  pub string_plus : plus_mask (string_of form) ≡ form.plus
  unfolding string_of
  string_plus = from_masks_plus 32 form.plus form.minus hx

  pub string_minus : minus_mask (string_of form) ≡ form.minus
  unfolding string_of
  string_minus = from_masks_minus 32 form.plus form.minus hy z

  pub form_string : form_of (string_of form) ≡ form
  form_string = ap₂ (λ (x y : ℕ). record { plus = x; minus = y }) string_plus string_minus

  -- "Its value is the first mask minus the second"
  pub string_value : value (string_of form) ≡ pos form.plus -ℤ pos form.minus
  string_value = value_masks (string_of form) ∙ ap₂ (λ (x y : ℕ). pos x -ℤ pos y) string_plus string_minus

  pub string_weight : weight (string_of form) ≡ ones form.plus + ones form.minus
  string_weight = sym (masks_weight (string_of form)) ∙ ap₂ (λ (x y : ℕ). ones x + ones y) string_plus string_minus

  pub string_union : weight (string_of form) ≡ ones (bit_or form.plus form.minus)
  string_union = sym (union_weight (string_of form)) ∙ ap₂ (λ (x y : ℕ). ones (bit_or x y)) string_plus string_minus

-- the difference of two 32-bit masks is a 64-bit number
pub difference_fits : (x y : ℕ) → x < 2 ^ 32 → y < 2 ^ 32 → SFits w64 (pos x -ℤ pos y)
difference_fits x zero h k = record { sfits = omega arith }
difference_fits x (suc y) h k = record { sfits = below (ltb x (suc y)) }
  where
    below : (b : Bool) → mag (cond b (negsuc (suc y - suc x)) (pos (x - suc y))) < 2 ^ 63
    below true = omega arith
    below false = omega arith

-- ---- the form of a string of 32 places
module _ (s : DigitString) (l : length s ≡ 32) where
  pub string_form : string_of (form_of s) ≡ s
  unfolding string_of
  string_form = ap (λ (p : ℕ). from_masks p (plus_mask s) (minus_mask s)) (sym l) ∙ masks_string s

  pub form_value : value_of (form_of s) ≡ given (value s)
  unfolding value_of
  form_value = sym (disjoint (plus_mask s) (minus_mask s) (given (value (string_of (form_of s)))) (masks_disjoint s)) ∙ ap (λ (t : DigitString). given (value t)) string_form

  pub form_weight : weight_of (form_of s) ≡ given (weight s)
  unfolding weight_of
  form_weight = sym (disjoint (plus_mask s) (minus_mask s) (given (weight (string_of (form_of s)))) (masks_disjoint s)) ∙ ap (λ (t : DigitString). given (weight t)) string_form
