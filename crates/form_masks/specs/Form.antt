-- A form by its two masks. Document 01: "A form is stored as two 32-bit masks: places holding 1 and places holding -1. No place is in
-- both." Definitions only.
use Rattle.std.specs.Prelude.{◌≡◌, ℕ, zero, suc, ◌<◌, ◌^◌, true, false, ◌&&◌, List, [], ◌∷◌, ℤ}
use Rattle.std.specs.Int.Bits.{bit_and}
use Rattle.refusal.specs.Answer.{Place, lowest}
use Rattle.signed_digit.specs.String.{DigitString}
use Rattle.signed_digit.specs.Masks.{plus_mask, minus_mask, holds, from_masks}
use Rattle.signed_digit.specs.CanonicalForm.{canonical}
use Rattle.form_masks.specs.declared.Form.{Form}

-- the form of a string
abbrev pub form_of : DigitString → Form
form_of s = record { plus = plus_mask s; minus = minus_mask s }

-- "A form is a string of 32 places": the one with these masks
unfoldable pub string_of : Form → DigitString
string_of form = from_masks 32 form.plus form.minus

-- "two 32-bit masks: places holding 1 and places holding -1. No place is in both."
pub record TwoMasks (form : Form) : Type 0 where
  pub plus_32 : form.plus < 2 ^ 32
  pub minus_32 : form.minus < 2 ^ 32
  pub no_place_in_both : bit_and form.plus form.minus ≡ 0

-- the place is in both masks, and no lower one is
pub record LowestOverlap (form : Form) (place : ℕ) : Type 0 where
  pub within : place < 32
  pub in_both : (holds form.plus place && holds form.minus place) ≡ true
  pub none_lower : (k : ℕ) → k < place → (holds form.plus k && holds form.minus k) ≡ false

-- the p places from k on
abbrev pub places_from : ℕ → ℕ → List ℕ
places_from k zero = []
places_from k (suc p) = k ∷ places_from (suc k) p

-- the lowest of p places that is in both masks
unfoldable pub overlap_in : ℕ → ℕ → ℕ → Place
overlap_in p x y = lowest (λ (place : ℕ). holds x place && holds y place) (places_from 0 p)

-- "masks overlap", at the "lowest place"
abbrev pub overlap : Form → Place
overlap form = overlap_in 32 form.plus form.minus

-- the form is the canonical one of n, "the CSD form": the contract of `canonical`, and what every claim about it speaks of
pub record InCanonicalForm (n : ℤ) (form : Form) : Type 0 where
  pub masks : form ≡ form_of (canonical 32 n)
