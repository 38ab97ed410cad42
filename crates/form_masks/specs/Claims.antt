-- What is claimed of forms as two masks, in document 01's words, "Digits". Statements only; proofs/Claims.antt proves `FormMaskClaims`.
use Rattle.std.specs.Prelude.{◌≡◌, ℕ, ◌+◌, ℤ, pos, ◌-ℤ◌, length}
use Rattle.std.specs.Int.Count.{ones}
use Rattle.word.specs.Bounds.{Coefficient}
use Rattle.refusal.specs.Answer.{Answer, given, refused}
use Rattle.signed_digit.specs.String.{DigitString}
use Rattle.signed_digit.specs.Value.{value}
use Rattle.signed_digit.specs.Weight.{weight}
use Rattle.signed_digit.specs.Same.{Same}
use Rattle.signed_digit.specs.Minimal.{Minimal}
use Rattle.signed_digit.specs.Canonical.{Canonical}
use Rattle.form_masks.specs.declared.Form.{Form}
use Rattle.form_masks.specs.Form.{form_of, string_of, TwoMasks, LowestOverlap, InCanonicalForm}
use Rattle.form_masks.specs.Value.{FormValued}
use Rattle.form_masks.specs.Weight.{FormWeighed}
use Rattle.form_masks.specs.Figures.{FormMaskFigures}

-- "The CSD form has no two adjacent nonzero digits .. Every 32-bit coefficient has exactly one, -2^31 included.": the form has it, and both ways lead back:
-- from the value to the digits, and from the digits to the value
pub record CanonicalOf (n : ℤ) (form : Form) : Type 0 where
  pub two_masks : TwoMasks form
  pub is_canonical : Canonical (string_of form)
  pub minimal : Minimal n (string_of form)
  pub only : (s : DigitString) → Canonical s → value s ≡ n → Same s (string_of form)
  pub read_back : (answer : Answer ℤ) → FormValued form answer → answer ≡ given n
  pub weighs : (answer : Answer ℕ) → FormWeighed form answer → answer ≡ given (weight (string_of form))

pub record FormMaskClaims : Type 0 where
  -- "A form is a string of 32 places", "stored as two 32-bit masks": from digits to masks and back, and from masks to digits and back
  pub string_form : (s : DigitString) → length s ≡ 32 → string_of (form_of s) ≡ s
  pub form_string : (form : Form) → TwoMasks form → form_of (string_of form) ≡ form
  -- "Its value is the first mask minus the second, as a 64-bit signed number."
  pub masks_valued : (form : Form) → TwoMasks form → (answer : Answer ℤ) → FormValued form answer → answer ≡ given (pos form.plus -ℤ pos form.minus)
  pub string_valued : (s : DigitString) → length s ≡ 32 → (answer : Answer ℤ) → FormValued (form_of s) answer → answer ≡ given (value s)
  -- "Weight is the number of nonzero digits."
  pub masks_weighed : (form : Form) → TwoMasks form → (answer : Answer ℕ) → FormWeighed form answer → answer ≡ given (ones form.plus + ones form.minus)
  pub string_weighed : (s : DigitString) → length s ≡ 32 → (answer : Answer ℕ) → FormWeighed (form_of s) answer → answer ≡ given (weight s)
  -- "8, lowest place": "masks overlap"
  pub value_refused : (form : Form) (place : ℕ) → LowestOverlap form place → (answer : Answer ℤ) → FormValued form answer → answer ≡ refused 8 place
  pub weight_refused : (form : Form) (place : ℕ) → LowestOverlap form place → (answer : Answer ℕ) → FormWeighed form answer → answer ≡ refused 8 place
  -- "The CSD form"
  pub canonical_of : (n : ℤ) → Coefficient n → (form : Form) → InCanonicalForm n form → CanonicalOf n form
  -- worked examples
  pub worked_forms : FormMaskFigures
