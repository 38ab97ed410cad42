-- A form's value and weight and the canonical form as C sees them. Definitions only.
use Rattle.std.specs.Prelude.{◌≡◌, ℕ, ℤ}
use Rattle.refusal.specs.Answer.{Answer, stored}
use Rattle.form_masks.specs.Form.{InCanonicalForm}
use Rattle.form_masks.specs.Value.{FormValued}
use Rattle.form_masks.specs.Weight.{FormWeighed}
use Rattle.fir_words.specs.Words.{refusal_word_of}

-- the word that C receives and the lent value are those of an answer of `value` for the form with these masks: the contract of `fir_form_value`
pub record FormValuedWord (plus minus : ℕ) (v : ℤ) (received : ℕ) (v' : ℤ) : Type 0 where
  pub answer : Answer ℤ
  pub word : received ≡ refusal_word_of answer
  pub value : v' ≡ stored answer (λ (a : ℤ). a) v
  pub valued : FormValued (record { plus = plus; minus = minus }) answer

-- the word that C receives and the lent weight are those of an answer of `weight` for the form with these masks: the contract of `fir_form_weight`
pub record FormWeighedWord (plus minus w received w' : ℕ) : Type 0 where
  pub answer : Answer ℕ
  pub word : received ≡ refusal_word_of answer
  pub weight : w' ≡ stored answer (λ (a : ℕ). a) w
  pub weighed : FormWeighed (record { plus = plus; minus = minus }) answer

-- nothing is turned down, and the lent masks become those of the form that `canonical` returns: the contract of `fir_canonical`
pub record InCanonicalFormWord (n : ℤ) (received plus' minus' : ℕ) : Type 0 where
  pub word : received ≡ 0
  pub canonical : InCanonicalForm n (record { plus = plus'; minus = minus' })
