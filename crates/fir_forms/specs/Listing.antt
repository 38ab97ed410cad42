-- The forms of a coefficient as C sees them. Definitions only.
use Rattle.std.specs.Prelude.{◌≡◌, List, ℕ, ℤ}
use Rattle.refusal.specs.Answer.{Answer, stored}
use Rattle.signed_digit.specs.Listed.{FormsListed, FormsCounted}
use Rattle.fir_words.specs.Words.{refusal_word_of}

-- the word that C receives and the lent form count are those of an answer with which `minimal_forms` may leave plus' and minus': the contract of
-- `fir_minimal_forms`
pub record FormsListedWord (n : ℤ) (plus minus : List ℕ) (count received : ℕ) (plus' minus' : List ℕ) (count' : ℕ) : Type 0 where
  pub answer : Answer ℕ
  pub word : received ≡ refusal_word_of answer
  pub form_count : count' ≡ stored answer (λ (k : ℕ). k) count
  pub listed : FormsListed n plus minus answer plus' minus'

-- nothing is turned down, and the lent number becomes what `form_count` returns: the contract of `fir_form_count`
pub record FormsCountedWord (n : ℤ) (received count' : ℕ) : Type 0 where
  pub word : received ≡ 0
  pub counted : FormsCounted n count'
