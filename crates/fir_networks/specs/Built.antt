-- Building as C sees it. Definitions only.
use Rattle.std.specs.Prelude.{◌≡◌, List, ℕ, ℤ}
use Rattle.refusal.specs.Answer.{Answer, stored}
use Rattle.build_steps.specs.Built.{BuiltInto}
use Rattle.fir_words.specs.Words.{refusal_word_of}

-- the word that C receives and the lent row count are those of an answer with which `build` may leave rows' and taps': the contract of `fir_build`
pub record BuiltWord (coefficients : List ℤ) (choices rows taps : List ℕ) (count received : ℕ) (rows' taps' : List ℕ) (count' : ℕ) : Type 0 where
  pub answer : Answer ℕ
  pub word : received ≡ refusal_word_of answer
  pub row_count : count' ≡ stored answer (λ (k : ℕ). k) count
  pub built : BuiltInto coefficients choices rows taps answer rows' taps'
