-- A running call as C sees it. Definitions only.
use Rattle.std.specs.Prelude.{◌≡◌, List, ℕ, ℤ}
use Rattle.refusal.specs.Answer.{Answer}
use Rattle.run_calls.specs.Run.{Ran}
use Rattle.fir_words.specs.Words.{refusal_word_of}

-- the word that C receives is that of an answer with which `run` may leave r' and o': the contract of `fir_run`
pub record RanWord (rows : List ℕ) (row_count_of : ℕ) (taps : List ℕ) (tap_count : ℕ) (samples : List ℤ) (r : List ℕ) (o : List ℤ) (received : ℕ) (r' : List ℕ) (o' : List ℤ)
    : Type 0 where
  pub answer : Answer (Unit {0})
  pub word : received ≡ refusal_word_of answer
  pub ran : Ran rows row_count_of taps tap_count samples r o answer r' o'
