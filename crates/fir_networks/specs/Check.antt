-- The check of a network and the reading of its coefficients as C sees them. Definitions only.
use Rattle.std.specs.Prelude.{◌≡◌, List, ℕ, ℤ}
use Rattle.refusal.specs.Answer.{Answer}
use Rattle.network.specs.Checked.{NetworkChecked, CoefficientsRead}
use Rattle.fir_words.specs.Words.{refusal_word_of}

-- the word that C receives is that of the answer of `check`: the contract of `fir_check`
pub record CheckedWord (rows : List ℕ) (row_count_of : ℕ) (taps : List ℕ) (tap_count received : ℕ) : Type 0 where
  pub answer : Answer (Unit {0})
  pub word : received ≡ refusal_word_of answer
  pub checked : NetworkChecked rows row_count_of taps tap_count answer

-- the word that C receives is that of an answer with which `coefficients` may leave table': the contract of `fir_coefficients`
pub record CoefficientsWord (rows : List ℕ) (row_count_of : ℕ) (taps : List ℕ) (tap_count : ℕ) (table : List ℤ) (received : ℕ) (table' : List ℤ) : Type 0 where
  pub answer : Answer (Unit {0})
  pub word : received ≡ refusal_word_of answer
  pub read : CoefficientsRead rows row_count_of taps tap_count table answer table'
