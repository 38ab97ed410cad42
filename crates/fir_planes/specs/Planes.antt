-- Planes written and read as C sees it. Definitions only.
use Rattle.std.specs.Prelude.{◌≡◌, List, ℕ, ℤ}
use Rattle.refusal.specs.Answer.{Answer}
use Rattle.plane_masks.specs.Written.{PlanesWritten, PlanesRead}
use Rattle.fir_words.specs.Words.{refusal_word_of}

-- the word that C receives is that of an answer with which `write_planes` may leave plus' and minus': the contract of `fir_write_planes`
pub record PlanesWrittenWord (height width : ℕ) (coefficients : List ℤ) (choices plus minus : List ℕ) (received : ℕ) (plus' minus' : List ℕ) : Type 0 where
  pub answer : Answer (Unit {0})
  pub word : received ≡ refusal_word_of answer
  pub written : PlanesWritten height width coefficients choices plus minus answer plus' minus'

-- the word that C receives is that of an answer with which `read_planes` may leave first' and second': the contract of `fir_read_planes`
pub record PlanesReadWord (height width : ℕ) (plus minus first second : List ℕ) (received : ℕ) (first' second' : List ℕ) : Type 0 where
  pub answer : Answer (Unit {0})
  pub word : received ≡ refusal_word_of answer
  pub read : PlanesRead height width plus minus first second answer first' second'
