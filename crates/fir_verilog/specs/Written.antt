-- A network written as Verilog text as C sees it. Definitions only.
use Rattle.std.specs.Prelude.{◌≡◌, List, ℕ}
use Rattle.refusal.specs.Answer.{Answer, stored}
use Rattle.verilog_text.specs.Written.{VerilogWritten}
use Rattle.fir_words.specs.Words.{refusal_word_of}

-- the word that C receives and the lent length are those of an answer with which `write_verilog` may leave area': the contract of `fir_verilog`
pub record WrittenWord (rows : List ℕ) (row_count_of : ℕ) (taps : List ℕ) (tap_count : ℕ) (area : List ℕ) (size received : ℕ) (area' : List ℕ) (size' : ℕ) : Type 0 where
  pub answer : Answer ℕ
  pub word : received ≡ refusal_word_of answer
  pub length : size' ≡ stored answer (λ (n : ℕ). n) size
  pub written : VerilogWritten rows row_count_of taps tap_count area answer area'
