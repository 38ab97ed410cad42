-- Rounding taps as C sees it. Definitions only.
use Rattle.std.specs.Prelude.{◌≡◌, List, Bool, not, ℕ, ◌*◌, ◌^◌, eqb, ℤ, Float}
use Rattle.std.specs.Float.{binary64}
use Rattle.std.specs.Float.Ieee.{of_bits, to_bits}
use Rattle.std.specs.Int.{w32}
use Rattle.std.proofs.Common.{of_z}
use Rattle.refusal.specs.Answer.{Answer, given, refused, stored}
use Rattle.tap.specs.Rounding.{TapResult, whole_of, TapRounded}
use Rattle.tap_set.specs.declared.Report.{Report}
use Rattle.tap_set.specs.Set.{TapsRounded}
use Rattle.fir_words.specs.Words.{refusal_word_of}

-- document 01: "refusal number (0 for none) in the upper half, N's 32-bit pattern in the lower (0 when turned down)"
abbrev pub tap_word_of : Answer TapResult → ℕ
tap_word_of (given c) = of_z w32 (whole_of c)
tap_word_of (refused number place) = number * 2 ^ 32

-- a flag that C hands over: 0 is no, any other number is yes
abbrev pub is_set : ℕ → Bool
is_set n = not (eqb n 0)

-- the word that C receives is that of an answer of `round_tap` for the tap of these bits: the contract of `fir_round_tap`
pub record TapRoundedWord (F bits received : ℕ) : Type 0 where
  pub answer : Answer TapResult
  pub word : received ≡ tap_word_of answer
  pub rounded : TapRounded F (of_bits binary64 bits) answer

-- the word that C receives is that of an answer with which `round_taps` may leave table'; the divisor and the leftover are left as 64 bits each, those of the report's numbers, or on
-- a refusal the bits that were there. The contract of `fir_round_taps`
pub record TapsRoundedWord (F normalised : ℕ) (taps : List Float) (table : List ℤ) (divisor leftover received : ℕ) (table' : List ℤ)
    (divisor' leftover' : ℕ) : Type 0 where
  pub answer : Answer Report
  pub word : received ≡ refusal_word_of answer
  pub rounded : TapsRounded F (is_set normalised) taps table answer table'
  pub divisor_bits : divisor' ≡ stored answer (λ (r : Report). to_bits binary64 r.divisor) divisor
  pub leftover_bits : leftover' ≡ stored answer (λ (r : Report). to_bits binary64 r.leftover) leftover
