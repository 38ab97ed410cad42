-- What writing answers, by what the checks of the network answer. Assumes nothing.
use mathlib.Core.Path.{◌≡◌, ap}
use mathlib.Core.Bool.{false}
use mathlib.Core.List.{List}
use Prim.Native.Nat.{ℕ}
use lib.IntN.{ℤ}
use Rattle.refusal.specs.Answer.{Answer, given, refused, and_then}
use Rattle.network.specs.Check.{network_answer}
use Rattle.verilog_text.specs.Written.{text_in, length_answer, verilog_answer}

module _ (rows : List ℕ) (n : ℕ) (taps : List ℕ) (m room : ℕ) where
  pub answer_given : (h : List ℤ) → network_answer false rows n taps m ≡ given h → verilog_answer rows n taps m room ≡ length_answer room (text_in rows n taps m)
  answer_given h e = ap (λ (a : Answer (List ℤ)). and_then a (λ (g : List ℤ). length_answer room (text_in rows n taps m))) e

  pub answer_refused : (number place : ℕ) → network_answer false rows n taps m ≡ refused number place → verilog_answer rows n taps m room ≡ refused number place
  answer_refused number place e = ap (λ (a : Answer (List ℤ)). and_then a (λ (g : List ℤ). length_answer room (text_in rows n taps m))) e
