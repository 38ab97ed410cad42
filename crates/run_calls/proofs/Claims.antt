-- The claims about running calls, proved. Assumes nothing.
use mathlib.Core.Path.{◌≡◌, ap, ◌∙◌}
use mathlib.Core.Bool.{false, ◌||◌}
use mathlib.Core.List.{List}
use Prim.Native.Nat.{ℕ, ◌≤◌}
use native.Mathlib.Omega.{arith}
use lib.Dec.{ltb}
use lib.IntN.{ℤ, pos}
use lib.ListN.{length, get_or, drop, get_or-append}
use Rattle.refusal.specs.Answer.{Answer, given}
use Rattle.run_convolution.specs.Running.{outputs_of}
use Rattle.run_convolution.specs.Bounds.{Words}
use Rattle.run_convolution.proofs.Words.{wrapped_lt, turns, wrapped_congruent}
use Rattle.run_convolution.proofs.Steps.{length_outputs}
use Rattle.run_convolution.proofs.Theorems.{registers_any, outputs_any}
use Rattle.network.specs.Rows.{network_of}
use Rattle.network.specs.Coefficients.{coefficients}
use Rattle.network.specs.Check.{network_answer}
use Rattle.network.specs.Checked.{NetworkChecked}
use Rattle.network.proofs.Passed.{given_accepted}
use Rattle.network.proofs.Refusals.{outcome_refusals}
use Rattle.network.proofs.Given.{given_length, outcome_given}
use Rattle.run_calls.specs.Run.{Ran, run_answer, run_registers, run_outputs}
use Rattle.run_calls.specs.Claims.{AnyContent, RunningClaims}
use Rattle.run_calls.proofs.Theorem.{running_sums}

module _ (rows : List ℕ) (n : ℕ) (taps : List ℕ) (m : ℕ) (xs : List ℤ) (r : List ℕ) (o : List ℤ) (r' : List ℕ) (o' : List ℤ) (w : Words r)
    (ran : Ran rows n taps m xs r o (given tt) r' o') where
  abbrev answer : Answer (List ℤ)
  answer = run_answer rows n taps m xs (length r) (length o)

  abbrev h : List ℤ
  h = coefficients (network_of rows n taps m)

  accepted : answer ≡ given h
  accepted = outcome_given (ltb (length r) 256 || ltb (length o) (length xs)) rows n taps m ran.answer

  few : length h ≤ 256
  few =
      let short = ltb (length r) 256 || ltb (length o) (length xs) in
      omega (arith, given_length short rows n taps m h accepted, (given_accepted short rows n taps m h accepted).taps_to)

  any_content : AnyContent h xs r r' o'
  any_content = record {
    registers = λ k l. ap (λ (t : List ℕ). get_or t k 0) (ran.registers ∙ ap (λ (a : Answer (List ℤ)). run_registers a xs r) accepted) ∙ registers_any h few r w xs k l;
    outputs = λ i l.
        ap (λ (t : List ℤ). get_or t i (pos 0)) (ran.outputs ∙ ap (λ (a : Answer (List ℤ)). run_outputs a xs r o) accepted)
        ∙ get_or-append (outputs_of h r xs) (drop (length xs) o) (pos 0) i (omega (arith, length_outputs h r xs)) ∙ outputs_any h few r w xs i l;
  }

-- what `check` passes, running accepts with the network's coefficients
passed : (rows : List ℕ) (n : ℕ) (taps : List ℕ) (m : ℕ) → NetworkChecked rows n taps m (given tt) → network_answer false rows n taps m ≡ given (coefficients (network_of rows n taps m))
passed rows n taps m c = outcome_given false rows n taps m c.answer

pub running_claims : RunningClaims
running_claims = record {
  running_sums = λ rows n taps m c calls. running_sums (coefficients (network_of rows n taps m)) rows n taps m (passed rows n taps m c) calls;
  wraps = λ z. record { word = wrapped_lt z; turns = turns z; congruent = wrapped_congruent z };
  run_refusals = λ rows n taps m samples r o number place r' o' ran.
      outcome_refusals (ltb (length r) 256 || ltb (length o) (length samples)) rows n taps m number place ran.answer;
  any_content = any_content;
}
