-- What a running call leaves, by its answer. Assumes nothing.
use mathlib.Core.Path.{◌≡◌, refl, sym, ap, ◌∙◌}
use mathlib.Core.List.{List, ◌++◌}
use Prim.Native.Nat.{ℕ}
use lib.IntN.{ℤ}
use lib.ListN.{length, drop}
use Rattle.refusal.specs.Answer.{Answer, given, refused}
use Rattle.refusal.proofs.Checks.{given_refused}
use Rattle.run_convolution.specs.Running.{registers_of, outputs_of}
use Rattle.run_convolution.proofs.Trailing.{same_registers, same_outputs}
use Rattle.network.specs.Check.{outcome}
use Rattle.network_check.specs.Inner.{padded}
use Rattle.network_check.proofs.Padded.{padded_at}
use Rattle.run_calls.specs.Run.{run_registers, run_outputs}

-- ---- accepted

module _ (a : Answer (List ℤ)) (h buffer : List ℤ) (e : a ≡ given h) (p : buffer ≡ padded h) (r : List ℕ) (xs : List ℤ) where
  pub moved : registers_of buffer r xs ≡ run_registers a xs r
  moved = ap (λ g. registers_of g r xs) p ∙ same_registers (padded h) h (padded_at h) r xs ∙ ap (λ b. run_registers b xs r) (sym e)

  pub written : (outs : List ℤ) → outputs_of buffer r xs ++ drop (length xs) outs ≡ run_outputs a xs r outs
  written outs =
      ap (λ g. outputs_of g r xs ++ drop (length xs) outs) p ∙ ap (λ o. o ++ drop (length xs) outs) (same_outputs (padded h) h (padded_at h) r xs)
      ∙ ap (λ b. run_outputs b xs r outs) (sym e)

-- ---- turned down

pub kept_registers : (a : Answer (List ℤ)) (number place : ℕ) (xs : List ℤ) (r : List ℕ) → refused number place ≡ outcome a → r ≡ run_registers a xs r
kept_registers (given h) number place xs r e = given_refused tt number place (sym e)
kept_registers (refused n k) number place xs r e = refl

pub kept_outputs : (a : Answer (List ℤ)) (number place : ℕ) (xs : List ℤ) (r : List ℕ) (outs : List ℤ) → refused number place ≡ outcome a → outs ≡ run_outputs a xs r outs
kept_outputs (given h) number place xs r outs e = given_refused tt number place (sym e)
kept_outputs (refused n k) number place xs r outs e = refl
