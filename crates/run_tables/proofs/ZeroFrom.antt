-- Registers and coefficients that are 0 from some place on stay so. Assumes nothing.
use mathlib.Core.Path.{◌≡◌, sym, ap₂, ◌∙◌}
use mathlib.Core.List.{List}
use Prim.Native.Nat.{ℕ, suc, ◌<◌, ◌≤◌}
use native.Mathlib.Omega.{arith}
use lib.IntN.{ℤ, pos, ◌+ℤ◌, ◌*ℤ◌}
use lib.ListN.{length, get_or}
use Rattle.run_convolution.specs.Words.{wrapped}
use Rattle.run_convolution.specs.Running.{next}
use Rattle.run_convolution.specs.Sums.{held}
use Rattle.run_convolution.proofs.Words.{wrapped_none}
use Rattle.run_convolution.proofs.Steps.{held_low, held_next}
use Rattle.run_tables.specs.Inner.{ZeroFrom, after4}

module _ (h : List ℤ) (few : length h ≤ 256) (w : ℕ) where
  pub zero_from_next : (x : ℤ) (r : List ℕ) → ZeroFrom w h r → ZeroFrom w h (next h x r)
  zero_from_next x r q k l = (
    held_next h few x r k ∙ ap₂ (λ n a. wrapped (pos n +ℤ a *ℤ x)) (q (suc k) (omega arith)).0 (q (suc k) (omega arith)).1 ∙ wrapped_none 0 x (omega arith),
    (q k l).1,
  )

  pub zero_from_four : (x0 x1 x2 x3 : ℤ) (r : List ℕ) → ZeroFrom w h r → ZeroFrom w h (after4 h x0 x1 x2 x3 r)
  zero_from_four x0 x1 x2 x3 r q = zero_from_next x3 _ (zero_from_next x2 _ (zero_from_next x1 _ (zero_from_next x0 r q)))

  -- what is out of use before and after is the same
  pub zero_from_same : (r s : List ℕ) → ZeroFrom w h r → ZeroFrom w h s → (k : ℕ) → w ≤ k → k < 256 → held s k ≡ get_or r k 0
  zero_from_same r s q p k l m = (p k l).0 ∙ sym (q k l).0 ∙ held_low r k m
