-- Registers and outputs while samples pass one by one. Assumes nothing.
use Rattle.std.proofs.Common.{◌≡◌, List, ◌++◌, ℕ, ◌+◌, ◌<◌, ◌≤◌, ℤ, pos, length, get_or, drop, ap, ◌∙◌, add-one, zero-add, arith, w64, to_z}
use lib.ListN.{set, drop_of_length-le}
use lib.Seq.{drop-cons, sets, sets-eq}
use Rattle.run_convolution.specs.Running.{sum_at, next, outputs_of, registers_of}
use Rattle.run_convolution.proofs.Steps.{length_outputs}

module _ (h xs : List ℤ) (r : List ℕ) (i : ℕ) (l : i < length xs) (new : List ℕ) (e : new ≡ next h (get_or xs i (pos 0)) r) where
  pub one_registers : registers_of h new (drop (i + 1) xs) ≡ registers_of h r (drop i xs)
  unfolding registers_of
  one_registers = rw (add-one i, drop-cons xs i (pos 0) l, e)

  pub one_outputs : (outs : List ℤ) (v : ℤ) → v ≡ to_z w64 (sum_at h (get_or xs i (pos 0)) r 0)
      → sets (set outs i v) (i + 1) (outputs_of h new (drop (i + 1) xs)) ≡ sets outs i (outputs_of h r (drop i xs))
  unfolding outputs_of
  one_outputs outs v q = rw (add-one i, drop-cons xs i (pos 0) l, e, q)

-- ---- the end of the samples

pub end_registers : (h xs : List ℤ) (r : List ℕ) (i : ℕ) → length xs ≤ i → registers_of h r (drop i xs) ≡ r
unfolding registers_of
end_registers h xs r i l = rw (drop_of_length-le xs l)

pub end_outputs : (h xs : List ℤ) (r : List ℕ) (i : ℕ) (outs : List ℤ) → length xs ≤ i → sets outs i (outputs_of h r (drop i xs)) ≡ outs
unfolding outputs_of
end_outputs h xs r i outs l = rw (drop_of_length-le xs l)

-- the outputs of all the samples
pub all_outputs : (h xs : List ℤ) (r : List ℕ) (outs : List ℤ) → length xs ≤ length outs
    → sets outs 0 (outputs_of h r xs) ≡ outputs_of h r xs ++ drop (length xs) outs
all_outputs h xs r outs l =
    sets-eq (outputs_of h r xs) outs 0 (omega (arith, length_outputs h r xs))
    ∙ ap (λ n. outputs_of h r xs ++ drop n outs) (zero-add (length (outputs_of h r xs)) ∙ length_outputs h r xs)
