-- Coefficients past the last tap are 0: a list that is longer by zeros gives the same. Assumes nothing.
use mathlib.Core.Path.{◌≡◌, refl, ap, ap₂, ◌∙◌, fun_ext}
use mathlib.Core.List.{List, [], ◌∷◌, ◌++◌}
use Prim.Native.Nat.{ℕ, suc}
use lib.IntN.{ℤ, pos, ◌+ℤ◌, ◌*ℤ◌}
use lib.ListN.{get_or, drop}
use mir.Syntax.{w64}
use mir.Val.{to_z}
use Rattle.sequence.specs.UpTo.{up_to}
use Rattle.run_convolution.specs.Words.{wrapped}
use Rattle.run_convolution.specs.Running.{sum_at, next, registers_of, outputs_of}

module _ (g h : List ℤ) (e : (k : ℕ) → get_or g k (pos 0) ≡ get_or h k (pos 0)) where
  same_sum : (x : ℤ) (r : List ℕ) (k : ℕ) → sum_at g x r k ≡ sum_at h x r k
  unfolding sum_at
  same_sum x r k = ap (λ a. wrapped (pos (get_or r k 0) +ℤ a *ℤ x)) (e k)

  same_next : (x : ℤ) (r : List ℕ) → next g x r ≡ next h x r
  unfolding next
  same_next x r = ap (λ f. up_to 255 f ++ (0 ∷ drop 256 r)) (fun_ext (λ k. same_sum x r (suc k)))

  pub same_registers : (r : List ℕ) (xs : List ℤ) → registers_of g r xs ≡ registers_of h r xs
  unfolding registers_of
  same_registers r [] = refl
  same_registers r (x ∷ xs) = ap (λ s. registers_of g s xs) (same_next x r) ∙ same_registers (next h x r) xs

  pub same_outputs : (r : List ℕ) (xs : List ℤ) → outputs_of g r xs ≡ outputs_of h r xs
  unfolding outputs_of
  same_outputs r [] = refl
  same_outputs r (x ∷ xs) =
      ap₂ (λ a s. to_z w64 a ∷ outputs_of g s xs) (same_sum x r 0) (same_next x r) ∙ ap (λ s. to_z w64 (sum_at h x r 0) ∷ s) (same_outputs (next h x r) xs)
