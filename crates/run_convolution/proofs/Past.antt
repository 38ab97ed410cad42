-- Memory past the 256 registers has no say in a run, and stays. Assumes nothing.
use mathlib.Core.Path.{◌≡◌, refl, sym, ap, ap₂, ◌∙◌}
use mathlib.Core.List.{List, [], ◌∷◌, ◌++◌}
use Prim.Native.Nat.{ℕ, suc, ◌<◌, ◌≤◌}
use native.Mathlib.Omega.{arith}
use lib.IntN.{ℤ, pos, ◌+ℤ◌, ◌*ℤ◌}
use lib.ListN.{length, get_or, take, drop, take-append-drop, get_or-append, drop_of_length-le}
use lib.Seq.{drop_at, length-take-le}
use mir.Syntax.{w64}
use mir.Val.{to_z}
use Rattle.std.proofs.Common.{append_assoc}
use Rattle.sequence.specs.UpTo.{up_to}
use Rattle.sequence.proofs.UpTo.{up_to_same}
use Rattle.run_convolution.specs.Words.{wrapped}
use Rattle.run_convolution.specs.Running.{sum_at, next, registers_of, outputs_of}
use Rattle.run_convolution.proofs.Steps.{length_next}

module _ (h : List ℤ) (t : List ℕ) where
  past_sum : (x : ℤ) (s : List ℕ) → length s ≡ 256 → (k : ℕ) → k < 256 → sum_at h x (s ++ t) k ≡ sum_at h x s k
  unfolding sum_at
  past_sum x s e k l = ap (λ n. wrapped (pos n +ℤ get_or h k (pos 0) *ℤ x)) (get_or-append s t 0 k (omega (arith, e)))

  past_next : (x : ℤ) (s : List ℕ) → length s ≡ 256 → next h x (s ++ t) ≡ next h x s ++ t
  unfolding next
  past_next x s e =
      let short : length s ≤ 256 = omega (arith, e) in
      let none : drop 256 s ≡ [] = drop_of_length-le s short in
      ap₂ (λ f d. f ++ (0 ∷ d)) (up_to_same (λ k. sum_at h x (s ++ t) (suc k)) (λ k. sum_at h x s (suc k)) 255 (λ k l. past_sum x s e (suc k) (omega arith))) (drop_at s t 256 e)
      ∙ sym (append_assoc (up_to 255 (λ k. sum_at h x s (suc k))) (0 ∷ []) t)
      ∙ ap (λ d. (up_to 255 (λ k. sum_at h x s (suc k)) ++ (0 ∷ d)) ++ t) (sym none)

  length_on : (x : ℤ) (s : List ℕ) → length s ≡ 256 → length (next h x s) ≡ 256
  length_on x s e = length_next h x s (omega (arith, e)) ∙ e

  past_registers : (s : List ℕ) (xs : List ℤ) → length s ≡ 256 → registers_of h (s ++ t) xs ≡ registers_of h s xs ++ t
  unfolding registers_of
  past_registers s [] e = refl
  past_registers s (x ∷ xs) e = ap (λ r. registers_of h r xs) (past_next x s e) ∙ past_registers (next h x s) xs (length_on x s e)

  past_outputs : (s : List ℕ) (xs : List ℤ) → length s ≡ 256 → outputs_of h (s ++ t) xs ≡ outputs_of h s xs
  unfolding outputs_of
  past_outputs s [] e = refl
  past_outputs s (x ∷ xs) e =
      ap₂ (λ a r. to_z w64 a ∷ outputs_of h r xs) (past_sum x s e 0 (omega arith)) (past_next x s e)
      ∙ ap (λ os. to_z w64 (sum_at h x s 0) ∷ os) (past_outputs (next h x s) xs (length_on x s e))

-- the first 256 registers run, and memory past them put back
module _ (h : List ℤ) (r : List ℕ) (xs : List ℤ) (l : 256 ≤ length r) where
  pub cut_registers : registers_of h (take 256 r) xs ++ drop 256 r ≡ registers_of h r xs
  cut_registers = sym (past_registers h (drop 256 r) (take 256 r) xs (length-take-le 256 r l)) ∙ ap (λ s. registers_of h s xs) (take-append-drop 256 r)

  pub cut_outputs : outputs_of h (take 256 r) xs ≡ outputs_of h r xs
  cut_outputs = sym (past_outputs h (drop 256 r) (take 256 r) xs (length-take-le 256 r l)) ∙ ap (λ s. outputs_of h s xs) (take-append-drop 256 r)
