-- The registers after a sample, one by one, and lengths. Assumes nothing.
use mathlib.Core.Path.{◌≡◌, refl, sym, ap, ap₂, ◌∙◌}
use mathlib.Core.Bool.{Bool, true, false, cond}
use mathlib.Core.List.{List, [], ◌∷◌, ◌++◌}
use Prim.Native.Nat.{ℕ, suc, ◌+◌, ◌<◌, ◌≤◌}
use native.Mathlib.Omega.{arith}
use borrow.Author.Tests.{ltb-true, ltb-false, lt-ltb, le-ltb}
use lib.Dec.{ltb}
use lib.IntN.{ℤ, pos, ◌+ℤ◌, ◌*ℤ◌}
use lib.ListN.{length, get_or, drop, length-append, length-drop, get_or-append, get_or-eq_default}
use lib.Seq.{get_or_at, drop-append-add}
use Rattle.sequence.specs.UpTo.{up_to}
use Rattle.sequence.proofs.UpTo.{length_up_to, get_d_up_to}
use Rattle.run_convolution.specs.Words.{wrapped}
use Rattle.run_convolution.specs.Running.{sum_at, next, registers_of, outputs_of}
use Rattle.run_convolution.specs.Sums.{held, output_sums}
use Rattle.run_convolution.proofs.Words.{wrapped_none}

-- ---- what the registers hold

pub held_low : (r : List ℕ) (k : ℕ) → k < 256 → held r k ≡ get_or r k 0
held_low r k l = rw (lt-ltb k 256 l)

pub held_high : (r : List ℕ) (k : ℕ) → 256 ≤ k → held r k ≡ 0
held_high r k l = rw (le-ltb k 256 l)

pub next_low : (h : List ℤ) (x : ℤ) (r : List ℕ) (k : ℕ) → k < 255 → get_or (next h x r) k 0 ≡ sum_at h x r (suc k)
unfolding next
next_low h x r k l =
    get_or-append (up_to 255 (λ j. sum_at h x r (suc j))) _ 0 k (omega (arith, length_up_to 255 (λ j. sum_at h x r (suc j))))
    ∙ get_d_up_to 255 (λ j. sum_at h x r (suc j)) 0 k l

pub next_last : (h : List ℤ) (x : ℤ) (r : List ℕ) → get_or (next h x r) 255 0 ≡ 0
unfolding next
next_last h x r = get_or_at (up_to 255 (λ j. sum_at h x r (suc j))) 0 (drop 256 r) 0 255 (length_up_to 255 (λ j. sum_at h x r (suc j)))

-- memory past the registers stays
pub next_drop : (h : List ℤ) (x : ℤ) (r : List ℕ) → drop 256 (next h x r) ≡ drop 256 r
unfolding next
next_drop h x r =
    ap (λ n. drop (n + 1) (up_to 255 (λ j. sum_at h x r (suc j)) ++ (0 ∷ drop 256 r))) (sym (length_up_to 255 (λ j. sum_at h x r (suc j))))
    ∙ drop-append-add (up_to 255 (λ j. sum_at h x r (suc j))) (0 ∷ drop 256 r) 1

-- what register k and the coefficient k come to, for every k: past the last register and the last tap nothing
abbrev pub step_at : List ℤ → ℤ → List ℕ → ℕ → ℕ
step_at h x r k = wrapped (pos (held r k) +ℤ get_or h k (pos 0) *ℤ x)

pub sum_step : (h : List ℤ) (x : ℤ) (r : List ℕ) (k : ℕ) → k < 256 → sum_at h x r k ≡ step_at h x r k
unfolding sum_at
sum_step h x r k l = ap (λ n. wrapped (pos n +ℤ get_or h k (pos 0) *ℤ x)) (sym (held_low r k l))

module _ (h : List ℤ) (few : length h ≤ 256) (x : ℤ) (r : List ℕ) where
  step_none : (k : ℕ) → 256 ≤ k → step_at h x r k ≡ 0
  step_none k l =
      ap₂ (λ n a. wrapped (pos n +ℤ a *ℤ x)) (held_high r k l) (get_or-eq_default h (pos 0) {n = k} (omega arith)) ∙ wrapped_none 0 x (omega arith)

  held_at_last : (k : ℕ) → 255 ≤ k → (t : Bool) → ltb k 256 ≡ t → cond t (get_or (next h x r) k 0) 0 ≡ 0
  held_at_last k l true e = let q : k ≡ 255 = omega (arith, ltb-true k 256 e) in ap (λ i. get_or (next h x r) i 0) q ∙ next_last h x r
  held_at_last k l false e = refl

  held_by : (k : ℕ) (t : Bool) → ltb k 255 ≡ t → held (next h x r) k ≡ step_at h x r (suc k)
  held_by k true e =
      let l : k < 255 = ltb-true k 255 e in
      held_low (next h x r) k (omega arith) ∙ next_low h x r k l ∙ sum_step h x r (suc k) (omega arith)
  held_by k false e =
      let l : 255 ≤ k = ltb-false k 255 e in
      held_at_last k l (ltb k 256) refl ∙ sym (step_none (suc k) (omega arith))

  -- r(k) becomes r(k+1) + h(k+1)·x, for every k
  pub held_next : (k : ℕ) → held (next h x r) k ≡ step_at h x r (suc k)
  held_next k = held_by k (ltb k 255) refl

-- ---- lengths

pub length_next : (h : List ℤ) (x : ℤ) (r : List ℕ) → 256 ≤ length r → length (next h x r) ≡ length r
unfolding next
length_next h x r l =
    length-append (up_to 255 (λ j. sum_at h x r (suc j))) (0 ∷ drop 256 r) ∙ omega (arith, length_up_to 255 (λ j. sum_at h x r (suc j)), length-drop 256 r)

pub length_registers : (h : List ℤ) (r : List ℕ) (xs : List ℤ) → 256 ≤ length r → length (registers_of h r xs) ≡ length r
unfolding registers_of
length_registers h r [] l = refl
length_registers h r (x ∷ xs) l =
    let e : length (next h x r) ≡ length r = length_next h x r l in
    length_registers h (next h x r) xs (omega arith) ∙ e

pub drop_registers : (h : List ℤ) (r : List ℕ) (xs : List ℤ) → drop 256 (registers_of h r xs) ≡ drop 256 r
unfolding registers_of
drop_registers h r [] = refl
drop_registers h r (x ∷ xs) = drop_registers h (next h x r) xs ∙ next_drop h x r

pub length_outputs : (h : List ℤ) (r : List ℕ) (xs : List ℤ) → length (outputs_of h r xs) ≡ length xs
unfolding outputs_of
length_outputs h r [] = refl
length_outputs h r (x ∷ xs) = ap suc (length_outputs h (next h x r) xs)

pub length_sums : (h xs ys : List ℤ) → length (output_sums h xs ys) ≡ length ys
unfolding output_sums
length_sums h xs [] = refl
length_sums h xs (y ∷ ys) = ap suc (length_sums h (xs ++ (y ∷ [])) ys)
