-- The sums, term by term: what one sample more changes. Assumes nothing.
use mathlib.Core.Path.{◌≡◌, refl, sym, ap, ap₂, ◌∙◌, fun_ext}
use mathlib.Core.List.{List, [], ◌∷◌, ◌++◌, reverse, reverse-append}
use Prim.Native.Nat.{ℕ, zero, suc, ◌+◌, ◌≤◌}
use native.Mathlib.Omega.{arith}
use lib.IntN.{ℤ, pos, ◌+ℤ◌, ◌*ℤ◌, zero-*ℤ, *ℤ-zero, +ℤ_idr, +ℤ_assoc, +ℤ_comm}
use lib.ListN.{length, get_or, get_or-eq_default}
use mir.Syntax.{w16, w32, w64}
use mir.Val.{SFits}
use Rattle.sequence.specs.Sum.{sum_below}
use Rattle.run_convolution.specs.Sums.{before, output_sum, register_sum}
use Rattle.run_convolution.proofs.Sizes.{product_size, sum_fits}

-- a sum from its first term
sum_front : (n : ℕ) (f : ℕ → ℤ) → sum_below (suc n) f ≡ sum_below n (λ k. f (suc k)) +ℤ f 0
sum_front zero f = refl
sum_front (suc n) f =
    ap (λ s. s +ℤ f (suc n)) (sum_front n f) ∙ +ℤ_assoc (sum_below n (λ k. f (suc k))) (f 0) (f (suc n))
    ∙ ap (λ s. sum_below n (λ k. f (suc k)) +ℤ s) (+ℤ_comm (f 0) (f (suc n)))
    ∙ sym (+ℤ_assoc (sum_below n (λ k. f (suc k))) (f (suc n)) (f 0))

sum_zero : (n : ℕ) (f : ℕ → ℤ) → ((k : ℕ) → f k ≡ pos 0) → sum_below n f ≡ pos 0
sum_zero zero f z = refl
sum_zero (suc n) f z = ap₂ ◌+ℤ◌ (sum_zero n f z) (z n)

-- the sum of h(k + j) times the sample j before the latest: outputs and registers alike
abbrev pub sum_from : List ℤ → List ℤ → ℕ → ℤ
sum_from h xs k = sum_below (length h) (λ j. get_or h (k + j) (pos 0) *ℤ before xs j)

pub output_from : (h xs : List ℤ) → output_sum h xs ≡ sum_from h xs 0
unfolding output_sum
output_from h xs = ap (sum_below (length h)) (fun_ext (λ j. let e : j ≡ 0 + j = omega arith in ap (λ i. get_or h i (pos 0) *ℤ before xs j) e))

pub register_from : (h xs : List ℤ) (k : ℕ) → register_sum h xs k ≡ sum_from h xs (suc k)
unfolding register_sum
register_from h xs k = ap (λ i. sum_from h xs i) (let e : k + 1 ≡ suc k = omega arith in e)

pub reverse_snoc : (xs : List ℤ) (x : ℤ) → reverse (xs ++ (x ∷ [])) ≡ x ∷ reverse xs
reverse_snoc xs x = reverse-append xs (x ∷ [])

-- one sample more: the product with the newest, and the sum from the next coefficient over the samples before
pub from_next : (h xs : List ℤ) (x : ℤ) (k : ℕ) → sum_from h (xs ++ (x ∷ [])) k ≡ sum_from h xs (suc k) +ℤ get_or h k (pos 0) *ℤ x
from_next h xs x k =
    let n = length h in
    let f : ℕ → ℤ = λ j. get_or h (k + j) (pos 0) *ℤ before (xs ++ (x ∷ [])) j in
    let none : f n ≡ pos 0 =
    ap (λ a. a *ℤ before (xs ++ (x ∷ [])) n) (get_or-eq_default h (pos 0) {n = k + n} (omega arith)) ∙ zero-*ℤ (before (xs ++ (x ∷ [])) n) in
    let first : f 0 ≡ get_or h k (pos 0) *ℤ x =
    ap₂ (λ i p. get_or h i (pos 0) *ℤ get_or p 0 (pos 0)) (let e : k + 0 ≡ k = omega arith in e) (reverse_snoc xs x) in
    let rest : sum_below n (λ j. f (suc j)) ≡ sum_from h xs (suc k) =
    ap (sum_below n) (fun_ext (λ j. ap₂ (λ i p. get_or h i (pos 0) *ℤ get_or p (suc j) (pos 0)) (let e : k + suc j ≡ suc k + j = omega arith in e) (reverse_snoc xs x))) in
    sym (+ℤ_idr (sum_below n f)) ∙ ap (λ z. sum_below n f +ℤ z) (sym none) ∙ sum_front n f ∙ ap₂ ◌+ℤ◌ rest first

-- no samples: nothing
pub from_none : (h : List ℤ) (k : ℕ) → sum_from h [] k ≡ pos 0
from_none h k = sum_zero (length h) (λ j. get_or h (k + j) (pos 0) *ℤ pos 0) (λ j. *ℤ-zero (get_or h (k + j) (pos 0)))

-- the sums stay within 64 bits
pub from_fits : (h xs : List ℤ) (k : ℕ) → length h ≤ 256 → ((j : ℕ) → SFits w32 (get_or h j (pos 0))) → ((j : ℕ) → SFits w16 (before xs j))
    → SFits w64 (sum_from h xs k)
from_fits h xs k few f g =
    sum_fits (length h) (λ j. get_or h (k + j) (pos 0) *ℤ before xs j) few (λ j. product_size (get_or h (k + j) (pos 0)) (before xs j) (f (k + j)) (g j))
