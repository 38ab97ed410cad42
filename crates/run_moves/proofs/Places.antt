-- What a place comes to in a pass of four is what running four samples gives. Assumes nothing.
use mathlib.Core.Path.{◌≡◌, refl, sym, ap, ap₂, ◌∙◌}
use mathlib.Core.Bool.{Bool, true, false}
use mathlib.Core.List.{List}
use Prim.Native.Nat.{ℕ, suc, ◌+◌, ◌<◌, ◌≤◌}
use native.Mathlib.Omega.{arith}
use borrow.Author.Tests.{ltb-true, ltb-false}
use lib.Dec.{ltb}
use lib.IntN.{ℤ, pos, ◌+ℤ◌, ◌*ℤ◌}
use lib.ListN.{length, get_or, get_or-eq_default}
use Rattle.sequence.specs.UpTo.{up_to}
use Rattle.sequence.proofs.UpTo.{length_up_to, get_d_up_to}
use Rattle.run_convolution.specs.Running.{sum_at, next}
use Rattle.run_convolution.specs.Sums.{held}
use Rattle.run_convolution.proofs.Words.{wrapped_none, wrapped_lt}
use Rattle.run_convolution.proofs.Steps.{held_next, sum_step}
use Rattle.run_products.specs.Inner.{coefficient_in, plus, four_sums}
use Rattle.run_tables.specs.Inner.{coefficients_in, Padded, after4}

pub length_in : (c : List ℕ) → length (coefficients_in c) ≡ 256
unfolding coefficients_in
length_in c = length_up_to 256 (λ k. coefficient_in (get_or c (k + 4) 0))

in_by : (c : List ℕ) → Padded c → (k : ℕ) → k < 260 → (t : Bool) → ltb k 256 ≡ t → coefficient_in (get_or c (k + 4) 0) ≡ get_or (coefficients_in c) k (pos 0)
unfolding coefficients_in
in_by c p k l true e = sym (get_d_up_to 256 (λ j. coefficient_in (get_or c (j + 4) 0)) (pos 0) k (ltb-true k 256 e))
in_by c p k l false e =
    let m : 256 ≤ k = ltb-false k 256 e in
    p.high k m l ∙ sym (get_or-eq_default (up_to 256 (λ j. coefficient_in (get_or c (j + 4) 0))) (pos 0) {n = k} (omega (arith, length_up_to 256 (λ j. coefficient_in (get_or c (j + 4) 0)))))

pub in_at : (c : List ℕ) → Padded c → (k : ℕ) → k < 260 → coefficient_in (get_or c (k + 4) 0) ≡ get_or (coefficients_in c) k (pos 0)
in_at c p k l = in_by c p k l (ltb k 256) refl

-- nothing is added to a word
plus_none : (n : ℕ) (a x b y : ℤ) → b ≡ pos 0 → plus (plus n a x) b y ≡ plus n a x
plus_none n a x b y e = ap (λ z. plus (plus n a x) z y) e ∙ wrapped_none (plus n a x) y (wrapped_lt (pos n +ℤ a *ℤ x))

module _ (h : List ℤ) (few : length h ≤ 256) (x0 x1 x2 x3 : ℤ) (r : List ℕ) where
  one : (k : ℕ) → held (next h x0 r) k ≡ plus (held r (suc k)) (get_or h (suc k) (pos 0)) x0
  one k = held_next h few x0 r k

  two : (k : ℕ) → held (next h x1 (next h x0 r)) k ≡ plus (plus (held r (suc (suc k))) (get_or h (suc (suc k)) (pos 0)) x0) (get_or h (suc k) (pos 0)) x1
  two k = held_next h few x1 (next h x0 r) k ∙ ap (λ n. plus n (get_or h (suc k) (pos 0)) x1) (one (suc k))

  three : (k : ℕ) → held (next h x2 (next h x1 (next h x0 r))) k
      ≡ plus (plus (plus (held r (suc (suc (suc k)))) (get_or h (suc (suc (suc k))) (pos 0)) x0) (get_or h (suc (suc k)) (pos 0)) x1) (get_or h (suc k) (pos 0)) x2
  three k = held_next h few x2 (next h x1 (next h x0 r)) k ∙ ap (λ n. plus n (get_or h (suc k) (pos 0)) x2) (two (suc k))

  four : (k : ℕ) → held (after4 h x0 x1 x2 x3 r) k
      ≡ plus (plus (plus (plus (held r (suc (suc (suc (suc k))))) (get_or h (suc (suc (suc (suc k)))) (pos 0)) x0) (get_or h (suc (suc (suc k))) (pos 0)) x1) (get_or h (suc (suc k)) (pos 0)) x2)
      (get_or h (suc k) (pos 0)) x3
  four k = held_next h few x3 (next h x2 (next h x1 (next h x0 r))) k ∙ ap (λ n. plus n (get_or h (suc k) (pos 0)) x3) (three (suc k))

module _ (c : List ℕ) (p : Padded c) (x0 x1 x2 x3 : ℤ) (r : List ℕ) where
  abbrev h : List ℤ
  h = coefficients_in c

  few : length h ≤ 256
  few = omega (arith, length_in c)

  -- the coefficient at a place further on
  coefficient_at : (i k : ℕ) → i ≡ k + 4 → k < 260 → coefficient_in (get_or c i 0) ≡ get_or h k (pos 0)
  coefficient_at i k e l = ap (λ j. coefficient_in (get_or c j 0)) e ∙ in_at c p k l

  -- register k after four samples
  pub register_place : (k v : ℕ) → k < 256 → v ≡ held r (k + 4)
      → four_sums v (coefficient_in (get_or c (k + 4 + 4) 0)) (coefficient_in (get_or c (k + 4 + 3) 0)) (coefficient_in (get_or c (k + 4 + 2) 0)) (coefficient_in (get_or c (k + 4 + 1) 0)) x0 x1 x2 x3
      ≡ held (after4 h x0 x1 x2 x3 r) k
  unfolding four_sums
  register_place k v l e =
      let q : k + 4 ≡ suc (suc (suc (suc k))) = omega arith in
      let e0 = coefficient_at (k + 4 + 4) (suc (suc (suc (suc k)))) (omega arith) (omega arith) in
      let e1 = coefficient_at (k + 4 + 3) (suc (suc (suc k))) (omega arith) (omega arith) in
      let e2 = coefficient_at (k + 4 + 2) (suc (suc k)) (omega arith) (omega arith) in
      let e3 = coefficient_at (k + 4 + 1) (suc k) (omega arith) (omega arith) in
      rw (e0, e1, e2, e3) (ap (λ n. plus (plus (plus (plus n (get_or h (suc (suc (suc (suc k)))) (pos 0)) x0) (get_or h (suc (suc (suc k))) (pos 0)) x1) (get_or h (suc (suc k)) (pos 0)) x2) (get_or h (suc k) (pos 0)) x3)
      (e ∙ ap (held r) q) ∙ sym (four h few x0 x1 x2 x3 r k))

  -- the four outputs
  pub output_place0 : (v : ℕ) → v ≡ held r 0
      → four_sums v (coefficient_in (get_or c 4 0)) (coefficient_in (get_or c 3 0)) (coefficient_in (get_or c 2 0)) (coefficient_in (get_or c 1 0)) x0 x1 x2 x3 ≡ sum_at h x0 r 0
  unfolding four_sums
  output_place0 v e =
      plus_none (plus (plus v (coefficient_in (get_or c 4 0)) x0) (coefficient_in (get_or c 3 0)) x1) (coefficient_in (get_or c 2 0)) x2 (coefficient_in (get_or c 1 0)) x3 (p.low 1 (omega arith))
      ∙ plus_none (plus v (coefficient_in (get_or c 4 0)) x0) (coefficient_in (get_or c 3 0)) x1 (coefficient_in (get_or c 2 0)) x2 (p.low 2 (omega arith))
      ∙ plus_none v (coefficient_in (get_or c 4 0)) x0 (coefficient_in (get_or c 3 0)) x1 (p.low 3 (omega arith))
      ∙ ap₂ (λ n a. plus n a x0) e (coefficient_at 4 0 (omega arith) (omega arith)) ∙ sym (sum_step h x0 r 0 (omega arith))

  pub output_place1 : (v : ℕ) → v ≡ held r 1
      → four_sums v (coefficient_in (get_or c 5 0)) (coefficient_in (get_or c 4 0)) (coefficient_in (get_or c 3 0)) (coefficient_in (get_or c 2 0)) x0 x1 x2 x3 ≡ sum_at h x1 (next h x0 r) 0
  unfolding four_sums
  output_place1 v e =
      let e0 = coefficient_at 5 1 (omega arith) (omega arith) in
      let e1 = coefficient_at 4 0 (omega arith) (omega arith) in
      plus_none (plus (plus v (coefficient_in (get_or c 5 0)) x0) (coefficient_in (get_or c 4 0)) x1) (coefficient_in (get_or c 3 0)) x2 (coefficient_in (get_or c 2 0)) x3 (p.low 2 (omega arith))
      ∙ plus_none (plus v (coefficient_in (get_or c 5 0)) x0) (coefficient_in (get_or c 4 0)) x1 (coefficient_in (get_or c 3 0)) x2 (p.low 3 (omega arith))
      ∙ ap₂ (λ n a. plus n a x1) (ap₂ (λ n a. plus n a x0) e e0 ∙ sym (one h few x0 x1 x2 x3 r 0)) e1 ∙ sym (sum_step h x1 (next h x0 r) 0 (omega arith))

  pub output_place2 : (v : ℕ) → v ≡ held r 2
      → four_sums v (coefficient_in (get_or c 6 0)) (coefficient_in (get_or c 5 0)) (coefficient_in (get_or c 4 0)) (coefficient_in (get_or c 3 0)) x0 x1 x2 x3 ≡ sum_at h x2 (next h x1 (next h x0 r)) 0
  unfolding four_sums
  output_place2 v e =
      let e0 = coefficient_at 6 2 (omega arith) (omega arith) in
      let e1 = coefficient_at 5 1 (omega arith) (omega arith) in
      let e2 = coefficient_at 4 0 (omega arith) (omega arith) in
      plus_none (plus (plus v (coefficient_in (get_or c 6 0)) x0) (coefficient_in (get_or c 5 0)) x1) (coefficient_in (get_or c 4 0)) x2 (coefficient_in (get_or c 3 0)) x3 (p.low 3 (omega arith))
      ∙ ap₂ (λ n a. plus n a x2) (ap₂ (λ n a. plus n a x1) (ap₂ (λ n a. plus n a x0) e e0) e1 ∙ sym (two h few x0 x1 x2 x3 r 0)) e2
      ∙ sym (sum_step h x2 (next h x1 (next h x0 r)) 0 (omega arith))

  pub output_place3 : (v : ℕ) → v ≡ held r 3
      → four_sums v (coefficient_in (get_or c 7 0)) (coefficient_in (get_or c 6 0)) (coefficient_in (get_or c 5 0)) (coefficient_in (get_or c 4 0)) x0 x1 x2 x3
      ≡ sum_at h x3 (next h x2 (next h x1 (next h x0 r))) 0
  unfolding four_sums
  output_place3 v e =
      let e0 = coefficient_at 7 3 (omega arith) (omega arith) in
      let e1 = coefficient_at 6 2 (omega arith) (omega arith) in
      let e2 = coefficient_at 5 1 (omega arith) (omega arith) in
      let e3 = coefficient_at 4 0 (omega arith) (omega arith) in
      ap₂ (λ n a. plus n a x3) (ap₂ (λ n a. plus n a x2) (ap₂ (λ n a. plus n a x1) (ap₂ (λ n a. plus n a x0) e e0) e1) e2 ∙ sym (three h few x0 x1 x2 x3 r 0)) e3
      ∙ sym (sum_step h x3 (next h x2 (next h x1 (next h x0 r))) 0 (omega arith))
