-- The nearest whole number, whatever the half rule: of it only `half_low` and `half_high` are used. What else it gives is in Rule.antt. Nothing here is about floats. Assumes nothing.
use mathlib.Core.Path.{◌≡◌, refl, sym, ap, ◌∙◌, subst}
use mathlib.Core.Logic.{◌⊎◌, inl, inr}
use mathlib.Core.Bool.{not}
use Prim.Native.Nat.{ℕ, ◌+◌, ◌*◌, ◌/◌, ◌%◌, ◌≤◌, ◌<◌, compare, Ordering}
use native.Mathlib.Nat.{le_trans, le_of_eq, lt_of_lt_of_le, lt_of_le_of_lt, le_antisymm, mod-lt, div-add-mod', add-mul, one-mul, mul_right_comm, mul-le-mul_right, le_of_mul-le-mul_right, lt_of_mul-lt-mul_right}
use native.Mathlib.Omega.{arith}
use lib.Dec.{T, is_le, compare_is_eq, eqb, leb→le, nleb→lt, eqb→eq, eqb_refl}
use lib.Arith.{lt_of_le-ne}
use Rattle.word.proofs.Order.{lt_or_le}
use Rattle.tap.specs.Rounding.{half_of, to_nearest, nearest_whole}

-- ---- the half rule
pub half_low : (q : ℕ) → q ≤ half_of q
unfolding half_of
half_low q = omega arith

pub half_high : (q : ℕ) → half_of q ≤ q + 1
unfolding half_of
half_high q = omega arith

-- ---- what `compare` says
abbrev pub Cmp : Ordering → ℕ → ℕ → Type 0
Cmp Ordering.lt a b = a < b
Cmp Ordering.eq a b = a ≡ b
Cmp Ordering.gt a b = b < a

pub cmp : (a b : ℕ) → Cmp (compare a b) a b
cmp a b = go (compare a b) (leb→le a b) (nleb→lt a b) (eqb→eq a b) (λ (e : a ≡ b). subst (λ (x : ℕ). T (eqb a x)) e (eqb_refl a))
  where
    go : (o : Ordering) → (T (is_le o) → a ≤ b) → (T (not (is_le o)) → b < a) → (T (compare_is_eq o) → a ≡ b) → (a ≡ b → T (compare_is_eq o)) → Cmp o a b
    go Ordering.lt h k e n = lt_of_le-ne (h tt) n
    go Ordering.eq h k e n = e tt
    go Ordering.gt h k e n = k tt

pub by_cases : (a d : ℕ) → nearest_whole a d ≡ to_nearest (a / d) (compare (a % d * 2) d)
unfolding nearest_whole
by_cases a d = refl

pub at_lt : (q : ℕ) → to_nearest q Ordering.lt ≡ q
unfolding to_nearest
at_lt q = refl

pub at_eq : (q : ℕ) → to_nearest q Ordering.eq ≡ half_of q
unfolding to_nearest
at_eq q = refl

pub at_gt : (q : ℕ) → to_nearest q Ordering.gt ≡ q + 1
unfolding to_nearest
at_gt q = refl

-- ---- n is within a half of a / d, whatever the half rule
abbrev pub Near : ℕ → ℕ → ℕ → Type 0
Near a d n = (n * d * 2 ≤ a * 2 + d) × (a * 2 ≤ n * d * 2 + d)

pub up_one : (q d : ℕ) → (q + 1) * d ≡ q * d + d
up_one q d = add-mul q 1 d ∙ ap (λ (x : ℕ). q * d + x) (one-mul d)

near_at : (a d q r : ℕ) (o : Ordering) → q * d + r ≡ a → r < d → Cmp o (r * 2) d → Near a d (to_nearest q o)
near_at a d q r Ordering.lt e l c = subst (λ (n : ℕ). Near a d n) (sym (at_lt q)) (stay a d r (q * d) e c)
  where
    stay : (a d r x : ℕ) → x + r ≡ a → r * 2 < d → (x * 2 ≤ a * 2 + d) × (a * 2 ≤ x * 2 + d)
    stay a d r x e h = omega arith
near_at a d q r Ordering.eq e l c =
    subst (λ (n : ℕ). Near a d n) (sym (at_eq q))
    (between a d r (q * d) (half_of q * d) e c (mul-le-mul_right d (half_low q)) (le_trans (mul-le-mul_right d (half_high q)) (le_of_eq (up_one q d))))
  where
    between : (a d r x y : ℕ) → x + r ≡ a → r * 2 ≡ d → x ≤ y → y ≤ x + d → (y * 2 ≤ a * 2 + d) × (a * 2 ≤ y * 2 + d)
    between a d r x y e h p q = omega arith
near_at a d q r Ordering.gt e l c = subst (λ (n : ℕ). Near a d n) (sym (at_gt q)) (next a d r (q * d) ((q + 1) * d) e (up_one q d) l c)
  where
    next : (a d r x y : ℕ) → x + r ≡ a → y ≡ x + d → r < d → d < r * 2 → (y * 2 ≤ a * 2 + d) × (a * 2 ≤ y * 2 + d)
    next a d r x y e f l h = omega arith

pub nearest_near : (a d : ℕ) → 0 < d → Near a d (nearest_whole a d)
nearest_near a d D =
    subst (λ (n : ℕ). Near a d n) (sym (by_cases a d)) (near_at a d (a / d) (a % d) (compare (a % d * 2) d) (div-add-mod' a d) (mod-lt a D) (cmp (a % d * 2) d))

-- ---- bounds: from the fraction to its nearest number
scale : (n d : ℕ) → n * d * 2 ≡ n * 2 * d
scale n d = mul_right_comm n d 2

-- below c + 1/2 the nearest number is at most c, and above it is more
pub nearest_le : (a d c : ℕ) → 0 < d → a * 2 < (c * 2 + 1) * d → nearest_whole a d ≤ c
nearest_le a d c D h =
    let n = nearest_whole a d in
    let w = nearest_near a d D in
    let x : n * 2 * d < (c * 2 + 1 + 1) * d = lt_of_le_of_lt (le_of_eq (sym (scale n d))) (lt_of_le_of_lt w.0 (lt_of_lt_of_le (step (a * 2) ((c * 2 + 1) * d) d h) (le_of_eq (sym (up_one (c * 2 + 1) d))))) in
    halve n c (lt_of_mul-lt-mul_right d x)
  where
    step : (x y d : ℕ) → x < y → x + d < y + d
    step x y d h = omega arith

    halve : (n c : ℕ) → n * 2 < c * 2 + 1 + 1 → n ≤ c
    halve n c h = omega arith

pub nearest_gt : (a d c : ℕ) → 0 < d → (c * 2 + 1) * d < a * 2 → c < nearest_whole a d
nearest_gt a d c D h =
    let n = nearest_whole a d in
    let w = nearest_near a d D in
    let x : (c * 2 + 1) * d < (n * 2 + 1) * d = lt_of_lt_of_le h (le_trans w.1 (le_of_eq (ap (λ (x : ℕ). x + d) (scale n d) ∙ sym (up_one (n * 2) d)))) in
    halve n c (lt_of_mul-lt-mul_right d x)
  where
    halve : (n c : ℕ) → c * 2 + 1 < n * 2 + 1 → c < n
    halve n c h = omega arith

pub nearest_ge : (a d c : ℕ) → 0 < d → c * 2 * d ≤ a * 2 → c ≤ nearest_whole a d
nearest_ge a d c D h =
    let n = nearest_whole a d in
    let w = nearest_near a d D in
    let x : c * 2 * d ≤ (n * 2 + 1) * d = le_trans h (le_trans w.1 (le_of_eq (ap (λ (x : ℕ). x + d) (scale n d) ∙ sym (up_one (n * 2) d)))) in
    halve n c (le_of_mul-le-mul_right x D)
  where
    halve : (n c : ℕ) → c * 2 ≤ n * 2 + 1 → c ≤ n
    halve n c h = omega arith

-- a whole number is its own nearest
pub nearest_whole_lem : (a c d : ℕ) → 0 < d → a ≡ c * d → nearest_whole a d ≡ c
nearest_whole_lem a c d D h =
    le_antisymm
    (below_of (nearest_whole a d) c (le_of_mul-le-mul_right (le_trans (le_of_eq (sym (scale (nearest_whole a d) d))) (le_trans (nearest_near a d D).0 (le_of_eq (ap (λ (x : ℕ). x * 2 + d) h ∙ ap (λ (x : ℕ). x + d) (scale c d) ∙ sym (up_one (c * 2) d))))) D))
    (nearest_ge a d c D (le_of_eq (sym (scale c d) ∙ ap (λ (x : ℕ). x * 2) (sym h))))
  where
    below_of : (n c : ℕ) → n * 2 ≤ c * 2 + 1 → n ≤ c
    below_of n c h = omega arith

-- ---- multiples of d
pub next : (k n d : ℕ) → k < n → k * d + d ≤ n * d
next k n d h = le_trans (le_of_eq (sym (up_one k d))) (mul-le-mul_right d (go k n h))
  where
    go : (k n : ℕ) → k < n → k + 1 ≤ n
    go k n h = omega arith

pub compared : (k n d : ℕ) → (k * d ≡ n * d) ⊎ ((k * d + d ≤ n * d) ⊎ (n * d + d ≤ k * d))
compared k n d = go (lt_or_le k n) (lt_or_le n k)
  where
    go : (k < n) ⊎ (n ≤ k) → (n < k) ⊎ (k ≤ n) → (k * d ≡ n * d) ⊎ ((k * d + d ≤ n * d) ⊎ (n * d + d ≤ k * d))
    go (inl h) q = inr (inl (next k n d h))
    go (inr h) (inl g) = inr (inr (next n k d g))
    go (inr h) (inr g) = inl (ap (λ (x : ℕ). x * d) (le_antisymm g h))
