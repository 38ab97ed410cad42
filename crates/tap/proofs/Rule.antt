-- What the half rule gives: at a half the nearest whole number is the even one, and so it is the one that lib.Ieee rounds to. Assumes nothing.
use mathlib.Core.Path.{◌≡◌, refl, sym, ap, ◌∙◌, subst}
use mathlib.Core.Logic.{◌⊎◌, inl, inr}
use Prim.Native.Nat.{ℕ, ◌+◌, ◌*◌, ◌/◌, ◌%◌, ◌≤◌, ◌<◌, compare, Ordering}
use native.Mathlib.Nat.{le_trans, le_of_eq, le_antisymm, mod-lt, div-add-mod', mul_right_comm, mul-le-mul_right, eq_of_mul-eq-mul_right}
use native.Mathlib.Numerals.{add-one}
use native.Mathlib.Omega.{arith}
use lib.Ieee.{nearest}
use lib.Ieee.Nearest.{closest, closest_same}
use Rattle.word.proofs.Order.{lt_or_le}
use Rattle.tap.specs.Rounding.{half_of, to_nearest, nearest_whole}
use Rattle.tap.proofs.Whole.{half_low, half_high, Cmp, cmp, by_cases, at_lt, at_eq, at_gt, Near, up_one, nearest_near, nearest_le, nearest_gt, compared}

half_even : (q : ℕ) → half_of q % 2 ≡ 0
unfolding half_of
half_even q = omega arith

half_of_even : (q : ℕ) → q % 2 ≡ 0 → half_of q ≡ q
unfolding half_of
half_of_even q h = omega arith

half_of_odd : (q : ℕ) → q % 2 ≡ 1 → half_of q ≡ q + 1
unfolding half_of
half_of_odd q h = omega arith

-- ---- n is even where a / d is a half below or above it
abbrev pub EvenAtHalf : ℕ → ℕ → ℕ → Type 0
EvenAtHalf a d n = (n * d * 2 ≡ a * 2 + d → n % 2 ≡ 0) × (a * 2 ≡ n * d * 2 + d → n % 2 ≡ 0)

even_at : (a d q r : ℕ) (o : Ordering) → q * d + r ≡ a → r < d → Cmp o (r * 2) d → EvenAtHalf a d (to_nearest q o)
even_at a d q r Ordering.lt e l c = subst (λ (n : ℕ). EvenAtHalf a d n) (sym (at_lt q)) (below a d r (q * d) (q % 2) e c)
  where
    below : (a d r x p : ℕ) → x + r ≡ a → r * 2 < d → (x * 2 ≡ a * 2 + d → p ≡ 0) × (a * 2 ≡ x * 2 + d → p ≡ 0)
    below a d r x p e h = ((λ u. omega arith), (λ u. omega arith))
even_at a d q r Ordering.eq e l c = subst (λ (n : ℕ). EvenAtHalf a d n) (sym (at_eq q)) ((λ u. half_even q), (λ u. half_even q))
even_at a d q r Ordering.gt e l c = subst (λ (n : ℕ). EvenAtHalf a d n) (sym (at_gt q)) (above a d r (q * d) ((q + 1) * d) ((q + 1) % 2) e (up_one q d) l c)
  where
    above : (a d r x y p : ℕ) → x + r ≡ a → y ≡ x + d → r < d → d < r * 2 → (y * 2 ≡ a * 2 + d → p ≡ 0) × (a * 2 ≡ y * 2 + d → p ≡ 0)
    above a d r x y p e f l h = ((λ u. omega arith), (λ u. omega arith))

pub nearest_even : (a d : ℕ) → 0 < d → EvenAtHalf a d (nearest_whole a d)
nearest_even a d D =
    subst (λ (n : ℕ). EvenAtHalf a d n) (sym (by_cases a d)) (even_at a d (a / d) (a % d) (compare (a % d * 2) d) (div-add-mod' a d) (mod-lt a D) (cmp (a % d * 2) d))

-- ---- no other number is within a half, and even at a half
apart : (a d k n : ℕ) → 0 < d → Near a d k → EvenAtHalf a d k → Near a d n → EvenAtHalf a d n → k * d + d ≤ n * d → ⊥
apart a d k n D p v q w l =
    let h = meet a d (k * d) (n * d) p.1 q.0 l in
    one_odd k n (eq_of_mul-eq-mul_right d D (k + 1) n (up_one k d ∙ h.0)) (v.1 h.1) (w.0 h.2)
  where
    meet : (a d x y : ℕ) → a * 2 ≤ x * 2 + d → y * 2 ≤ a * 2 + d → x + d ≤ y → (x + d ≡ y) × (a * 2 ≡ x * 2 + d) × (y * 2 ≡ a * 2 + d)
    meet a d x y h k l = omega arith

    one_odd : (k n : ℕ) → k + 1 ≡ n → k % 2 ≡ 0 → n % 2 ≡ 0 → ⊥
    one_odd k n e p q = omega arith

pub nearest_unique : (a d k : ℕ) → 0 < d → Near a d k → EvenAtHalf a d k → nearest_whole a d ≡ k
nearest_unique a d k D p v = go (compared k (nearest_whole a d) d)
  where
    go : (k * d ≡ nearest_whole a d * d) ⊎ ((k * d + d ≤ nearest_whole a d * d) ⊎ (nearest_whole a d * d + d ≤ k * d)) → nearest_whole a d ≡ k
    go (inl q) = sym (eq_of_mul-eq-mul_right d D k (nearest_whole a d) q)
    go (inr (inl l)) = absurd (apart a d k (nearest_whole a d) D p v (nearest_near a d D) (nearest_even a d D) l)
    go (inr (inr l)) = absurd (apart a d (nearest_whole a d) k D (nearest_near a d D) (nearest_even a d D) p v l)

-- ---- c and a half
at_half : (a d c : ℕ) → 0 < d → a * 2 ≡ (c * 2 + 1) * d → nearest_whole a d ≡ half_of c
at_half a d c D e =
    nearest_unique a d (half_of c) D
    (between a d (c * d) (half_of c * d) (e ∙ up_one (c * 2) d ∙ ap (λ (x : ℕ). x + d) (mul_right_comm c 2 d)) (mul-le-mul_right d (half_low c)) (le_trans (mul-le-mul_right d (half_high c)) (le_of_eq (up_one c d))))
    ((λ u. half_even c), (λ u. half_even c))
  where
    between : (a d x y : ℕ) → a * 2 ≡ x * 2 + d → x ≤ y → y ≤ x + d → (y * 2 ≤ a * 2 + d) × (a * 2 ≤ y * 2 + d)
    between a d x y e p q = omega arith

-- up to it the nearest number is at most c where c is even, and from it on more where c is odd
pub even_le : (a d c : ℕ) → 0 < d → c % 2 ≡ 0 → a * 2 ≤ (c * 2 + 1) * d → nearest_whole a d ≤ c
even_le a d c D p h = go (lt_or_le (a * 2) ((c * 2 + 1) * d))
  where
    go : (a * 2 < (c * 2 + 1) * d) ⊎ ((c * 2 + 1) * d ≤ a * 2) → nearest_whole a d ≤ c
    go (inl l) = nearest_le a d c D l
    go (inr l) = le_of_eq (at_half a d c D (le_antisymm h l) ∙ half_of_even c p)

pub odd_lt : (a d c : ℕ) → 0 < d → c % 2 ≡ 1 → (c * 2 + 1) * d ≤ a * 2 → c < nearest_whole a d
odd_lt a d c D p h = go (lt_or_le ((c * 2 + 1) * d) (a * 2))
  where
    less : (c n : ℕ) → n ≡ c + 1 → c < n
    less c n e = omega arith

    go : ((c * 2 + 1) * d < a * 2) ⊎ (a * 2 ≤ (c * 2 + 1) * d) → c < nearest_whole a d
    go (inl l) = nearest_gt a d c D l
    go (inr l) = less c (nearest_whole a d) (at_half a d c D (le_antisymm l h) ∙ half_of_odd c p)

-- ---- lib.Ieee's rule
as_nearest : (q : ℕ) (o : Ordering) → to_nearest q o ≡ nearest q o
unfolding to_nearest
as_nearest q Ordering.lt = refl
as_nearest q Ordering.eq = refl
as_nearest q Ordering.gt = add-one q

pub nearest_closest : (a d : ℕ) → nearest_whole a d ≡ closest a d
nearest_closest a d = by_cases a d ∙ as_nearest (a / d) (compare (a % d * 2) d)

-- equal fractions have the same nearest number
pub nearest_same : (a b c d : ℕ) → 0 < b → 0 < d → a * d ≡ c * b → nearest_whole a b ≡ nearest_whole c d
nearest_same a b c d B D e = nearest_closest a b ∙ closest_same a b c d B D e ∙ sym (nearest_closest c d)
