-- How far whole numbers are from the fraction ±a / d: `signed s (nearest_whole a d)` is nearest, and where another is as near it is even. Assumes nothing.
use mathlib.Core.Path.{◌≡◌, refl, sym, ap, ◌∙◌}
use mathlib.Core.Logic.{◌⊎◌, inl, inr}
use mathlib.Core.Bool.{Bool, true, false, not, cond}
use Prim.Native.Nat.{ℕ, zero, suc, ◌+◌, ◌-◌, ◌*◌, ◌%◌, ◌≤◌, ◌<◌}
use native.Mathlib.Nat.{le_trans, le_of_eq, zero-mul, zero-lt-suc, le_antisymm, eq_of_mul-eq-mul_right}
use native.Mathlib.Omega.{arith}
use lib.IntN.{ℤ, pos, negsuc, neg_ℤ, nat_abs, ◌+ℤ◌, ◌-ℤ◌, ◌*ℤ◌, neg_ℤ-neg_ℤ, neg_ℤ-+ℤ}
use lib.Dec.{leb}
use borrow.Author.Tests.{lt-ltb, le-ltb, lt-leb, le-leb}
use Rattle.word.proofs.Order.{lt_or_le}
use Rattle.tap.specs.Rounding.{nearest_whole, signed}
use Rattle.tap.proofs.Whole.{up_one, nearest_near, next, compared}
use Rattle.tap.proofs.Rule.{nearest_even}
use Rattle.tap.proofs.Exact.{apart, side, apart_le}

-- ---- sizes of sums and differences
pub size_neg : (z : ℤ) → nat_abs (neg_ℤ z) ≡ nat_abs z
size_neg (pos zero) = refl
size_neg (pos (suc n)) = refl
size_neg (negsuc n) = refl

pub size_signed : (s : Bool) (n : ℕ) → nat_abs (signed s n) ≡ n
size_signed true n = size_neg (pos n)
size_signed false n = refl

order_leb : (x a : ℕ) → ((leb x a ≡ true) × (x ≤ a)) ⊎ ((leb x a ≡ false) × (a < x))
order_leb x a = go (lt_or_le a x)
  where
    go : (a < x) ⊎ (x ≤ a) → ((leb x a ≡ true) × (x ≤ a)) ⊎ ((leb x a ≡ false) × (a < x))
    go (inl h) = inr (lt-leb x a h, h)
    go (inr h) = inl (le-leb x a h, h)

less_is : (a x : ℕ) → pos a +ℤ neg_ℤ (pos x) ≡ signed (cond (leb x a) false true) (apart a x)
less_is a x = go (order_leb x a)
  where
    up_to : (a x : ℕ) → x ≤ a → pos a +ℤ neg_ℤ (pos x) ≡ pos (apart a x)
    up_to a zero h = ap pos (nil a)
      where
        nil : (a : ℕ) → a + 0 ≡ apart a 0
        nil a = omega arith
    up_to a (suc y) h = ap (λ (b : Bool). cond b (negsuc (suc y - suc a)) (pos (a - suc y))) (le-ltb a (suc y) h) ∙ ap pos (rest a y h)
      where
        rest : (a y : ℕ) → suc y ≤ a → a - suc y ≡ apart a (suc y)
        rest a y h = omega arith

    over : (a x : ℕ) → a < x → pos a +ℤ neg_ℤ (pos x) ≡ neg_ℤ (pos (apart a x))
    over a zero h = absurd (none a h)
      where
        none : (a : ℕ) → a < 0 → ⊥
        none a h = omega arith
    over a (suc y) h = ap (λ (b : Bool). cond b (negsuc (suc y - suc a)) (pos (a - suc y))) (lt-ltb a (suc y) h) ∙ ap (λ (k : ℕ). neg_ℤ (pos k)) (rest a y h)
      where
        rest : (a y : ℕ) → a < suc y → suc (suc y - suc a) ≡ apart a (suc y)
        rest a y h = omega arith

    go : ((leb x a ≡ true) × (x ≤ a)) ⊎ ((leb x a ≡ false) × (a < x)) → pos a +ℤ neg_ℤ (pos x) ≡ signed (cond (leb x a) false true) (apart a x)
    go (inl h) = up_to a x h.1 ∙ ap (λ (b : Bool). signed (cond b false true) (apart a x)) (sym h.0)
    go (inr h) = over a x h.1 ∙ ap (λ (b : Bool). signed (cond b false true) (apart a x)) (sym h.0)

size_less : (a x : ℕ) → nat_abs (pos a +ℤ neg_ℤ (pos x)) ≡ apart a x
size_less a x = ap nat_abs (less_is a x) ∙ size_signed (cond (leb x a) false true) (apart a x)

pub signed_mul : (s : Bool) (n d : ℕ) → signed s n *ℤ pos d ≡ signed s (n * d)
signed_mul false n d = refl
signed_mul true zero d = ap pos (zero-mul d) ∙ ap (λ (x : ℕ). neg_ℤ (pos x)) (sym (zero-mul d))
signed_mul true (suc n) d = refl

-- a whole number as far from ±a / d as `distance` parts of d
abbrev pub distance : Bool → ℕ → ℕ → ℤ → ℕ
distance s a d z = nat_abs (signed s a -ℤ z *ℤ pos d)

-- on the same side of zero, and on the other
same_side : (s : Bool) (a d k : ℕ) → distance s a d (signed s k) ≡ apart a (k * d)
same_side false a d k = size_less a (k * d)
same_side true a d k =
    ap (λ (z : ℤ). nat_abs (neg_ℤ (pos a) -ℤ z)) (signed_mul true k d)
    ∙ ap nat_abs (sym (neg_ℤ-+ℤ (pos a) (neg_ℤ (pos (k * d)))))
    ∙ size_neg (pos a +ℤ neg_ℤ (pos (k * d)))
    ∙ size_less a (k * d)

other_side : (s : Bool) (a d k : ℕ) → distance s a d (signed (not s) k) ≡ a + k * d
other_side false a d k =
    ap (λ (z : ℤ). nat_abs (pos a -ℤ z)) (signed_mul true k d) ∙ ap (λ (z : ℤ). nat_abs (pos a +ℤ z)) (neg_ℤ-neg_ℤ (pos (k * d)))
other_side true a d k = ap nat_abs (sym (neg_ℤ-+ℤ (pos a) (pos (k * d)))) ∙ size_neg (pos (a + k * d))

-- every whole number is on one of the two
abbrev Sided : Bool → ℤ → Type 0
Sided s z = ((k : ℕ) × (signed s k ≡ z)) ⊎ ((k : ℕ) × (signed (not s) k ≡ z))

sided : (s : Bool) (z : ℤ) → Sided s z
sided false (pos k) = inl (k, refl)
sided false (negsuc k) = inr (suc k, refl)
sided true (pos k) = inr (k, refl)
sided true (negsuc k) = inl (suc k, refl)

-- ---- multiples of d
-- x is the multiple n * d within half of d of a, and y another one, k * d
nearer : (a d x y : ℕ) → x * 2 ≤ a * 2 + d → a * 2 ≤ x * 2 + d → (y ≡ x) ⊎ ((y + d ≤ x) ⊎ (x + d ≤ y)) → apart a x ≤ apart a y
nearer a d x y h k (inl e) = le_of_eq (ap (apart a) (sym e))
nearer a d x y h k (inr (inl l)) = omega arith
nearer a d x y h k (inr (inr l)) = omega arith

-- ---- the number that `nearest_whole` gives
module _ (s : Bool) (a d : ℕ) (D : 0 < d) where
  abbrev N : ℤ
  N = signed s (nearest_whole a d)

  is_near : distance s a d N ≡ apart a (nearest_whole a d * d)
  is_near = same_side s a d (nearest_whole a d)

  pub none_nearer : (z : ℤ) → distance s a d N ≤ distance s a d z
  none_nearer z = go (sided s z)
    where
      go : Sided s z → distance s a d N ≤ distance s a d z
      go (inl w) =
          let p = nearest_near a d D in
          let l : apart a (nearest_whole a d * d) ≤ apart a (w.0 * d) = nearer a d (nearest_whole a d * d) (w.0 * d) p.0 p.1 (compared w.0 (nearest_whole a d) d) in
          le_trans (le_of_eq is_near) (le_trans l (le_of_eq (sym (same_side s a d w.0) ∙ ap (distance s a d) w.1)))
      go (inr w) =
          let l : apart a (nearest_whole a d * d) ≤ a + w.0 * d = le_trans (apart_le a d D) (low a (w.0 * d)) in
          le_trans (le_of_eq is_near) (le_trans l (le_of_eq (sym (other_side s a d w.0) ∙ ap (distance s a d) w.1)))
        where
          low : (a y : ℕ) → a ≤ a + y
          low a y = omega arith

  -- a number that is as near stands on the same side of zero
  as_near : (z : ℤ) → distance s a d z ≡ distance s a d N → (k : ℕ) × (signed s k ≡ z)
  as_near z e = go (sided s z)
    where
      zeros : (s : Bool) → signed s 0 ≡ signed (not s) 0
      zeros true = refl
      zeros false = refl

      none : (k : ℕ) → a + k * d ≤ a → k ≡ 0
      none zero h = refl
      none (suc k) h = absurd (more a (suc k * d) d D (next 0 (suc k) d (zero-lt-suc k)) h)
        where
          more : (a y d : ℕ) → 0 < d → 0 * d + d ≤ y → a + y ≤ a → ⊥
          more a y d D h l = omega (arith, zero-mul d)

      go : Sided s z → (k : ℕ) × (signed s k ≡ z)
      go (inl w) = w
      go (inr w) =
          let far : a + w.0 * d ≤ a = le_trans (le_of_eq (sym (other_side s a d w.0) ∙ ap (distance s a d) w.1 ∙ e ∙ is_near)) (apart_le a d D) in
          (0, zeros s ∙ ap (signed (not s)) (sym (none w.0 far)) ∙ w.1)

  -- and is N, or N's neighbour across a half; N is even then
  abbrev Neighbour : ℕ → Type 0
  Neighbour k = ((k + 1 ≡ nearest_whole a d) ⊎ (nearest_whole a d + 1 ≡ k)) × (nearest_whole a d % 2 ≡ 0)

  neighbour : (k : ℕ) → apart a (k * d) ≡ apart a (nearest_whole a d * d) → (k ≡ nearest_whole a d) ⊎ Neighbour k
  neighbour k e = go (compared k (nearest_whole a d) d)
    where
      below : (a d x y : ℕ) → 0 < d → x * 2 ≤ a * 2 + d → apart a y ≡ apart a x → y + d ≤ x → (y + d ≡ x) × (x * 2 ≡ a * 2 + d)
      below a d x y D h e l = omega arith

      above : (a d x y : ℕ) → 0 < d → a * 2 ≤ x * 2 + d → apart a y ≡ apart a x → x + d ≤ y → (x + d ≡ y) × (a * 2 ≡ x * 2 + d)
      above a d x y D h e l = omega arith

      go : (k * d ≡ nearest_whole a d * d) ⊎ ((k * d + d ≤ nearest_whole a d * d) ⊎ (nearest_whole a d * d + d ≤ k * d)) → (k ≡ nearest_whole a d) ⊎ Neighbour k
      go (inl q) = inl (eq_of_mul-eq-mul_right d D k (nearest_whole a d) q)
      go (inr (inl l)) =
          let w = below a d (nearest_whole a d * d) (k * d) D (nearest_near a d D).0 e l in
          inr (inl (eq_of_mul-eq-mul_right d D (k + 1) (nearest_whole a d) (up_one k d ∙ w.0)), (nearest_even a d D).0 w.1)
      go (inr (inr l)) =
          let w = above a d (nearest_whole a d * d) (k * d) D (nearest_near a d D).1 e l in
          inr (inr (eq_of_mul-eq-mul_right d D (nearest_whole a d + 1) k (up_one (nearest_whole a d) d ∙ w.0)), (nearest_even a d D).1 w.1)

  found : (z : ℤ) (k : ℕ) → signed s k ≡ z → distance s a d z ≡ distance s a d N → (k ≡ nearest_whole a d) ⊎ Neighbour k
  found z k q e = neighbour k (sym (same_side s a d k) ∙ ap (distance s a d) q ∙ e ∙ is_near)

  pub even_as_near : (z : ℤ) → (z ≡ N → ⊥) → distance s a d z ≡ distance s a d N → nat_abs N % 2 ≡ 0
  even_as_near z other e = go (found z w.0 w.1 e)
    where
      w : (k : ℕ) × (signed s k ≡ z)
      w = as_near z e

      go : (w.0 ≡ nearest_whole a d) ⊎ Neighbour w.0 → nat_abs N % 2 ≡ 0
      go (inl q) = absurd (other (sym w.1 ∙ ap (signed s) q))
      go (inr q) = ap (λ (n : ℕ). n % 2) (size_signed s (nearest_whole a d)) ∙ q.1

  -- no other number is both: of two neighbours one is odd
  pub no_other : (z : ℤ) → ((y : ℤ) → distance s a d z ≤ distance s a d y) → ((y : ℤ) → (y ≡ z → ⊥) → distance s a d y ≡ distance s a d z → nat_abs z % 2 ≡ 0) → z ≡ N
  no_other z near even = go (found z w.0 w.1 e)
    where
      e : distance s a d z ≡ distance s a d N
      e = le_antisymm (near N) (none_nearer z)

      w : (k : ℕ) × (signed s k ≡ z)
      w = as_near z e

      size : nat_abs z ≡ w.0
      size = ap nat_abs (sym w.1) ∙ size_signed s w.0

      apart_by_one : (k n : ℕ) → (k + 1 ≡ n) ⊎ (n + 1 ≡ k) → n ≡ k → ⊥
      apart_by_one k n (inl h) q = omega arith
      apart_by_one k n (inr h) q = omega arith

      both_even : (k n : ℕ) → (k + 1 ≡ n) ⊎ (n + 1 ≡ k) → n % 2 ≡ 0 → k % 2 ≡ 0 → ⊥
      both_even k n (inl h) p q = omega arith
      both_even k n (inr h) p q = omega arith

      go : (w.0 ≡ nearest_whole a d) ⊎ Neighbour w.0 → z ≡ N
      go (inl q) = sym w.1 ∙ ap (signed s) q
      go (inr q) =
          let other : N ≡ z → ⊥ = λ h. apart_by_one w.0 (nearest_whole a d) q.0 (sym (size_signed s (nearest_whole a d)) ∙ ap nat_abs h ∙ size) in
          absurd (both_even w.0 (nearest_whole a d) q.0 q.1 (ap (λ (n : ℕ). n % 2) (sym size) ∙ even N other (sym e)))

-- ---- ±a less ±n * d, with its sign
neg_signed : (b : Bool) (k : ℕ) → neg_ℤ (signed (cond b false true) k) ≡ signed (cond b true false) k
neg_signed true k = refl
neg_signed false k = neg_ℤ-neg_ℤ (pos k)

pub difference_is : (s : Bool) (a d n : ℕ) → signed s a -ℤ signed s n *ℤ pos d ≡ signed (side s a d n) (apart a (n * d))
difference_is false a d n = less_is a (n * d)
difference_is true a d n =
    ap (λ (z : ℤ). neg_ℤ (pos a) -ℤ z) (signed_mul true n d)
    ∙ sym (neg_ℤ-+ℤ (pos a) (neg_ℤ (pos (n * d))))
    ∙ ap neg_ℤ (less_is a (n * d))
    ∙ neg_signed (leb (n * d) a) (apart a (n * d))
