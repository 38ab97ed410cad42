-- The ones of a number, one after the other. Assumes nothing.
use mathlib.Core.Path.{◌≡◌, refl, sym, ap, ◌∙◌}
use mathlib.Core.Logic.{◌≢◌}
use Prim.Native.Nat.{ℕ, zero, suc, ◌-◌, ◌≤◌, ◌<◌, ◌/◌, ◌%◌, ◌^◌}
use native.Mathlib.Nat.{pow-suc}
use native.Mathlib.Omega.{arith}
use lib.Count.{count_trailing_zeros, under}
use Rattle.plane_masks.specs.Binary.{bit_at}
use Rattle.plane_masks.proofs.Binary.{bit_zero, bit_suc}

-- the lowest one
pub trailing : (k x : ℕ) → x ≢ 0 → x < 2 ^ k → (count_trailing_zeros k x < k) × (bit_at x (count_trailing_zeros k x) ≡ 1)
unfolding count_trailing_zeros
trailing zero x n h = absurd (n (omega arith))
trailing (suc k) x n h = go (x % 2) refl (λ (m : x / 2 ≢ 0). trailing k (x / 2) m (omega (arith, pow-suc 2 k)))
  where
    even : (x : ℕ) → x ≢ 0 → x % 2 ≡ 0 → x / 2 ≢ 0
    even x n e q = n (omega arith)

    go : (d : ℕ) → x % 2 ≡ d → (x / 2 ≢ 0 → (count_trailing_zeros k (x / 2) < k) × (bit_at (x / 2) (count_trailing_zeros k (x / 2)) ≡ 1))
        → (under d (count_trailing_zeros k (x / 2)) < suc k) × (bit_at x (under d (count_trailing_zeros k (x / 2))) ≡ 1)
    go zero e ih =
        let r = ih (even x n e) in
        (omega (arith, r.0), bit_suc x (count_trailing_zeros k (x / 2)) ∙ r.1)
    go (suc d) e ih = (omega arith, bit_zero x ∙ omega arith)

-- a number without one of its ones
pub one_le : (p x : ℕ) → bit_at x p ≡ 1 → 2 ^ p ≤ x
one_le zero x e = omega (arith, bit_zero x)
one_le (suc p) x e = omega (arith, pow-suc 2 p, one_le p (x / 2) (sym (bit_suc x p) ∙ e))

pub without_here : (p x : ℕ) → bit_at x p ≡ 1 → bit_at (x - 2 ^ p) p ≡ 0
without_here zero x e = bit_zero (x - 2 ^ 0) ∙ omega (arith, bit_zero x)
without_here (suc p) x e =
    let f = sym (bit_suc x p) ∙ e in
    let q : (x - 2 ^ suc p) / 2 ≡ x / 2 - 2 ^ p = omega (arith, pow-suc 2 p, one_le p (x / 2) f) in
    bit_suc (x - 2 ^ suc p) p ∙ ap (λ (y : ℕ). bit_at y p) q ∙ without_here p (x / 2) f

pub without_there : (p x i : ℕ) → bit_at x p ≡ 1 → i ≢ p → bit_at (x - 2 ^ p) i ≡ bit_at x i
without_there zero x zero e n = absurd (n refl)
without_there zero x (suc i) e n =
    let q : (x - 2 ^ 0) / 2 ≡ x / 2 = omega (arith, bit_zero x) in
    bit_suc (x - 2 ^ 0) i ∙ ap (λ (y : ℕ). bit_at y i) q ∙ sym (bit_suc x i)
without_there (suc p) x zero e n =
    let f = sym (bit_suc x p) ∙ e in
    bit_zero (x - 2 ^ suc p) ∙ omega (arith, pow-suc 2 p, one_le p (x / 2) f) ∙ sym (bit_zero x)
without_there (suc p) x (suc i) e n =
    let f = sym (bit_suc x p) ∙ e in
    let q : (x - 2 ^ suc p) / 2 ≡ x / 2 - 2 ^ p = omega (arith, pow-suc 2 p, one_le p (x / 2) f) in
    bit_suc (x - 2 ^ suc p) i ∙ ap (λ (y : ℕ). bit_at y i) q ∙ without_there p (x / 2) i f (λ (s : i ≡ p). n (ap suc s)) ∙ sym (bit_suc x i)
