-- A mask v that is t | e & (v / 2^k) is also so with t and e taken together over twice the distance. Assumes nothing.
use mathlib.Core.Path.{◌≡◌, refl, ap, ap₂, sym, ◌∙◌}
use Prim.Native.Nat.{ℕ, zero, suc, ◌<◌, ◌^◌, ◌/◌, ◌%◌, min, max}
use native.Mathlib.Nat.{pow-suc, zero-min, div-le_self}
use native.Mathlib.Omega.{arith}
use lib.Bits.{bit_and, bit_or, and_step, or_step, and_shr, or_shr, and_zero_r, or_zero_r, and_le_l, or_lt}

abbrev Merged : ℕ → ℕ → ℕ → ℕ → ℕ → Type 0
Merged t e a b v = bit_or t (bit_and e (bit_or a (bit_and b v))) ≡ bit_or (bit_or t (bit_and e a)) (bit_and (bit_and e b) v)

-- of binary digits
merged_bits : (t e a b v : ℕ) → e < 2 → b < 2 → a < 2 → v < 2 → max t (min e (max a (min b v))) ≡ max (max t (min e a)) (min (min e b) v)
merged_bits t zero a b v h k l n =
    ap (max t) (zero-min (max a (min b v))) ∙ flat ∙ sym (ap₂ max (ap (max t) (zero-min a)) (ap (λ (x : ℕ). min x v) (zero-min b) ∙ zero-min v))
  where
    flat : max t 0 ≡ max (max t 0) 0
    flat = omega arith
merged_bits t (suc zero) a b v h k l n =
    ap (max t) (all (max a (min b v)) (omega arith)) ∙ flat t a (min b v) ∙ sym (ap₂ max (ap (max t) (all a l)) (ap (λ (x : ℕ). min x v) (all b k)))
  where
    all : (x : ℕ) → x < 2 → min 1 x ≡ x
    all x i = omega arith

    flat : (x y z : ℕ) → max x (max y z) ≡ max (max x y) z
    flat x y z = omega arith
merged_bits t (suc (suc e)) a b v h k l n = absurd (omega arith)

-- the lowest binary digit, and the others
and_half : (x y : ℕ) → bit_and x y / 2 ≡ bit_and (x / 2) (y / 2)
and_half x y = omega (arith, and_step x y)

and_low : (x y : ℕ) → bit_and x y % 2 ≡ min (x % 2) (y % 2)
and_low x y = omega (arith, and_step x y)

or_half : (x y : ℕ) → bit_or x y / 2 ≡ bit_or (x / 2) (y / 2)
or_half x y = omega (arith, or_step x y)

or_low : (x y : ℕ) → bit_or x y % 2 ≡ max (x % 2) (y % 2)
or_low x y = omega (arith, or_step x y)

bit : (x : ℕ) → x % 2 < 2
bit x = omega arith

merged : (k t e a b v : ℕ) → t < 2 ^ k → e < 2 ^ k → a < 2 ^ k → b < 2 ^ k → v < 2 ^ k → Merged t e a b v
merged zero t e a b v ht he ha hb hv =
    let zt : t ≡ 0 = omega arith in
    let ze : e ≡ 0 = omega arith in
    rw (zt, ze) refl
merged (suc k) t e a b v ht he ha hb hv =
    same (merged k (t / 2) (e / 2) (a / 2) (b / 2) (v / 2) (half t ht) (half e he) (half a ha) (half b hb) (half v hv))
  where
    half : (x : ℕ) → x < 2 ^ suc k → x / 2 < 2 ^ k
    half x h = omega (arith, pow-suc 2 k)

    X : ℕ
    X = bit_or t (bit_and e (bit_or a (bit_and b v)))

    Y : ℕ
    Y = bit_or (bit_or t (bit_and e a)) (bit_and (bit_and e b) v)

    X_half : X / 2 ≡ bit_or (t / 2) (bit_and (e / 2) (bit_or (a / 2) (bit_and (b / 2) (v / 2))))
    X_half =
        or_half t (bit_and e (bit_or a (bit_and b v)))
        ∙ ap (bit_or (t / 2)) (and_half e (bit_or a (bit_and b v)) ∙ ap (bit_and (e / 2)) (or_half a (bit_and b v) ∙ ap (bit_or (a / 2)) (and_half b v)))

    Y_half : Y / 2 ≡ bit_or (bit_or (t / 2) (bit_and (e / 2) (a / 2))) (bit_and (bit_and (e / 2) (b / 2)) (v / 2))
    Y_half =
        or_half (bit_or t (bit_and e a)) (bit_and (bit_and e b) v)
        ∙ ap₂ bit_or (or_half t (bit_and e a) ∙ ap (bit_or (t / 2)) (and_half e a)) (and_half (bit_and e b) v ∙ ap (λ (x : ℕ). bit_and x (v / 2)) (and_half e b))

    X_low : X % 2 ≡ max (t % 2) (min (e % 2) (max (a % 2) (min (b % 2) (v % 2))))
    X_low =
        or_low t (bit_and e (bit_or a (bit_and b v)))
        ∙ ap (max (t % 2)) (and_low e (bit_or a (bit_and b v)) ∙ ap (min (e % 2)) (or_low a (bit_and b v) ∙ ap (max (a % 2)) (and_low b v)))

    Y_low : Y % 2 ≡ max (max (t % 2) (min (e % 2) (a % 2))) (min (min (e % 2) (b % 2)) (v % 2))
    Y_low =
        or_low (bit_or t (bit_and e a)) (bit_and (bit_and e b) v)
        ∙ ap₂ max (or_low t (bit_and e a) ∙ ap (max (t % 2)) (and_low e a)) (and_low (bit_and e b) v ∙ ap (λ (x : ℕ). min x (v % 2)) (and_low e b))

    whole : (x y : ℕ) → x / 2 ≡ y / 2 → x % 2 ≡ y % 2 → x ≡ y
    whole x y h l = omega arith

    same : Merged (t / 2) (e / 2) (a / 2) (b / 2) (v / 2) → X ≡ Y
    same ih =
        whole X Y (X_half ∙ ih ∙ sym Y_half)
        (X_low ∙ merged_bits (t % 2) (e % 2) (a % 2) (b % 2) (v % 2) (bit e) (bit b) (bit a) (bit v) ∙ sym Y_low)

-- ---- look-ahead over twice the distance
module _ (n k t e v : ℕ) (ht : t < 2 ^ n) (he : e < 2 ^ n) (hv : v < 2 ^ n) where
  small : (x : ℕ) → x < 2 ^ n → x / 2 ^ k < 2 ^ n
  small x h = omega (arith, div-le_self x (2 ^ k))

  pub twice : v ≡ bit_or t (bit_and e (v / 2 ^ k)) → v ≡ bit_or (bit_or t (bit_and e (t / 2 ^ k))) (bit_and (bit_and e (e / 2 ^ k)) (v / 2 ^ k / 2 ^ k))
  twice h =
      h
      ∙ ap (λ (x : ℕ). bit_or t (bit_and e x))
      (ap (λ (x : ℕ). x / 2 ^ k) h ∙ or_shr t (bit_and e (v / 2 ^ k)) k ∙ ap (bit_or (t / 2 ^ k)) (and_shr e (v / 2 ^ k) k))
      ∙ merged n t e (t / 2 ^ k) (e / 2 ^ k) (v / 2 ^ k / 2 ^ k) ht he (small t ht) (small e he) (small (v / 2 ^ k) (small v hv))

-- ---- four times, so over all 32 places
-- t and e taken together over the distance k
abbrev pub nearer : ℕ → ℕ → ℕ → ℕ
nearer k t e = bit_or t (bit_and e (t / 2 ^ k))

abbrev pub chained : ℕ → ℕ → ℕ
chained k e = bit_and e (e / 2 ^ k)

module _ (k t e : ℕ) (ht : t < 2 ^ 32) (he : e < 2 ^ 32) where
  nearer_small : nearer k t e < 2 ^ 32
  nearer_small = or_lt 32 t (bit_and e (t / 2 ^ k)) ht (omega (arith, and_le_l e (t / 2 ^ k)))

  chained_small : chained k e < 2 ^ 32
  chained_small = omega (arith, and_le_l e (e / 2 ^ k))

  module _ (v K : ℕ) (hv : v < 2 ^ 32) (q : v / 2 ^ k / 2 ^ k ≡ v / K) where
    stretched : v ≡ bit_or t (bit_and e (v / 2 ^ k)) → v ≡ bit_or (nearer k t e) (bit_and (chained k e) (v / K))
    stretched h = twice 32 k t e v ht he hv h ∙ ap (λ (x : ℕ). bit_or (nearer k t e) (bit_and (chained k e) x)) q

module _ (t e v : ℕ) (ht : t < 2 ^ 32) (he : e < 2 ^ 32) (hv : v < 2 ^ 32) (h : v ≡ bit_or t (bit_and e (v / 4))) where
  pub four_times : v ≡ nearer 16 (nearer 8 (nearer 4 (nearer 2 t e) (chained 2 e)) (chained 4 (chained 2 e))) (chained 8 (chained 4 (chained 2 e)))
  four_times =
      let t1 = nearer 2 t e in
      let e1 = chained 2 e in
      let t2 = nearer 4 t1 e1 in
      let e2 = chained 4 e1 in
      let t3 = nearer 8 t2 e2 in
      let e3 = chained 8 e2 in
      let i1 = nearer_small 2 t e ht he in
      let j1 = chained_small 2 t e ht he in
      let i2 = nearer_small 4 t1 e1 i1 j1 in
      let j2 = chained_small 4 t1 e1 i1 j1 in
      let i3 = nearer_small 8 t2 e2 i2 j2 in
      let j3 = chained_small 8 t2 e2 i2 j2 in
      let q1 : v / 4 / 4 ≡ v / 16 = omega arith in
      let q2 : v / 16 / 16 ≡ v / 256 = omega arith in
      let q3 : v / 256 / 256 ≡ v / 65536 = omega arith in
      let q4 : v / 65536 / 65536 ≡ 0 = omega arith in
      let h1 = stretched 2 t e ht he v 16 hv q1 h in
      let h2 = stretched 4 t1 e1 i1 j1 v 256 hv q2 h1 in
      let h3 = stretched 8 t2 e2 i2 j2 v 65536 hv q3 h2 in
      twice 32 16 t3 e3 v i3 j3 hv h3
      ∙ ap (λ (x : ℕ). bit_or (nearer 16 t3 e3) (bit_and (chained 16 e3) x)) q4
      ∙ ap (bit_or (nearer 16 t3 e3)) (and_zero_r (chained 16 e3))
      ∙ or_zero_r (nearer 16 t3 e3)
