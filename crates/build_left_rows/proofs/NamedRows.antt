-- The digits of a mask, read from its low end from one that is 1 to the next. Assumes nothing.
use mathlib.Core.Path.{◌≡◌, sym, ap, subst, ◌∙◌}
use mathlib.Core.Logic.{⊎_elim}
use Prim.Native.Nat.{ℕ, suc, ◌+◌, ◌*◌, ◌-◌, ◌/◌, ◌%◌, ◌^◌, ◌≤◌, ◌<◌}
use native.Mathlib.Nat.{mul_assoc, pow-suc, eq-or-lt_of_le, div-eq_of_lt}
use native.Mathlib.Omega.{arith}
use mathlib.Core.List.{List}
use lib.ListN.{get_or}
use lib.Count.{count_trailing_zeros}
use lib.Pow.{pow-add, pow_mono, shl-shr, shr-shr, shr_le}
use Rattle.build_left_rows.specs.Inner.{NoTurn}
use Rattle.std.proofs.lemmas.Bool.{cases_lt}
use Rattle.build_left_rows.proofs.Turns.{fewer_turns}
use Rattle.word.proofs.LowZeros.{odd_part, zeros_are}

module _ (x : ℕ) (small : x < 2 ^ 32) (some : 1 ≤ x) where
  -- the digit at the number of low zeros is 1
  digit_one : x / 2 ^ count_trailing_zeros 32 x % 2 ≡ 1
  digit_one =
      let o = odd_part x some in
      rw (zeros_are 32 x small o.part o.shift o.odd o.product) (ap (λ (y : ℕ). y / 2 ^ o.shift % 2) o.product ∙ ap (λ (y : ℕ). y % 2) (shl-shr o.part o.shift) ∙ o.odd)

  -- and the digits below it are 0
  digits_zero : (i : ℕ) → i < count_trailing_zeros 32 x → x / 2 ^ i % 2 ≡ 0
  digits_zero i h =
      let o = odd_part x some in
      let z = zeros_are 32 x small o.part o.shift o.odd o.product in
      let e = o.shift - suc i in
      let q : o.shift ≡ suc e + i = omega (arith, z) in
      let p : x ≡ o.part * 2 ^ suc e * 2 ^ i = o.product ∙ ap (λ (k : ℕ). o.part * 2 ^ k) q ∙ ap (λ (y : ℕ). o.part * y) (pow-add 2 (suc e) i) ∙ sym (mul_assoc o.part (2 ^ suc e) (2 ^ i)) in
      let r : x / 2 ^ i ≡ o.part * 2 ^ suc e = ap (λ (y : ℕ). y / 2 ^ i) p ∙ shl-shr (o.part * 2 ^ suc e) i in
      omega (arith, r, ap (λ (y : ℕ). o.part * y) (pow-suc 2 e), mul_assoc o.part (2 ^ e) 2)

-- the right row at place i has a number, and no turn below `low` is it
abbrev pub Named : (ℕ → ℕ → Type 0) → List ℕ → List ℕ → ℕ → ℕ → ℕ → Type 0
Named number table values at low i = (x : ℕ) × number (get_or values (at + i) 0) x × NoTurn table low x

module _ (P : ℕ → Type 0) (mask : ℕ) where
  -- the digits below place k are read: P holds of each that is 1, and the others are left
  pub record Read (rest k : ℕ) : Type 0 where
    pub left : rest ≡ mask / 2 ^ k
    pub below : (i : ℕ) → i < k → mask / 2 ^ i % 2 ≡ 1 → P i

  pub read_none : Read mask 0
  read_none = record { left = omega arith; below = λ i l e. absurd (omega arith) }

  module _ (rest k : ℕ) (r : Read rest k) (small : mask < 2 ^ 8) (some : 1 ≤ rest) where
    abbrev zeros : ℕ
    zeros = count_trailing_zeros 32 rest

    rest_small : rest < 2 ^ 32
    rest_small = omega (arith, r.left, shr_le mask k)

    next_is : rest / 2 ^ zeros ≡ mask / 2 ^ (k + zeros)
    next_is = ap (λ (x : ℕ). x / 2 ^ zeros) r.left ∙ shr-shr mask k zeros

    -- the next digit that is 1 is one of eight
    pub read_place : k + count_trailing_zeros 32 rest < 8
    read_place =
        ⊎_elim (λ (h : k + zeros < 8). h)
        (λ (h : 8 ≤ k + zeros). absurd (omega (arith, digit_one rest rest_small some, next_is, high h)))
        (cases_lt (k + zeros) 8)
      where
        high : 8 ≤ k + count_trailing_zeros 32 rest → mask / 2 ^ (k + count_trailing_zeros 32 rest) ≡ 0
        high h = div-eq_of_lt (omega (arith, pow_mono {i = 8} {j = k + count_trailing_zeros 32 rest} h))

    pub read_next : (k' : ℕ) → k' ≡ k + count_trailing_zeros 32 rest + 1 → P (k + count_trailing_zeros 32 rest) → Read (rest / 2 ^ count_trailing_zeros 32 rest / 2) k'
    read_next k' q p = record {
      left = ap (λ (x : ℕ). x / 2) next_is ∙ shr-shr mask (k + zeros) 1 ∙ ap (λ (x : ℕ). mask / 2 ^ x) (sym q);
      below = λ i l e.
          ⊎_elim (λ (b : i < k). r.below i b e)
          (λ (b : k ≤ i).
          ⊎_elim (λ (same : i ≡ k + zeros). subst P (sym same) p)
          (λ (lt : i < k + zeros).
          let q : k + (i - k) ≡ i = omega arith in
          let d : rest / 2 ^ (i - k) ≡ mask / 2 ^ i = ap (λ (x : ℕ). x / 2 ^ (i - k)) r.left ∙ shr-shr mask k (i - k) ∙ ap (λ (x : ℕ). mask / 2 ^ x) q in
          absurd (omega (arith, digits_zero rest rest_small some (i - k) (omega arith), d, e)))
          (eq-or-lt_of_le (let w : i ≤ k + zeros = omega arith in w)))
          (cases_lt i k);
    }

  -- nothing is left
  pub read_all : (rest k : ℕ) → Read rest k → rest ≡ 0 → (i : ℕ) → mask / 2 ^ i % 2 ≡ 1 → P i
  read_all rest k r z i e =
      ⊎_elim (λ (b : i < k). r.below i b e)
      (λ (b : k ≤ i).
      let q : k + (i - k) ≡ i = omega arith in
      let d : rest / 2 ^ (i - k) ≡ mask / 2 ^ i = ap (λ (x : ℕ). x / 2 ^ (i - k)) r.left ∙ shr-shr mask k (i - k) ∙ ap (λ (x : ℕ). mask / 2 ^ x) q in
      absurd (omega (arith, d, e, shr_le rest (i - k), z)))
      (cases_lt i k)

pub read_map : (P Q : ℕ → Type 0) (mask rest k : ℕ) → ((i : ℕ) → P i → Q i) → Read P mask rest k → Read Q mask rest k
read_map P Q mask rest k f r = record { left = r.left; below = λ i l e. f i (r.below i l e) }

-- fewer turns
pub fewer_named : (number : ℕ → ℕ → Type 0) (table values : List ℕ) (at low low' mask rest k : ℕ) → low' ≤ low
    → Read (Named number table values at low) mask rest k → Read (Named number table values at low') mask rest k
fewer_named number table values at low low' mask rest k h r = record {
  left = r.left;
  below = λ i l e. let (x, is, none) = r.below i l e in (x, is, fewer_turns table low low' x h none);
}
