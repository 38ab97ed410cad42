-- The nonzero canonical digits of n stand one place below the ones of 3n xor n. With n, the difference of the two masks, that gives both.
-- Assumes nothing.
use mathlib.Core.Path.{◌≡◌, refl, sym, ap, ap₂, ◌∙◌}
use mathlib.Core.List.{◌∷◌}
use Prim.Native.Nat.{ℕ, zero, suc, ◌+◌, ◌*◌, ◌≤◌, ◌<◌, ◌^◌, ◌/◌, ◌%◌}
use native.Mathlib.Nat.{pow-suc}
use native.Mathlib.Omega.{arith}
use lib.Bits.{bit_xor, xor_step, differ}
use Rattle.signed_digit.specs.String.{DigitString}
use Rattle.signed_digit.specs.Masks.{minus_bit, plus_mask, minus_mask}
use Rattle.signed_digit.specs.CanonicalForm.{lowest_digit, canonical_nat}
use Rattle.signed_digit.proofs.Strings.{small}
use Rattle.signed_digit.proofs.Masks.{half_of, rest_of}
use Rattle.signed_digit.proofs.CanonicalForm.{canonical_nat_worth, canonical_nat_places}

-- ---- 3n + c xor n, by the lowest digit of n
abbrev tripled : ℕ → ℕ → ℕ
tripled c n = bit_xor (3 * n + c) n

by_bits : (c n i j x y : ℕ) → i < 2 → j < 2 → 3 * n + c ≡ i + 2 * x → n ≡ j + 2 * y → tripled c n ≡ differ i j + 2 * bit_xor x y
by_bits c n i j x y h k e f = ap₂ bit_xor e f ∙ xor_step (i + 2 * x) (j + 2 * y) ∙ ap₂ (λ (u v : ℕ). u * 2 + v) rest low ∙ swap (bit_xor x y) (differ i j)
  where
    rest : bit_xor ((i + 2 * x) / 2) ((j + 2 * y) / 2) ≡ bit_xor x y
    rest = ap₂ bit_xor (half_of x i h) (half_of y j k)

    low : differ ((i + 2 * x) % 2) ((j + 2 * y) % 2) ≡ differ i j
    low = ap₂ differ (rest_of x i h) (rest_of y j k)

    swap : (u v : ℕ) → u * 2 + v ≡ v + 2 * u
    swap u v = omega arith

even_0 : (j : ℕ) → tripled 0 (2 * j) ≡ 2 * tripled 0 j
even_0 j = omega (arith, by_bits 0 (2 * j) 0 0 (3 * j + 0) j (omega arith) (omega arith) (omega arith) (omega arith))

odd_0 : (j : ℕ) → tripled 0 (2 * j + 1) ≡ 2 * tripled 1 j
odd_0 j = omega (arith, by_bits 0 (2 * j + 1) 1 1 (3 * j + 1) j (omega arith) (omega arith) (omega arith) (omega arith))

even_1 : (j : ℕ) → tripled 1 (2 * j) ≡ 1 + 2 * tripled 0 j
even_1 j = omega (arith, by_bits 1 (2 * j) 1 0 (3 * j + 0) j (omega arith) (omega arith) (omega arith) (omega arith))

odd_1 : (j : ℕ) → tripled 1 (2 * j + 1) ≡ 1 + 2 * tripled 2 j
odd_1 j = omega (arith, by_bits 1 (2 * j + 1) 0 1 (3 * j + 2) j (omega arith) (omega arith) (omega arith) (omega arith))

even_2 : (j : ℕ) → tripled 2 (2 * j) ≡ 2 * tripled 1 j
even_2 j = omega (arith, by_bits 2 (2 * j) 0 0 (3 * j + 1) j (omega arith) (omega arith) (omega arith) (omega arith))

odd_2 : (j : ℕ) → tripled 2 (2 * j + 1) ≡ 2 * tripled 2 j
odd_2 j = omega (arith, by_bits 2 (2 * j + 1) 1 1 (3 * j + 2) j (omega arith) (omega arith) (omega arith) (omega arith))

-- with 2 carried it is the next number's
carry : (f n : ℕ) → n < f → tripled 2 n ≡ tripled 0 (n + 1)
carry zero n h = absurd (omega arith)
carry (suc f) n h = go (n % 2) refl (carry f (n / 2))
  where
    go : (r : ℕ) → n % 2 ≡ r → (n / 2 < f → tripled 2 (n / 2) ≡ tripled 0 (n / 2 + 1)) → tripled 2 n ≡ tripled 0 (n + 1)
    go zero e ih =
        let q : n ≡ 2 * (n / 2) = omega arith in
        ap (tripled 2) q ∙ even_2 (n / 2) ∙ sym (odd_0 (n / 2)) ∙ ap (λ (x : ℕ). tripled 0 (x + 1)) (sym q)
    go (suc zero) e ih =
        let q : n ≡ 2 * (n / 2) + 1 = omega arith in
        let w : 2 * (n / 2 + 1) ≡ n + 1 = omega arith in
        omega (arith, ap (tripled 2) q, odd_2 (n / 2), ih (omega arith), even_0 (n / 2 + 1), ap (tripled 0) w)
    go (suc (suc r)) e ih = absurd (omega arith)

-- ---- the canonical string
-- the places that hold 1 or -1
abbrev nonzeros : DigitString → ℕ
nonzeros s = plus_mask s + minus_mask s

abbrev Tripled : ℕ → Type 0
Tripled p = (n : ℕ) → 3 * n ≤ 2 * 2 ^ p → tripled 0 n ≡ 2 * nonzeros (canonical_nat p n)

-- by the remainder r that gives the lowest digit
by_remainder : (p n r : ℕ) → n % 4 ≡ r → 3 * n ≤ 4 * 2 ^ p → Tripled p
    → tripled 0 n ≡ 2 * nonzeros (lowest_digit r ∷ canonical_nat p ((n + minus_bit (lowest_digit r)) / 2))
by_remainder p n zero e h ih =
    let m : ℕ = (n + 0) / 2 in
    let q : n ≡ 2 * m = omega arith in
    omega (arith, ih m (omega arith), ap (tripled 0) q, even_0 m)
by_remainder p n (suc (suc zero)) e h ih =
    let m : ℕ = (n + 0) / 2 in
    let q : n ≡ 2 * m = omega arith in
    omega (arith, ih m (omega arith), ap (tripled 0) q, even_0 m)
by_remainder p n (suc zero) e h ih =
    let m : ℕ = (n + 0) / 2 in
    let i : ℕ = n / 4 in
    let q : n ≡ 2 * m + 1 = omega arith in
    let w : m ≡ 2 * i = omega arith in
    omega (arith, ih m (omega arith), ap (tripled 0) q, odd_0 m, ap (tripled 1) w, ap (tripled 0) w, even_0 i, even_1 i)
by_remainder p n (suc (suc (suc zero))) e h ih =
    let m : ℕ = (n + 1) / 2 in
    let i : ℕ = n / 4 in
    let q : n ≡ 2 * (2 * i + 1) + 1 = omega arith in
    let w : m ≡ 2 * (i + 1) = omega arith in
    let l = third i (2 ^ p) (omega arith) in
    omega (arith, ih m (omega arith), ap (tripled 0) q, odd_0 (2 * i + 1), odd_1 i, carry (suc i) i (omega arith), ap (tripled 0) w, even_0 (i + 1))
  where
    third : (i x : ℕ) → 12 * i + 9 ≤ 4 * x → 3 * i + 3 ≤ x
    third i x h = omega arith
by_remainder p n (suc (suc (suc (suc r)))) e h ih = absurd (omega arith)

canonical_tripled : (p : ℕ) → Tripled p
unfolding canonical_nat
canonical_tripled zero n h = let z : n ≡ 0 = omega arith in ap (tripled 0) z
canonical_tripled (suc p) n h = by_remainder p n (n % 4) refl (omega (arith, pow-suc 2 p)) (canonical_tripled p)

-- ---- the two masks, from 3n xor n and n
pub record Masks (p n both plus minus : ℕ) : Type 0 where
  pub nonzero : both ≡ plus + minus
  pub difference : plus ≡ minus + n
  pub small : plus + minus < 2 ^ p

pub canonical_masks : (p n : ℕ) → 3 * n ≤ 2 * 2 ^ p → Masks p n (bit_xor (3 * n) n / 2) (plus_mask (canonical_nat p n)) (minus_mask (canonical_nat p n))
canonical_masks p n h =
    let c : DigitString = canonical_nat p n in
    let q : bit_xor (3 * n) n ≡ 2 * (plus_mask c + minus_mask c) = ap (λ (x : ℕ). bit_xor x n) (flat (3 * n)) ∙ canonical_tripled p n h in
    record {
      nonzero = omega arith;
      difference = omega (arith, canonical_nat_worth p n h);
      small = omega (arith, small c, ap (λ (x : ℕ). 2 ^ x) (canonical_nat_places p n));
    }
  where
    flat : (x : ℕ) → x ≡ x + 0
    flat x = omega arith
