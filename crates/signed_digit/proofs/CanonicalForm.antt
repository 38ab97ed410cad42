-- `canonical p n` is a canonical string of value n, where p places hold one.
use mathlib.Core.Path.{◌≡◌, refl, ap, ◌∙◌}
use Prim.Native.Nat.{ℕ, zero, suc, ◌+◌, ◌*◌, ◌≤◌, ◌^◌, ◌/◌, ◌%◌}
use native.Mathlib.Nat.{pow-suc}
use native.Mathlib.Omega.{arith}
use lib.IntN.{ℤ, pos, negsuc, nat_abs}
use lib.ListN.{length}
use Rattle.signed_digit.specs.Digit.{Digit, nonzero}
use Rattle.signed_digit.specs.String.{DigitString, digit_at}
use Rattle.signed_digit.specs.Value.{value}
use Rattle.signed_digit.specs.Canonical.{Canonical}
use Rattle.signed_digit.specs.Masks.{plus_bit, minus_bit}
use Rattle.signed_digit.specs.CanonicalForm.{lowest_digit, canonical_nat, negated, canonical}
use Rattle.signed_digit.specs.Forms.{positive_part, negative_part}
use Rattle.signed_digit.proofs.Strings.{bit, opposite_bits, negated_is, negated_digit}
use Rattle.signed_digit.proofs.Value.{value_eq}
use Rattle.signed_digit.proofs.Minimal.{Worth}

-- the lowest digit d of n, and the number m that is left for the places above
record Low (n : ℕ) (d : Digit) (m : ℕ) : Type 0 where
  quarter : ℕ
  two : ℕ
  number : n ≡ 4 * quarter + (plus_bit d + 3 * minus_bit d + 2 * two)
  left : m ≡ 2 * quarter + 2 * minus_bit d + two
  alone : two + nonzero d ≤ 1

low : (n : ℕ) → Low n (lowest_digit (n % 4)) ((n + minus_bit (lowest_digit (n % 4))) / 2)
low n = go (n % 4) refl
  where
    go : (r : ℕ) → n % 4 ≡ r → Low n (lowest_digit r) ((n + minus_bit (lowest_digit r)) / 2)
    go zero e = record { quarter = n / 4; two = 0; number = omega arith; left = omega arith; alone = omega arith }
    go (suc zero) e = record { quarter = n / 4; two = 0; number = omega arith; left = omega arith; alone = omega arith }
    go (suc (suc zero)) e = record { quarter = n / 4; two = 1; number = omega arith; left = omega arith; alone = omega arith }
    go (suc (suc (suc zero))) e = record { quarter = n / 4; two = 0; number = omega arith; left = omega arith; alone = omega arith }
    go (suc (suc (suc (suc r)))) e = absurd (omega arith)

-- two thirds of 2^p are the most that p places hold without adjacent nonzero digits
fits : (q u d w x : ℕ) → w + (u + d) ≤ 1 → 3 * (4 * q + (u + 3 * d + 2 * w)) ≤ 4 * x → 3 * (2 * q + 2 * d + w) ≤ 2 * x
fits q u zero w x e h = omega arith
fits q u (suc zero) w x e h = let z : 3 * q + 3 ≤ x = omega arith in omega arith
fits q u (suc (suc d)) w x e h = absurd (omega arith)

-- above a nonzero digit the number that is left is even
not_adjacent : (n m k : ℕ) (d e : Digit) → Low n d m → Low m e k → nonzero d + nonzero e ≤ 1
not_adjacent n m k d e x y = go x.two refl
  where
    even : (a b n : ℕ) → n ≤ 1 → 2 * a ≡ 2 * b + n → n ≡ 0
    even a b n h q = omega arith

    go : (w : ℕ) → x.two ≡ w → nonzero d + nonzero e ≤ 1
    go zero q =
        let z = even (x.quarter + minus_bit d) (2 * y.quarter + minus_bit e + y.two) (nonzero e) (bit e).1 (omega (arith, bit e)) in
        omega (arith, bit d)
    go (suc w) q = omega (arith, bit e)

pub canonical_nat_worth : (p n : ℕ) → 3 * n ≤ 2 * 2 ^ p → Worth n 0 (canonical_nat p n)
unfolding canonical_nat
canonical_nat_worth zero n h = omega arith
canonical_nat_worth (suc p) n h =
    let d : Digit = lowest_digit (n % 4) in
    let l = low n in
    let f = fits l.quarter (plus_bit d) (minus_bit d) l.two (2 ^ p) (omega (arith, bit d)) (omega (arith, pow-suc 2 p)) in
    omega (arith, canonical_nat_worth p ((n + minus_bit d) / 2) (omega arith))

pub canonical_nat_places : (p n : ℕ) → length (canonical_nat p n) ≡ p
unfolding canonical_nat
canonical_nat_places zero n = refl
canonical_nat_places (suc p) n = ap suc (canonical_nat_places p ((n + minus_bit (lowest_digit (n % 4))) / 2))

pub canonical_nat_canonical : (p n : ℕ) → Canonical (canonical_nat p n)
unfolding canonical_nat
canonical_nat_canonical zero n i = omega arith
canonical_nat_canonical (suc zero) n zero = omega (arith, bit (lowest_digit (n % 4)))
canonical_nat_canonical (suc (suc p)) n zero =
    let m : ℕ = (n + minus_bit (lowest_digit (n % 4))) / 2 in
    not_adjacent n m ((m + minus_bit (lowest_digit (m % 4))) / 2) (lowest_digit (n % 4)) (lowest_digit (m % 4)) (low n) (low m)
canonical_nat_canonical (suc p) n (suc i) = canonical_nat_canonical p ((n + minus_bit (lowest_digit (n % 4))) / 2) i

pub negated_canonical : (s : DigitString) → Canonical s → Canonical (negated s)
negated_canonical s h i =
    omega (arith, h i, same i, same (suc i))
  where
    same : (i : ℕ) → nonzero (digit_at (negated s) i) ≡ nonzero (digit_at s i)
    same i = ap nonzero (negated_digit s i) ∙ (opposite_bits (digit_at s i)).2

pub canonical_canonical : (p : ℕ) (n : ℤ) → Canonical (canonical p n)
canonical_canonical p (pos n) = canonical_nat_canonical p n
canonical_canonical p (negsuc n) = negated_canonical (canonical_nat p (suc n)) (canonical_nat_canonical p (suc n))

pub canonical_places : (p : ℕ) (n : ℤ) → length (canonical p n) ≡ p
canonical_places p (pos n) = canonical_nat_places p n
canonical_places p (negsuc n) = (negated_is (canonical_nat p (suc n))).places ∙ canonical_nat_places p (suc n)

pub canonical_worth : (p : ℕ) (n : ℤ) → 3 * nat_abs n ≤ 2 * 2 ^ p → Worth (positive_part n) (negative_part n) (canonical p n)
canonical_worth p (pos n) h = canonical_nat_worth p n h
canonical_worth p (negsuc n) h = omega (arith, canonical_nat_worth p (suc n) h, negated_is (canonical_nat p (suc n)))

pub canonical_value : (p : ℕ) (n : ℤ) → 3 * nat_abs n ≤ 2 * 2 ^ p → value (canonical p n) ≡ n
canonical_value p n h = (value_eq (canonical p n) n).1 (canonical_worth p n h)
