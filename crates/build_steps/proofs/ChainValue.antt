-- The value that a chain ends with. Read from its highest nonzero digit down, a string of an odd positive value ends at this value.
-- Assumes nothing.
use mathlib.Core.Path.{◌≡◌, refl, ap, ◌∙◌}
use mathlib.Core.List.{[], ◌∷◌, ◌++◌, reverse, reverse-cons}
use Prim.Native.Nat.{ℕ, zero, suc, ◌+◌, ◌*◌, ◌-◌, ◌%◌, ◌^◌, ◌≤◌, ◌<◌}
use native.Mathlib.Nat.{pow-suc, pow-succ', mul_assoc, le_refl}
use native.Mathlib.Omega.{arith}
use lib.ListN.{length, length-append}
use Rattle.signed_digit.specs.Digit.{Digit, one, nought, minus_one, nonzero}
use Rattle.signed_digit.specs.String.{DigitString}
use Rattle.signed_digit.specs.Weight.{weight}
use Rattle.signed_digit.specs.Masks.{mask, plus_bit, minus_bit}
use Rattle.build_steps.specs.Chain.{chain_value, chain_end}
use Rattle.build_steps.specs.CanBuild.{LeadingOne}

-- ---- 2^gap·v, for a gap of one place or more
pub doubled : (g v : ℕ) → 2 ^ suc g * v ≡ 2 * (2 ^ g * v)
doubled g v = rw (pow-succ' 2 g) (mul_assoc 2 (2 ^ g) v)

pub no_less : (g v : ℕ) → v ≤ 2 ^ g * v
no_less zero v = omega arith
no_less (suc g) v = omega (arith, no_less g v, doubled g v)

-- the values of a chain never fall
pub never_falls : (v g : ℕ) (s : DigitString) → 1 ≤ v → v ≤ chain_value v (suc g) s
unfolding chain_value
never_falls v g [] p = le_refl v
never_falls v g (nought ∷ s) p = never_falls v (suc g) s p
never_falls v g (one ∷ s) p = omega (arith, no_less (suc g) v, never_falls (2 ^ suc g * v + 1) 0 s (omega arith))
never_falls v g (minus_one ∷ s) p =
    let d = doubled g v in
    let n = no_less g v in
    omega (arith, never_falls (2 ^ suc g * v - 1) 0 s (omega arith))

-- ---- masks of a string whose digits stand from high to low
high_mask : (Digit → ℕ) → DigitString → ℕ
high_mask f [] = 0
high_mask f (d ∷ s) = f d * 2 ^ length s + high_mask f s

high_last : (f : Digit → ℕ) (s : DigitString) (d : Digit) → high_mask f (s ++ (d ∷ [])) ≡ f d + 2 * high_mask f s
unfolding high_mask
high_last f [] d = omega arith
high_last f (e ∷ s) d =
    let l : length (s ++ (d ∷ [])) ≡ suc (length s) = omega (arith, length-append s (d ∷ [])) in
    let q = ap (λ (n : ℕ). f e * 2 ^ n) l ∙ ap (λ (x : ℕ). f e * x) (pow-suc 2 (length s)) in
    omega (arith, high_last f s d)

high_reverse : (f : Digit → ℕ) (s : DigitString) → high_mask f (reverse s) ≡ mask f s
unfolding high_mask
high_reverse f [] = refl
high_reverse f (d ∷ s) = ap (high_mask f) (reverse-cons d s) ∙ omega (arith, high_last f (reverse s) d, high_reverse f s)

high_small : (s : DigitString) → high_mask plus_bit s + high_mask minus_bit s < 2 ^ length s
unfolding high_mask
high_small [] = omega arith
high_small (one ∷ s) = omega (arith, high_small s, pow-suc 2 (length s))
high_small (nought ∷ s) = omega (arith, high_small s, pow-suc 2 (length s))
high_small (minus_one ∷ s) = omega (arith, high_small s, pow-suc 2 (length s))

-- ---- a chain's last value t, by masks: a is the number read so far, n the weight of the place above the digits left
abbrev Reads : ℕ → ℕ → DigitString → Type 0
Reads t a s = t + high_mask minus_bit s ≡ high_mask plus_bit s + a * 2 ^ length s

last_odd : (v g t : ℕ) → t ≡ 2 ^ g * v → t % 2 ≡ 1 → v ≡ t
last_odd v zero t e o = omega arith
last_odd v (suc g) t e o = absurd (omega (arith, doubled g v))

next_zero : (a b n p m t : ℕ) → b ≡ 2 * a → t + (0 * n + m) ≡ 0 * n + p + a * (2 * n) → t + m ≡ p + b * n
next_zero a b n p m t e h = omega (arith, ap (λ (x : ℕ). x * n) e)

next_one : (a b n p m t : ℕ) → b ≡ 2 * a + 1 → t + (0 * n + m) ≡ 1 * n + p + a * (2 * n) → t + m ≡ p + b * n
next_one a b n p m t e h = omega (arith, ap (λ (x : ℕ). x * n) e)

next_minus : (a b n p m t : ℕ) → b + 1 ≡ 2 * a → t + (1 * n + m) ≡ 0 * n + p + a * (2 * n) → t + m ≡ p + b * n
next_minus a b n p m t e h = omega (arith, ap (λ (x : ℕ). x * n) e)

above_is : (a : ℕ) (s : DigitString) → a * 2 ^ suc (length s) ≡ a * (2 * 2 ^ length s)
above_is a s = ap (λ (x : ℕ). a * x) (pow-succ' 2 (length s))

chain_reads : (v g t : ℕ) (s : DigitString) → 1 ≤ v → t % 2 ≡ 1 → Reads t (2 ^ g * v) s → chain_value v (suc g) s ≡ t
unfolding chain_value high_mask
chain_reads v g t [] p o h = last_odd v g t (omega arith) o
chain_reads v g t (nought ∷ s) p o h =
    chain_reads v (suc g) t s p o
    (next_zero (2 ^ g * v) (2 ^ suc g * v) (2 ^ length s) (high_mask plus_bit s) (high_mask minus_bit s) t (doubled g v) (rw (above_is (2 ^ g * v) s) at h))
chain_reads v g t (one ∷ s) p o h =
    chain_reads (2 ^ suc g * v + 1) 0 t s (omega arith) o
    (next_one (2 ^ g * v) (2 ^ 0 * (2 ^ suc g * v + 1)) (2 ^ length s) (high_mask plus_bit s) (high_mask minus_bit s) t (omega (arith, doubled g v)) (rw (above_is (2 ^ g * v) s) at h))
chain_reads v g t (minus_one ∷ s) p o h =
    let d = doubled g v in
    let n = no_less g v in
    chain_reads (2 ^ suc g * v - 1) 0 t s (omega arith) o
    (next_minus (2 ^ g * v) (2 ^ 0 * (2 ^ suc g * v - 1)) (2 ^ length s) (high_mask plus_bit s) (high_mask minus_bit s) t (omega arith) (rw (above_is (2 ^ g * v) s) at h))

end_reads : (t : ℕ) (s : DigitString) → t % 2 ≡ 1 → t + high_mask minus_bit s ≡ high_mask plus_bit s → chain_end s ≡ t
unfolding chain_end high_mask
end_reads t [] o h = absurd (omega arith)
end_reads t (nought ∷ s) o h = end_reads t s o (omega arith)
end_reads t (one ∷ s) o h = chain_reads 1 0 t s (omega arith) o (omega arith)
end_reads t (minus_one ∷ s) o h = absurd (omega (arith, high_small s))

-- a string of the odd value t, its digits from low to high, by its masks
pub chain_ends : (t : ℕ) (s : DigitString) → t % 2 ≡ 1 → mask plus_bit s ≡ mask minus_bit s + t → chain_end (reverse s) ≡ t
chain_ends t s o h = end_reads t (reverse s) o (omega (arith, high_reverse plus_bit s, high_reverse minus_bit s))

-- ---- the highest nonzero digit, where a chain has an end, is a 1
pub leading_one : (s : DigitString) → 1 ≤ chain_end s → LeadingOne s
unfolding chain_end
leading_one [] l = absurd (omega arith)
leading_one (nought ∷ s) l =
    let r = leading_one s l in
    record { zeros = suc r.zeros; rest = r.rest; is = ap (λ (x : DigitString). nought ∷ x) r.is; ends = r.ends }
leading_one (one ∷ s) l = record { zeros = 0; rest = s; is = refl; ends = refl }
leading_one (minus_one ∷ s) l = absurd (omega arith)

-- ---- the weight does not depend on the direction
weight_last : (s : DigitString) (d : Digit) → weight (s ++ (d ∷ [])) ≡ nonzero d + weight s
weight_last [] d = refl
weight_last (e ∷ s) d = omega (arith, weight_last s d)

pub weight_reverse : (s : DigitString) → weight (reverse s) ≡ weight s
weight_reverse [] = refl
weight_reverse (d ∷ s) = ap weight (reverse-cons d s) ∙ omega (arith, weight_last (reverse s) d, weight_reverse s)
