-- The value of a string is its first mask less its second. Equations between values are equations between natural numbers, and these are
-- what the other proofs work with.
use mathlib.Core.Path.{◌≡◌, refl, ap}
use mathlib.Core.Bool.{Bool, true, false, not, cond}
use mathlib.Core.Logic.{◌↔◌}
use Prim.Native.Nat.{ℕ, zero, suc, ◌+◌, ◌*◌, ◌-◌, ◌≤◌, ◌<◌, ◌^◌}
use native.Mathlib.Omega.{arith}
use lib.Dec.{T, ltb, ltb→lt, nltb→le}
use lib.IntN.{ℤ, pos, negsuc, neg_ℤ, sub_ℕ, ◌+ℤ◌, ◌-ℤ◌, ◌*ℤ◌}
use lib.ListN.{length, take}
use lib.Seq.{take-suc, take-length, length-take-le}
use Rattle.signed_digit.specs.Digit.{Digit, one, nought, minus_one, digit_value}
use Rattle.signed_digit.specs.String.{DigitString, digit_at}
use Rattle.sequence.specs.Sum.{sum_below}
use Rattle.signed_digit.specs.Value.{term, value}
use Rattle.signed_digit.specs.Masks.{plus_bit, minus_bit, plus_mask, minus_mask}
use Rattle.signed_digit.specs.Forms.{positive_part, negative_part}
use Rattle.signed_digit.proofs.Strings.{top_mask}

-- ---- whole numbers by their two parts
pub parts_eq : (m n : ℤ) → positive_part m + negative_part n ≡ negative_part m + positive_part n → m ≡ n
parts_eq (pos m) (pos n) e = let q : m ≡ n = omega arith in ap pos q
parts_eq (pos m) (negsuc n) e = absurd (omega arith)
parts_eq (negsuc m) (pos n) e = absurd (omega arith)
parts_eq (negsuc m) (negsuc n) e = let q : m ≡ n = omega arith in ap negsuc q

difference_parts : (a b : ℕ) → positive_part (sub_ℕ a b) + b ≡ negative_part (sub_ℕ a b) + a
difference_parts a b = go (ltb a b) (ltb→lt a b) (nltb→le a b)
  where
    go : (x : Bool) → (T x → a < b) → (T (not x) → b ≤ a)
        → positive_part (cond x (negsuc (b - suc a)) (pos (a - b))) + b ≡ negative_part (cond x (negsuc (b - suc a)) (pos (a - b))) + a
    go true h k = omega (arith, h tt)
    go false h k = omega (arith, k tt)

pub sum_parts : (m n : ℤ) → positive_part (m +ℤ n) + (negative_part m + negative_part n) ≡ negative_part (m +ℤ n) + (positive_part m + positive_part n)
sum_parts (pos m) (pos n) = omega arith
sum_parts (pos m) (negsuc n) = omega (arith, difference_parts m (suc n))
sum_parts (negsuc m) (pos n) = omega (arith, difference_parts n (suc m))
sum_parts (negsuc m) (negsuc n) = omega arith

pub negative_parts : (n : ℕ) → (positive_part (neg_ℤ (pos n)) ≡ 0) × (negative_part (neg_ℤ (pos n)) ≡ n)
negative_parts zero = (refl, refl)
negative_parts (suc n) = (refl, refl)

-- ---- the sum over the places
term_parts : (d : Digit) (x : ℕ) → positive_part (digit_value d *ℤ pos x) + x * minus_bit d ≡ negative_part (digit_value d *ℤ pos x) + x * plus_bit d
term_parts one x = omega arith
term_parts nought x = omega arith
term_parts minus_one x = omega (arith, negative_parts (1 * x))

below_parts : (s : DigitString) (n : ℕ) → n ≤ length s
    → positive_part (sum_below n (term s)) + minus_mask (take n s) ≡ negative_part (sum_below n (term s)) + plus_mask (take n s)
below_parts s zero h = refl
below_parts s (suc n) h =
    let d : Digit = digit_at s n in
    let q = take-suc s n nought (omega arith) in
    let l = ap (λ (x : ℕ). 2 ^ x) (length-take-le n s (omega arith)) in
    omega (
      arith,
      below_parts s n (omega arith),
      term_parts d (2 ^ n),
      sum_parts (sum_below n (term s)) (term s n),
      ap plus_mask q,
      ap minus_mask q,
      top_mask plus_bit d (take n s),
      top_mask minus_bit d (take n s),
      ap (λ (x : ℕ). x * plus_bit d) l,
      ap (λ (x : ℕ). x * minus_bit d) l,
    )

pub value_parts : (s : DigitString) → positive_part (value s) + minus_mask s ≡ negative_part (value s) + plus_mask s
unfolding value
value_parts s = rw take-length at (below_parts s (length s) (omega arith))

-- ---- equations between values
pub value_eq : (s : DigitString) (n : ℤ) → (value s ≡ n) ↔ (plus_mask s + negative_part n ≡ minus_mask s + positive_part n)
value_eq s n = (
  λ e. omega (arith, value_parts s, ap positive_part e, ap negative_part e),
  λ e. parts_eq (value s) n (omega (arith, value_parts s)),
)

pub values_eq : (s t : DigitString) → (value s ≡ value t) ↔ (plus_mask s + minus_mask t ≡ minus_mask s + plus_mask t)
values_eq s t = (
  λ e. omega (arith, value_parts s, value_parts t, ap positive_part e, ap negative_part e),
  λ e. parts_eq (value s) (value t) (omega (arith, value_parts s, value_parts t)),
)

-- Document 01: "Its value is the first mask minus the second".
pub value_masks : (s : DigitString) → value s ≡ pos (plus_mask s) -ℤ pos (minus_mask s)
value_masks s =
    let p : ℤ = pos (plus_mask s) in
    let m : ℤ = neg_ℤ (pos (minus_mask s)) in
    (value_eq s (p +ℤ m)).1 (omega (arith, sum_parts p m, negative_parts (minus_mask s)))
