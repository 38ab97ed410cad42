-- Which floats round to a coefficient, by the two tests of `rounds_within`. Assumes nothing.
use mathlib.Core.Path.{◌≡◌, refl, sym, ap, ◌∙◌}
use mathlib.Core.Logic.{◌⊎◌, inl, inr}
use mathlib.Core.Bool.{Bool, true, false, not, ◌&&◌, ◌||◌, cond, true≢false, false≢true}
use Prim.Native.Nat.{ℕ, zero, suc, ◌+◌, ◌-◌, ◌*◌, ◌^◌, ◌≤◌, ◌<◌}
use native.Mathlib.Nat.{le_of_eq, le_of_lt, le_antisymm, mul-pos}
use native.Mathlib.Omega.{arith}
use lib.IntN.{ℤ, negsuc}
use lib.Dec.{leb, ltb, eqb, lit≤, lit<}
use lib.Ieee.{Float, nan, inf, fin, up, down, lt, le, eq}
use lib.Ieee.Fits.{down_pos}
use borrow.Author.Tests.{lt-ltb, le-ltb, eq-eqb, ne_eqb, ltb-true, ltb-false, leb-true, leb-false, not-true, not-false}
use Rattle.word.specs.Bounds.{within_bounds}
use Rattle.word.proofs.Order.{lt_or_le}
use Rattle.tap.specs.Rounding.{nearest_whole, signed}
use Rattle.tap.specs.Inner.{nearest_of, rounds_within_of}
use Rattle.tap.proofs.Whole.{nearest_le, nearest_gt}
use Rattle.tap.proofs.Rule.{even_le, odd_lt}

-- ---- the largest n for which ±n is a coefficient
abbrev pub most : Bool → ℕ
most s = cond s (2 ^ 31) (2 ^ 31 - 1)

pub most_le : (s : Bool) → most s ≤ 2 ^ 31
most_le true = le_of_eq refl
most_le false = lit≤ tt

pub below_far : (s : Bool) → most s < 2 ^ 32
below_far true = lit< tt
below_far false = lit< tt

one_more : (n : ℕ) → n ≤ 2 ^ 31 - 1 → suc n ≤ 2 ^ 31
one_more n h = omega arith

past : (n : ℕ) → 2 ^ 31 - 1 < n → 2 ^ 31 < suc n
past n h = omega arith

-- ±n is outside the bounds where n is above it
pub within_most : (s : Bool) (n : ℕ) → not (within_bounds (signed s n)) ≡ ltb (most s) n
within_most false n = go (leb n (2 ^ 31 - 1)) refl
  where
    go : (b : Bool) → leb n (2 ^ 31 - 1) ≡ b → not (leb n (2 ^ 31 - 1)) ≡ ltb (2 ^ 31 - 1) n
    go true h = ap not h ∙ sym (le-ltb (2 ^ 31 - 1) n (leb-true n (2 ^ 31 - 1) h))
    go false h = ap not h ∙ sym (lt-ltb (2 ^ 31 - 1) n (leb-false n (2 ^ 31 - 1) h))
within_most true zero = refl
within_most true (suc n) = go (leb n (2 ^ 31 - 1)) refl
  where
    go : (b : Bool) → leb n (2 ^ 31 - 1) ≡ b → not (leb n (2 ^ 31 - 1) && true) ≡ ltb (2 ^ 31) (suc n)
    go true h = ap (λ (b : Bool). not (b && true)) h ∙ sym (le-ltb (2 ^ 31) (suc n) (one_more n (leb-true n (2 ^ 31 - 1) h)))
    go false h = ap (λ (b : Bool). not (b && true)) h ∙ sym (lt-ltb (2 ^ 31) (suc n) (past n (leb-false n (2 ^ 31 - 1) h)))

up_to_most : (s : Bool) (n : ℕ) → n ≤ most s → within_bounds (signed s n) ≡ true
up_to_most s n h = not-false (within_bounds (signed s n)) (within_most s n ∙ le-ltb (most s) n h)

past_most : (s : Bool) (n : ℕ) → most s < n → within_bounds (signed s n) ≡ false
past_most s n h = not-true (within_bounds (signed s n)) (within_most s n ∙ lt-ltb (most s) n h)

-- ---- `rounds_within_of` of a finite float
pub nearest_is : (s : Bool) (m : ℕ) (e : ℤ) → nearest_of (fin s m e) ≡ signed s (nearest_whole (m * up e) (down e))
unfolding nearest_of
nearest_is s m e = refl

pub rounds_is : (s : Bool) (m : ℕ) (e : ℤ) → rounds_within_of (fin s m e) ≡ within_bounds (nearest_of (fin s m e))
unfolding rounds_within_of
rounds_is s m e = refl

rounds_at : (s : Bool) (m : ℕ) (e : ℤ) → rounds_within_of (fin s m e) ≡ within_bounds (signed s (nearest_whole (m * up e) (down e)))
rounds_at s m e = rounds_is s m e ∙ ap within_bounds (nearest_is s m e)

pub rounds_most : (s : Bool) (m : ℕ) (e : ℤ) → rounds_within_of (fin s m e) ≡ true → nearest_whole (m * up e) (down e) ≤ most s
rounds_most s m e h = ltb-false (most s) (nearest_whole (m * up e) (down e)) (sym (within_most s (nearest_whole (m * up e) (down e))) ∙ ap not (sym (rounds_at s m e) ∙ h))

pub rounds_no : (s : Bool) (m : ℕ) (e : ℤ) → most s < nearest_whole (m * up e) (down e) → rounds_within_of (fin s m e) ≡ false
rounds_no s m e h = rounds_at s m e ∙ past_most s (nearest_whole (m * up e) (down e)) h

rounds_yes : (s : Bool) (m : ℕ) (e : ℤ) → nearest_whole (m * up e) (down e) ≤ most s → rounds_within_of (fin s m e) ≡ true
rounds_yes s m e h = rounds_at s m e ∙ up_to_most s (nearest_whole (m * up e) (down e)) h

-- ---- of the others
pub rounds_nan : rounds_within_of nan ≡ false
unfolding rounds_within_of
rounds_nan = refl

pub rounds_inf : (s : Bool) → rounds_within_of (inf s) ≡ false
unfolding rounds_within_of
rounds_inf s = refl

-- ---- the tests: below 2^31 - 1/2, and from -2^31 - 1/2 on
-- a half beyond the largest or the least coefficient
abbrev beyond : Bool → Float
beyond s = fin s (most s * 2 + 1) (negsuc 0)

-- a sum is above zero where one of the two is
first : (x y : ℕ) → 0 < x → ltb 0 (x + y) ≡ true
first x y h = lt-ltb 0 (x + y) (omega arith)

second : (x y : ℕ) → 0 < y → ltb 0 (x + y) ≡ true
second x y h = lt-ltb 0 (x + y) (omega arith)

-- below or equal, as lib.Ieee has it of two negative numbers
no_more : (x y : ℕ) → x ≤ y → (ltb x y || (eqb y x && true)) ≡ true
no_more x y h = go (lt_or_le x y)
  where
    go : (x < y) ⊎ (y ≤ x) → (ltb x y || (eqb y x && true)) ≡ true
    go (inl l) = ap (λ (b : Bool). b || (eqb y x && true)) (lt-ltb x y l)
    go (inr l) = ap (λ (b : Bool). b || (eqb y x && true)) (le-ltb x y l) ∙ ap (λ (b : Bool). b && true) (eq-eqb y x (le_antisymm l h))

more : (x y : ℕ) → y < x → (ltb x y || (eqb y x && true)) ≡ false
more x y h = ap (λ (b : Bool). b || (eqb y x && true)) (le-ltb x y (le_of_lt h)) ∙ ap (λ (b : Bool). b && true) (ne_eqb y x (λ (e : y ≡ x). omega arith))

pub below_high : (x : Float) → lt x (beyond false) ≡ true → le (beyond true) x ≡ rounds_within_of x
unfolding lt le eq
below_high nan h = absurd (false≢true h)
below_high (inf true) h = sym (rounds_inf true)
below_high (inf false) h = absurd (false≢true h)
below_high (fin false m e) h =
    ap (λ (b : Bool). b || (eqb ((2 ^ 32 + 1) * down e) (m * up e * 2) && eqb ((2 ^ 32 + 1) * down e) 0)) (first ((2 ^ 32 + 1) * down e) (m * up e * 2) (mul-pos (lit< tt) (down_pos e)))
    ∙ sym (rounds_yes false m e (nearest_le (m * up e) (down e) (2 ^ 31 - 1) (down_pos e) (ltb-true (m * up e * 2) ((2 ^ 32 - 1) * down e) h)))
below_high (fin true m e) h = go (lt_or_le ((2 ^ 32 + 1) * down e) (m * up e * 2))
  where
    go : ((2 ^ 32 + 1) * down e < m * up e * 2) ⊎ (m * up e * 2 ≤ (2 ^ 32 + 1) * down e) → le (beyond true) (fin true m e) ≡ rounds_within_of (fin true m e)
    go (inl l) = more (m * up e * 2) ((2 ^ 32 + 1) * down e) l ∙ sym (rounds_no true m e (nearest_gt (m * up e) (down e) (2 ^ 31) (down_pos e) l))
    go (inr l) = no_more (m * up e * 2) ((2 ^ 32 + 1) * down e) l ∙ sym (rounds_yes true m e (even_le (m * up e) (down e) (2 ^ 31) (down_pos e) refl l))

pub from_high : (x : Float) → lt x (beyond false) ≡ false → false ≡ rounds_within_of x
unfolding lt
from_high nan h = sym rounds_nan
from_high (inf true) h = absurd (true≢false h)
from_high (inf false) h = sym (rounds_inf false)
from_high (fin false m e) h = sym (rounds_no false m e (odd_lt (m * up e) (down e) (2 ^ 31 - 1) (down_pos e) refl (ltb-false (m * up e * 2) ((2 ^ 32 - 1) * down e) h)))
from_high (fin true m e) h = absurd (true≢false (sym (second (m * up e * 2) ((2 ^ 32 - 1) * down e) (mul-pos (lit< tt) (down_pos e))) ∙ h))
