-- The listing's order: strict, and on the strings of one value total, since these never hold 1 and -1 at the highest place where they differ.
use mathlib.Core.Path.{◌≡◌, refl, ap, sym, ◌∙◌}
use mathlib.Core.List.{[], ◌∷◌}
use mathlib.Core.Logic.{◌⊎◌, inl, inr}
use Prim.Native.Nat.{ℕ, zero, suc, ◌+◌, ◌≤◌, ◌<◌}
use native.Mathlib.Decide.{dec_le, dec_lt}
use native.Mathlib.Omega.{arith}
use lib.ListN.{length, get_or-eq_default}
use Rattle.signed_digit.specs.Digit.{Digit, one, nought, minus_one, Digit-discrete, nonzero}
use Rattle.signed_digit.specs.String.{DigitString, digit_at}
use Rattle.signed_digit.specs.Value.{value}
use Rattle.signed_digit.specs.Same.{Same}
use Rattle.signed_digit.specs.Order.{Earlier}
use Rattle.signed_digit.specs.Masks.{plus_bit, minus_bit, plus_mask, minus_mask}
use Rattle.signed_digit.proofs.Strings.{bit}
use Rattle.signed_digit.proofs.Same.{same_digits, digits_same, same_numbers}
use Rattle.signed_digit.proofs.Value.{values_eq}

-- ---- the order is strict
pub earlier_different : (s t : DigitString) → Earlier s t → Same s t → ⊥
earlier_different s t e h = omega (arith, e.nonzero_here, ap nonzero e.zero_there, ap nonzero (same_digits s t h e.place))

-- from that place up the earlier one is nonzero wherever the later one is
earlier_above : (s t : DigitString) (e : Earlier s t) (i : ℕ) → e.place ≤ i → nonzero (digit_at t i) ≤ nonzero (digit_at s i)
earlier_above s t e i h = go (dec_lt e.place i)
  where
    go : Dec (e.place < i) → nonzero (digit_at t i) ≤ nonzero (digit_at s i)
    go (yes k) = omega (arith, ap nonzero (e.same_above i k))
    go (no k) = let q : i ≡ e.place = omega arith in omega (arith, ap nonzero e.zero_there, ap (λ (x : ℕ). nonzero (digit_at t x)) q)

pub earlier_asymmetric : (s t : DigitString) → Earlier s t → Earlier t s → ⊥
earlier_asymmetric s t e f = go (dec_le e.place f.place)
  where
    go : Dec (e.place ≤ f.place) → ⊥
    go (yes h) = omega (arith, earlier_above s t e f.place h, f.nonzero_here, ap nonzero f.zero_there)
    go (no h) = omega (arith, earlier_above t s f e.place (omega arith), e.nonzero_here, ap nonzero e.zero_there)

-- ---- strings of one value
apart : (s t : DigitString) (i : ℕ) → ((j : ℕ) → i < j → digit_at s j ≡ digit_at t j) → digit_at s i ≡ one → digit_at t i ≡ minus_one
    → minus_mask s + plus_mask t + 2 ≤ plus_mask s + minus_mask t
apart [] t i h p m = absurd (omega (arith, ap nonzero p))
apart (d ∷ s) [] i h p m = absurd (omega (arith, ap nonzero m))
apart (d ∷ s) (e ∷ t) zero h p m =
    omega (arith, same_numbers s t (digits_same s t (λ j. h (suc j) (omega arith))), ap plus_bit p, ap minus_bit p, ap plus_bit m, ap minus_bit m)
apart (d ∷ s) (e ∷ t) (suc i) h p m = omega (arith, apart s t i (λ j k. h (suc j) (omega arith)) p m, bit d, bit e)

-- Two strings of one value never hold 1 and -1 at the highest place where they differ, whether they are minimal or not.
pub never_opposite : (s t : DigitString) → value s ≡ value t → (place : ℕ) → ((i : ℕ) → place < i → digit_at s i ≡ digit_at t i)
    → digit_at s place ≡ one → digit_at t place ≡ minus_one → ⊥
never_opposite s t e place h p m = omega (arith, (values_eq s t).0 e, apart s t place h p m)

-- the highest place where two strings differ
pub record Difference (s t : DigitString) : Type 0 where
  pub place : ℕ
  pub differ : digit_at s place ≡ digit_at t place → ⊥
  pub same_above : (i : ℕ) → place < i → digit_at s i ≡ digit_at t i

pub same_or_differ : (s t : DigitString) → Same s t ⊎ Difference s t
same_or_differ s t = search_down (length s + length t) (λ i h. past s i (omega arith) ∙ sym (past t i (omega arith)))
  where
    past : (s : DigitString) (i : ℕ) → length s ≤ i → digit_at s i ≡ nought
    past s i h = get_or-eq_default s nought h

    search_down : (n : ℕ) → ((i : ℕ) → n ≤ i → digit_at s i ≡ digit_at t i) → Same s t ⊎ Difference s t
    search_down zero h = inl (digits_same s t (λ i. h i (omega arith)))
    search_down (suc n) h = at (Digit-discrete (digit_at s n) (digit_at t n)) (search_down n)
      where
        at : Dec (digit_at s n ≡ digit_at t n) → (((i : ℕ) → n ≤ i → digit_at s i ≡ digit_at t i) → Same s t ⊎ Difference s t) → Same s t ⊎ Difference s t
        at (no d) lower = inr (record { place = n; differ = d; same_above = h })
        at (yes e) lower = lower (λ i k. from i (dec_le (suc n) i) k)
          where
            from : (i : ℕ) → Dec (suc n ≤ i) → n ≤ i → digit_at s i ≡ digit_at t i
            from i (yes l) k = h i l
            from i (no l) k = let q : n ≡ i = omega arith in ap (digit_at s) (sym q) ∙ e ∙ ap (digit_at t) q

swapped : (s t : DigitString) → Difference s t → Difference t s
swapped s t x = record { place = x.place; differ = λ e. x.differ (sym e); same_above = λ i h. sym (x.same_above i h) }

by_difference : (s t : DigitString) (x : Difference s t) → nonzero (digit_at s x.place) ≡ 1 → digit_at t x.place ≡ nought → Earlier s t
by_difference s t x h e = record { place = x.place; nonzero_here = h; zero_there = e; same_above = x.same_above }

-- Of two strings of one value that are not the same, leading zeros aside, one is the earlier.
pub comparable : (s t : DigitString) → value s ≡ value t → Same s t ⊎ (Earlier s t ⊎ Earlier t s)
unfolding swapped
comparable s t v = go (same_or_differ s t)
  where
    order : (x : Difference s t) (d e : Digit) → digit_at s x.place ≡ d → digit_at t x.place ≡ e → Earlier s t ⊎ Earlier t s
    order x one one p q = absurd (x.differ (p ∙ sym q))
    order x nought nought p q = absurd (x.differ (p ∙ sym q))
    order x minus_one minus_one p q = absurd (x.differ (p ∙ sym q))
    order x one minus_one p q = absurd (never_opposite s t v x.place x.same_above p q)
    order x minus_one one p q = absurd (never_opposite t s (sym v) x.place (swapped s t x).same_above q p)
    order x one nought p q = inl (by_difference s t x (ap nonzero p) q)
    order x minus_one nought p q = inl (by_difference s t x (ap nonzero p) q)
    order x nought one p q = inr (by_difference t s (swapped s t x) (ap nonzero q) p)
    order x nought minus_one p q = inr (by_difference t s (swapped s t x) (ap nonzero q) p)

    go : Same s t ⊎ Difference s t → Same s t ⊎ (Earlier s t ⊎ Earlier t s)
    go (inl h) = inl h
    go (inr x) = inr (order x (digit_at s x.place) (digit_at t x.place) refl refl)
