-- `stripped` drops the zeros at the high end and nothing else. Two strings are the same, leading zeros aside, exactly when they
-- have the same digit at every place. Then they have the same masks and the same weight.
use mathlib.Core.Path.{◌≡◌, refl, ap, sym, ◌∙◌}
use mathlib.Core.List.{[], ◌∷◌}
use Prim.Native.Nat.{ℕ, suc}
use native.Mathlib.Omega.{arith}
use lib.ListN.{length}
use lib.Seq.{ext_get_or}
use Rattle.signed_digit.specs.Digit.{Digit, one, nought, minus_one, nonzero}
use Rattle.signed_digit.specs.String.{DigitString, digit_at}
use Rattle.signed_digit.specs.Weight.{weight}
use Rattle.signed_digit.specs.Same.{below, stripped, Same}
use Rattle.signed_digit.specs.Masks.{mask, plus_bit, minus_bit, plus_mask, minus_mask}
use Rattle.signed_digit.specs.Forms.{top}
use Rattle.signed_digit.proofs.Strings.{pad, pad_digit, pad_mask, pad_weight, top_places}

-- ---- what is dropped are zeros
pub record Zeros (s t : DigitString) : Type 0 where
  pub number : ℕ
  pub is : s ≡ pad number t

under : (d : Digit) (s t : DigitString) → Zeros s t → Zeros (d ∷ s) (below d t)
under one s t z = record { number = z.number; is = ap (λ (x : DigitString). one ∷ x) z.is }
under minus_one s t z = record { number = z.number; is = ap (λ (x : DigitString). minus_one ∷ x) z.is }
under nought s [] z = record { number = suc z.number; is = ap (λ (x : DigitString). nought ∷ x) z.is }
under nought s (e ∷ t) z = record { number = z.number; is = ap (λ (x : DigitString). nought ∷ x) z.is }

pub stripped_zeros : (s : DigitString) → Zeros s (stripped s)
stripped_zeros [] = record { number = 0; is = refl }
stripped_zeros (d ∷ s) = under d s (stripped s) (stripped_zeros s)

-- ---- the highest digit that is left is no zero
pub stripped_high : (s t : DigitString) (d : Digit) → stripped s ≡ top d t → nonzero d ≡ 1
stripped_high [] t d e = absurd (omega (arith, ap length e, top_places d t))
stripped_high (c ∷ s) t d e = go c (stripped s) t refl e (stripped_high s)
  where
    go : (c : Digit) (r t : DigitString) → stripped s ≡ r → below c r ≡ top d t
        → ((t : DigitString) (d : Digit) → stripped s ≡ top d t → nonzero d ≡ 1) → nonzero d ≡ 1
    go one r [] q e ih = let w : one ≡ d = cc in ap nonzero (sym w)
    go one r (x ∷ t) q e ih = ih t d (cc)
    go minus_one r [] q e ih = let w : minus_one ≡ d = cc in ap nonzero (sym w)
    go minus_one r (x ∷ t) q e ih = ih t d (cc)
    go nought [] t q e ih = absurd (omega (arith, ap length e, top_places d t))
    go nought (y ∷ r) [] q e ih = absurd (omega (arith, ap length e))
    go nought (y ∷ r) (x ∷ t) q e ih = ih t d (cc)

-- ---- the same digits
stripped_digit : (s : DigitString) (i : ℕ) → digit_at s i ≡ digit_at (stripped s) i
stripped_digit s i = let z = stripped_zeros s in ap (λ (x : DigitString). digit_at x i) z.is ∙ pad_digit z.number (stripped s) i

pub same_digits : (s t : DigitString) → Same s t → (i : ℕ) → digit_at s i ≡ digit_at t i
same_digits s t h i = stripped_digit s i ∙ ap (λ (x : DigitString). digit_at x i) h ∙ sym (stripped_digit t i)

-- strings of one length are then equal
pub same_equal : (s t : DigitString) → length s ≡ length t → Same s t → s ≡ t
same_equal s t l h = ext_get_or nought s t l (λ i k. same_digits s t h i)

pub digits_same : (s t : DigitString) → ((i : ℕ) → digit_at s i ≡ digit_at t i) → Same s t
digits_same [] [] h = refl
digits_same [] (e ∷ t) h = cc (h 0, digits_same [] t (λ i. h (suc i)))
digits_same (d ∷ s) [] h = cc (h 0, digits_same s [] (λ i. h (suc i)))
digits_same (d ∷ s) (e ∷ t) h = cc (h 0, digits_same s t (λ i. h (suc i)))

pub stripped_same : (s : DigitString) → Same (stripped s) s
stripped_same s = digits_same (stripped s) s (λ i. sym (stripped_digit s i))

pub pad_same : (n : ℕ) (s : DigitString) → Same (pad n s) s
pad_same n s = digits_same (pad n s) s (pad_digit n s)

-- ---- the same masks and weight
stripped_mask : (f : Digit → ℕ) → f nought ≡ 0 → (s : DigitString) → mask f s ≡ mask f (stripped s)
stripped_mask f z s = let r = stripped_zeros s in ap (mask f) r.is ∙ pad_mask f z r.number (stripped s)

same_mask : (f : Digit → ℕ) → f nought ≡ 0 → (s t : DigitString) → Same s t → mask f s ≡ mask f t
same_mask f z s t h = stripped_mask f z s ∙ ap (mask f) h ∙ sym (stripped_mask f z t)

stripped_weight : (s : DigitString) → weight s ≡ weight (stripped s)
stripped_weight s = let r = stripped_zeros s in ap weight r.is ∙ pad_weight r.number (stripped s)

pub record SameNumbers (s t : DigitString) : Type 0 where
  pub plus : plus_mask s ≡ plus_mask t
  pub minus : minus_mask s ≡ minus_mask t
  pub weighs : weight s ≡ weight t

pub same_numbers : (s t : DigitString) → Same s t → SameNumbers s t
same_numbers s t h = record {
  plus = same_mask plus_bit refl s t h;
  minus = same_mask minus_bit refl s t h;
  weighs = stripped_weight s ∙ ap weight h ∙ sym (stripped_weight t);
}
