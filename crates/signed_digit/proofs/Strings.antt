-- Masks, weight and places of strings with one digit or zeros more at the high end, and of the string of the opposite value.
use mathlib.Core.Path.{◌≡◌, refl, ap}
use mathlib.Core.List.{[], ◌∷◌, ◌++◌}
use Prim.Native.Nat.{ℕ, zero, suc, ◌+◌, ◌*◌, ◌≤◌, ◌<◌, ◌^◌}
use native.Mathlib.Nat.{pow-suc}
use native.Mathlib.Omega.{arith}
use lib.ListN.{length, length-append, replicate, length-replicate}
use Rattle.signed_digit.specs.Digit.{Digit, one, nought, minus_one, nonzero}
use Rattle.signed_digit.specs.String.{DigitString, digit_at}
use Rattle.signed_digit.specs.Weight.{weight}
use Rattle.signed_digit.specs.Masks.{mask, plus_bit, minus_bit, plus_mask, minus_mask}
use Rattle.signed_digit.specs.CanonicalForm.{opposite, negated}
use Rattle.signed_digit.specs.Forms.{top}

pub bit : (d : Digit) → (plus_bit d + minus_bit d ≡ nonzero d) × (nonzero d ≤ 1)
bit one = omega arith
bit nought = omega arith
bit minus_one = omega arith

pub small : (s : DigitString) → plus_mask s + minus_mask s < 2 ^ length s
small [] = omega arith
small (d ∷ s) = omega (arith, small s, bit d, pow-suc 2 (length s))

-- ---- one digit more at the high end
pub top_places : (d : Digit) (s : DigitString) → length (top d s) ≡ suc (length s)
top_places d s = omega (arith, length-append s (d ∷ []))

pub top_weight : (d : Digit) (s : DigitString) → weight (top d s) ≡ weight s + nonzero d
top_weight d [] = omega arith
top_weight d (e ∷ s) = omega (arith, top_weight d s)

pub top_mask : (f : Digit → ℕ) (d : Digit) (s : DigitString) → mask f (top d s) ≡ mask f s + 2 ^ length s * f d
top_mask f d [] = omega arith
top_mask f d (e ∷ s) = omega (arith, top_mask f d s, ap (λ (x : ℕ). x * f d) (pow-suc 2 (length s)))

pub record Topped (s : DigitString) : Type 0 where
  pub rest : DigitString
  pub high : Digit
  pub is : s ≡ top high rest

pub topped : (d : Digit) (s : DigitString) → Topped (d ∷ s)
topped d [] = record { rest = []; high = d; is = refl }
topped d (e ∷ s) = let r = topped e s in record { rest = d ∷ r.rest; high = r.high; is = ap (λ (x : DigitString). d ∷ x) r.is }

-- ---- zeros at the high end
abbrev pub pad : ℕ → DigitString → DigitString
pad n s = s ++ replicate n nought

pub pad_places : (n : ℕ) (s : DigitString) → length (pad n s) ≡ length s + n
pad_places n s = omega (arith, length-append s (replicate n nought), length-replicate n nought)

pub pad_weight : (n : ℕ) (s : DigitString) → weight (pad n s) ≡ weight s
pad_weight zero [] = refl
pad_weight (suc n) [] = omega (arith, pad_weight n [])
pad_weight n (d ∷ s) = omega (arith, pad_weight n s)

pub pad_mask : (f : Digit → ℕ) → f nought ≡ 0 → (n : ℕ) (s : DigitString) → mask f (pad n s) ≡ mask f s
pad_mask f z zero [] = refl
pad_mask f z (suc n) [] = omega (arith, pad_mask f z n [])
pad_mask f z n (d ∷ s) = omega (arith, pad_mask f z n s)

pub pad_digit : (n : ℕ) (s : DigitString) (i : ℕ) → digit_at (pad n s) i ≡ digit_at s i
pad_digit zero [] i = refl
pad_digit (suc n) [] zero = refl
pad_digit (suc n) [] (suc i) = pad_digit n [] i
pad_digit n (d ∷ s) zero = refl
pad_digit n (d ∷ s) (suc i) = pad_digit n s i

-- ---- the string of the opposite value
pub opposite_bits : (d : Digit) → (plus_bit (opposite d) ≡ minus_bit d) × (minus_bit (opposite d) ≡ plus_bit d) × (nonzero (opposite d) ≡ nonzero d)
opposite_bits one = (refl, refl, refl)
opposite_bits nought = (refl, refl, refl)
opposite_bits minus_one = (refl, refl, refl)

pub record Negated (s t : DigitString) : Type 0 where
  pub places : length t ≡ length s
  pub weighs : weight t ≡ weight s
  pub plus : plus_mask t ≡ minus_mask s
  pub minus : minus_mask t ≡ plus_mask s

pub negated_is : (s : DigitString) → Negated s (negated s)
negated_is [] = record { places = refl; weighs = refl; plus = refl; minus = refl }
negated_is (d ∷ s) =
    let b = opposite_bits d in
    let r = negated_is s in
    record { places = omega arith; weighs = omega arith; plus = omega arith; minus = omega arith }

pub opposite_twice : (d : Digit) → opposite (opposite d) ≡ d
opposite_twice one = refl
opposite_twice nought = refl
opposite_twice minus_one = refl

pub negated_twice : (s : DigitString) → negated (negated s) ≡ s
negated_twice [] = refl
negated_twice (d ∷ s) = cc (opposite_twice d, negated_twice s)

pub negated_digit : (s : DigitString) (i : ℕ) → digit_at (negated s) i ≡ opposite (digit_at s i)
negated_digit [] i = refl
negated_digit (d ∷ s) zero = refl
negated_digit (d ∷ s) (suc i) = negated_digit s i

pub negated_top : (d : Digit) (s : DigitString) → negated (top d s) ≡ top (opposite d) (negated s)
negated_top d [] = refl
negated_top d (e ∷ s) = ap (λ (x : DigitString). opposite e ∷ x) (negated_top d s)
