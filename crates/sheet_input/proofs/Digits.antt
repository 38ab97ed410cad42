-- The argument's digits, one more at a time. Assumes nothing.
use borrow.Author.Tests.{le-leb, lt-leb, lt-ltb, le-ltb}
use mathlib.Core.Path.{◌≡◌, refl}
use mathlib.Core.Bool.{Bool, true, false, ◌&&◌}
use mathlib.Core.List.{List, [], ◌∷◌}
use Prim.Native.Nat.{ℕ, ◌+◌, ◌-◌, ◌*◌, ◌≤◌, ◌<◌}
use native.Mathlib.Omega.{arith}
use native.Mathlib.Numerals.{add-one}
use lib.Dec.{ltb}
use lib.ListN.{length, drop, get_or, drop_of_length-le}
use lib.Seq.{drop-cons}
use Rattle.refusal.specs.Answer.{given, refused}
use Rattle.text.specs.Numbers.{is_digit, are_digits, number_from}
use Rattle.sheet_input.specs.Argument.{text, is_fraction, fraction_bits_of}

module _ (t : List ℕ) (i : ℕ) where
  drop_next : i < length t → drop i t ≡ get_or t i 0 ∷ drop (i + 1) t
  drop_next h = rw (add-one, drop-cons t i 0 h)

  pub digits_next : i < length t → is_digit (get_or t i 0) ≡ true → are_digits (drop i t) ≡ are_digits (drop (i + 1) t)
  unfolding are_digits
  digits_next h d = rw (drop_next h, d)

  pub digits_stop : i < length t → is_digit (get_or t i 0) ≡ false → are_digits (drop i t) ≡ false
  unfolding are_digits
  digits_stop h d = rw (drop_next h, d)

  pub digits_end : length t ≤ i → are_digits (drop i t) ≡ true
  unfolding are_digits
  digits_end h = rw (drop_of_length-le t h)

  pub number_next : (v : ℕ) → i < length t → number_from v (drop i t) ≡ number_from (10 * v + (get_or t i 0 - 48)) (drop (i + 1) t)
  unfolding number_from
  number_next v h = rw (drop_next h)

  pub number_end : (v : ℕ) → length t ≤ i → number_from v (drop i t) ≡ v
  unfolding number_from
  number_end v h = rw (drop_of_length-le t h)

-- a digit more makes no number smaller
pub number_grows : (a : ℕ) (bs : List ℕ) → a ≤ number_from a bs
unfolding number_from
number_grows a [] = omega arith
number_grows a (b ∷ bs) = omega (arith, number_grows (10 * a + (b - 48)) bs)

-- ---- F, case by case
neither : (x : Bool) → x && false ≡ false
neither true = refl
neither false = refl

module _ (t : List ℕ) where
  pub refused_empty : length t ≡ 0 → fraction_bits_of (text t) ≡ refused 4 0
  unfolding fraction_bits_of is_fraction
  refused_empty h = rw (le-ltb 0 (length t) (omega arith))

  pub refused_digits : are_digits t ≡ false → fraction_bits_of (text t) ≡ refused 4 0
  unfolding fraction_bits_of is_fraction
  refused_digits h = rw (h, neither (ltb 0 (length t)))

  pub refused_large : 31 < number_from 0 t → fraction_bits_of (text t) ≡ refused 4 0
  unfolding fraction_bits_of is_fraction
  refused_large h = rw (lt-leb (number_from 0 t) 31 h, neither (ltb 0 (length t) && are_digits t))

  pub given_bits : 0 < length t → are_digits t ≡ true → number_from 0 t ≤ 31 → fraction_bits_of (text t) ≡ given (number_from 0 t)
  unfolding fraction_bits_of is_fraction
  given_bits h d n = rw (lt-ltb 0 (length t) h, d, le-leb (number_from 0 t) 31 n)
