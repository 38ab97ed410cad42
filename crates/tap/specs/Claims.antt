-- What document 01, "Taps to coefficients" and "Turned down", and request 4 of document 02 say of one tap, as claims about every answer of `round_tap`. Definitions only; the
-- proof is in proofs/Claims.antt.
use Rattle.std.specs.Prelude.{◌≡◌, ◌↔◌, true, false, ℕ, ◌*◌, ◌%◌, ◌^◌, ◌≤◌, ◌<◌, ℤ, pos, nat_abs, ◌-ℤ◌, ◌*ℤ◌, T, Float}
use Rattle.std.specs.Float.{nan, inf, fin, binary64}
use Rattle.std.specs.Float.Ieee.{up, down, eq, fits, is_nan}
use Rattle.word.specs.Bounds.{Coefficient}
use Rattle.refusal.specs.Answer.{Answer, given, refused}
use Rattle.tap.specs.Rounding.{TapResult, exact, rounded, signed, finite, whole_of, left_of, TapRounded}

-- tap × 2^F, exactly, as a fraction of whole numbers
abbrev pub numerator : ℕ → Float → ℤ
numerator F nan = pos 0
numerator F (inf s) = pos 0
numerator F (fin s m e) = signed s (m * up e * 2 ^ F)

abbrev pub denominator : Float → ℕ
denominator nan = 1
denominator (inf s) = 1
denominator (fin s m e) = down e

-- how far a whole number is from tap × 2^F, in parts of the denominator
abbrev pub distance : ℕ → Float → ℤ → ℕ
distance F tap z = nat_abs (numerator F tap -ℤ z *ℤ pos (denominator tap))

-- "the whole number nearest to tap × 2^F", by "IEEE 754's ties-to-even": none is nearer, and where another is as near N is even
pub record NearestEven (F : ℕ) (tap : Float) (N : ℤ) : Type 0 where
  pub nearest : (z : ℤ) → distance F tap N ≤ distance F tap z
  pub even : (z : ℤ) → (z ≡ N → ⊥) → distance F tap z ≡ distance F tap N → nat_abs N % 2 ≡ 0

-- x is the number z / d exactly
abbrev pub Exactly : Float → ℤ → ℕ → Type 0
Exactly nan z d = ⊥
Exactly (inf s) z d = ⊥
Exactly (fin t p g) z d = signed t (p * up g) *ℤ pos d ≡ z *ℤ pos (down g)

-- x is at most 1/2 in magnitude
abbrev pub AtMostHalf : Float → Type 0
AtMostHalf nan = ⊥
AtMostHalf (inf s) = ⊥
AtMostHalf (fin t p g) = p * up g * 2 ≤ down g

-- "The leftover, tap × 2^F - N, is a binary64 number exactly"
pub record ExactLeftover (F : ℕ) (tap : Float) (N : ℤ) (l : Float) : Type 0 where
  pub exactly : Exactly l (numerator F tap -ℤ N *ℤ pos (denominator tap)) (denominator tap)
  pub held : T (fits binary64 l)
  pub is_finite_lem : finite l ≡ true
  pub nonzero : eq l (fin false 0 (pos 0)) ≡ false
  pub at_most_half : AtMostHalf l

-- "Turned down": which answer a tap gets, by F, the tap and its nearest whole number N
pub record TapRefusals (F : ℕ) (tap : Float) (a : Answer TapResult) : Type 0 where
  -- "4, place 0: F above 31"
  pub fraction_bits : a ≡ refused 4 0 ↔ 31 < F
  -- "5, tap: tap infinite or not-a-number"
  pub not_finite : F ≤ 31 → a ≡ refused 5 0 ↔ finite tap ≡ false
  -- "6, tap: N outside the bounds"
  pub out_of_bounds : F ≤ 31 → finite tap ≡ true → (N : ℤ) → NearestEven F tap N → a ≡ refused 6 0 ↔ (Coefficient N → ⊥)
  -- "a number is returned in no other circumstances"
  pub accepted : F ≤ 31 → finite tap ≡ true → (N : ℤ) → NearestEven F tap N → Coefficient N → (r : TapResult) × (a ≡ given r) × (whole_of r ≡ N)

pub record TapClaims : Type 0 where
  -- "The coefficient N is the whole number nearest to tap × 2^F", "ties-to-even"
  pub nearest_even : (F : ℕ) (tap : Float) (r : TapResult) → TapRounded F tap (given r) → NearestEven F tap (whole_of r)
  -- no other whole number is
  pub nearest_only : (F : ℕ) (tap : Float) (r : TapResult) (M : ℤ) → TapRounded F tap (given r) → NearestEven F tap M → M ≡ whole_of r
  -- every finite tap has one
  pub some_nearest : (F : ℕ) (tap : Float) → finite tap ≡ true → (N : ℤ) × NearestEven F tap N
  -- "A rounded tap comes back either as exact, with N": tap × 2^F is N
  pub exact_whole : (F : ℕ) (tap : Float) (N : ℤ) → TapRounded F tap (given (exact N)) → numerator F tap ≡ N *ℤ pos (denominator tap)
  -- "or as rounded, with N and its leftover", for a tap that is a binary64 number: nothing is rounded away, and the leftover is not 0
  pub exact_leftover : (F : ℕ) (tap : Float) (N : ℤ) (l : Float) → T (fits binary64 tap) → TapRounded F tap (given (rounded N l)) → ExactLeftover F tap N l
  -- "A tap of -0 is exact, N = 0"
  pub minus_zero : (F : ℕ) (a : Answer TapResult) → F ≤ 31 → TapRounded F (fin true 0 (pos 0)) a → a ≡ given (exact (pos 0))
  -- demand 1: no result is infinite or not-a-number
  pub left_finite : (F : ℕ) (tap : Float) (r : TapResult) → TapRounded F tap (given r) → finite (left_of r) ≡ true
  pub never_nan : (F : ℕ) (tap : Float) (r : TapResult) → TapRounded F tap (given r) → is_nan (left_of r) ≡ false
  -- the rows 4, 5 and 6 of the table
  pub refusals : (F : ℕ) (tap : Float) (a : Answer TapResult) → TapRounded F tap a → TapRefusals F tap a
