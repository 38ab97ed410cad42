-- What the second implementation promises. The crates that it is compared with are not named here. Definitions only.
use Rattle.std.specs.Prelude.{◌≡◌, ℕ, zero, suc, ◌+◌, ◌-◌, ◌/◌, ◌%◌, ◌^◌, ◌<◌, ◌≤◌, false, cond, List, [], pos, nat_lt, Bool, Float, Result, Err, IfOk, IfErr}
use mathlib.Core.List.{foldl}
use Rattle.std.specs.Float.{fin, binary64, float_is_finite}
use Rattle.std.specs.Float.Ieee.{add}
use Rattle.bench_second.specs.declared.form.LeastWeight.{LeastWeight}
use Rattle.bench_second.specs.declared.tap.Rounded.{Rounded}
use Rattle.bench_second.specs.declared.tap.TapRefusal.{TapRefusal}
use Rattle.bench_second.specs.declared.tap.TapRefusal.TheVariants.{FractionBits, NotFinite, OutOfBounds}
use Rattle.bench_second.specs.declared.tap.SetRefusal.{SetRefusal}
use Rattle.bench_second.specs.declared.tap.SetRefusal.TheVariants as S
use Rattle.bench_second.specs.declared.tap.SetRefusal.TheVariants.{NoTaps, TooManyTaps, NotNormalisable}

-- +0
abbrev pub nought : Float
nought = fin false 0 (pos 0)

-- the least weight of the number 2m + 1, and how many strings have it, by those of m and of m + 1:
-- its lowest digit is 1 over a string of m, or -1 over a string of m + 1
unfoldable pub of_odd_of : LeastWeight → LeastWeight → LeastWeight
of_odd_of a b =
    cond (nat_lt a.weight b.weight) (record { weight = a.weight + 1; count = a.count })
    (cond (nat_lt b.weight a.weight) (record { weight = b.weight + 1; count = b.count })
    (record { weight = a.weight + 1; count = a.count + b.count }))

-- those of a number and of the next
pub record Both : Type 0 where
  pub this : LeastWeight
  pub next : LeastWeight

-- by those of the number's half, and its lowest bit: an even number has the strings of its half
unfoldable pub with_bit : ℕ → Both → Both
with_bit zero h = record { this = h.this; next = of_odd_of h.this h.next }
with_bit (suc b) h = record { this = of_odd_of h.this h.next; next = h.next }

-- those of a number m of n bits and of m + 1: 0 has the string without a nonzero digit, and 1 one of weight 1
unfoldable pub least_both : ℕ → ℕ → Both
least_both zero m = record { this = record { weight = 0; count = 1 }; next = record { weight = 1; count = 1 } }
least_both (suc n) m = with_bit (m % 2) (least_both n (m / 2))

-- the contract of `form::least`
pub record LeastFound (magnitude : ℕ) (found : LeastWeight) : Type 0 where
  pub least : found ≡ (least_both 32 magnitude).this

-- the number of what a tap is turned down for
abbrev pub tap_number_of : TapRefusal → ℕ
tap_number_of FractionBits = 4
tap_number_of NotFinite = 5
tap_number_of OutOfBounds = 6

-- the contract of `tap::round`: turned down for F exactly where F is above 31, else as not finite exactly where the tap is not; else N is within the bounds, or turned down as out of them
pub record RoundedByDigits (tap : Float) (f : ℕ) (outcome : Result Rounded TapRefusal) : Type 0 where
  pub four_above : 31 < f → outcome ≡ Err FractionBits
  pub four_only : outcome ≡ Err FractionBits → 31 < f
  pub five_there : f ≤ 31 → float_is_finite tap ≡ false → outcome ≡ Err NotFinite
  pub five_only : outcome ≡ Err NotFinite → float_is_finite tap ≡ false
  pub least_bound : IfOk outcome (λ n. n.size ≤ 2 ^ 31)
  pub greatest_bound : IfOk outcome (λ n. n.negative ≡ false → n.size ≤ 2 ^ 31 - 1)

-- the contract of `tap::sum`: from +0 in order, each addition rounded once
pub record Summed (taps : List Float) (s : Float) : Type 0 where
  pub sum : s ≡ foldl (add binary64) nought taps

-- what each tap of a set is divided by: their sum where they are normalised, else 1
abbrev pub set_divisor : Bool → List Float → Float
set_divisor normalised taps = cond normalised (foldl (add binary64) nought taps) (fin false 1 (pos 0))

-- the contract of `tap::TapSet::largest_leftover`
pub record LargestFound (taps : List Float) (leftover : Float) : Type 0 where
  pub no_taps : taps ≡ [] → leftover ≡ nought

-- the number of what a set is turned down for, and its place
abbrev pub number_of : SetRefusal → ℕ
number_of NoTaps = 1
number_of TooManyTaps = 2
number_of S.FractionBits = 4
number_of (S.NotFinite k) = 5
number_of (S.OutOfBounds k) = 6
number_of (NotNormalisable k) = 7

abbrev pub place_of : SetRefusal → ℕ
place_of NoTaps = 0
place_of TooManyTaps = 0
place_of S.FractionBits = 0
place_of (S.NotFinite k) = k
place_of (S.OutOfBounds k) = k
place_of (NotNormalisable k) = k

-- turned down for one of the taps: not finite, out of bounds or not to be normalised, and which
abbrev pub OfTap : ℕ → SetRefusal → Type 0
OfTap count NoTaps = ⊥
OfTap count TooManyTaps = ⊥
OfTap count S.FractionBits = ⊥
OfTap count (S.NotFinite k) = k < count
OfTap count (S.OutOfBounds k) = k < count
OfTap count (NotNormalisable k) = k < count

-- the contract of `tap::judge`, over the number of taps: no taps, too many and F in this order, each exactly where it applies, else accepted or turned down for a tap
pub record SetJudged {A : Type 0} (count f : ℕ) (outcome : Result A SetRefusal) : Type 0 where
  pub no_taps : count ≡ 0 → outcome ≡ Err NoTaps
  pub too_many : 256 < count → outcome ≡ Err TooManyTaps
  pub fraction : 0 < count → count ≤ 256 → 31 < f → outcome ≡ Err S.FractionBits
  pub of_tap : 0 < count → count ≤ 256 → f ≤ 31 → IfErr outcome (OfTap count)

-- a set whose taps are finite, over the number of taps: accepted, or turned down for a tap
pub record Judged (count : ℕ) (outcome : Result (Unit {0}) SetRefusal) : Type 0 where
  pub of_tap : IfErr outcome (OfTap count)
