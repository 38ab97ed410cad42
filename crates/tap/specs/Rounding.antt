-- One tap to a coefficient: document 01, "Taps to coefficients", with the half rule of request 4 of document 02. Definitions only.
-- A finite tap is ±m × 2^e (`fin` of lib.Ieee) and 2^e is the fraction up e / down e. So tap × 2^F is exactly ±a / d with a = m × up e × 2^F and d = down e.
use Rattle.std.specs.Prelude.{◌≡◌, Bool, true, false, not, cond, ℤ, pos, neg_ℤ, leb, ltb, eqb, Float}
use Prim.Native.Nat.{ℕ, ◌+◌, ◌-◌, ◌*◌, ◌/◌, ◌%◌, ◌^◌, compare, Ordering}
use Rattle.std.specs.Float.{nan, inf, fin, binary64}
use Rattle.std.specs.Float.Ieee.{up, down, round}
use Rattle.word.specs.Bounds.{within_bounds}
use Rattle.refusal.specs.Answer.{Answer, given, turned_down_of, refuse_if}
use Rattle.tap.specs.declared.RoundedTap.{RoundedTap}
use Rattle.tap.specs.declared.RoundedTap.TheVariants.{Exact, Rounded, Refused}

-- "IEEE 754's ties-to-even" (there roundTiesToEven: of two that are equally near "the one with an even least significant digit"): the size that q + 1/2 goes to is the even
-- one of q and q + 1. The one place where the half rule stands
unfoldable pub half_of : ℕ → ℕ
half_of q = q + q % 2

-- q or the next number up, by how twice the remainder compares with the divisor
unfoldable pub to_nearest : ℕ → Ordering → ℕ
unfolding half_of
to_nearest q Ordering.lt = q
to_nearest q Ordering.eq = half_of q
to_nearest q Ordering.gt = q + 1

-- "the whole number nearest to" a / d, for d above 0
unfoldable pub nearest_whole : ℕ → ℕ → ℕ
unfolding to_nearest
nearest_whole a d = to_nearest (a / d) (compare (a % d * 2) d)

-- ±n
abbrev pub signed : Bool → ℕ → ℤ
signed s n = cond s (neg_ℤ (pos n)) (pos n)

-- "The leftover, tap × 2^F - N": ±(a / d) less ±n, as a binary64 number
unfoldable pub leftover : Bool → ℕ → ℕ → ℕ → Float
leftover s a d n = cond (leb (n * d) a) (round binary64 s (a - n * d) d) (round binary64 (not s) (n * d - a) d)

-- "A rounded tap comes back either as exact, with N, or as rounded, with N and its leftover"
pub data TapResult : Type 0 where
  exact : ℤ → TapResult
  rounded : ℤ → Float → TapResult

-- what ±a / d comes back as, where ±n is the whole number nearest to it
unfoldable pub split : Bool → ℕ → ℕ → ℕ → TapResult
unfolding leftover
split s a d n = cond (eqb (n * d) a) (exact (signed s n)) (rounded (signed s n) (leftover s a d n))

-- neither an infinity nor a not-a-number
abbrev pub finite : Float → Bool
finite nan = false
finite (inf s) = false
finite (fin s m e) = true

-- the size of N, "the whole number nearest to tap × 2^F"; only a finite tap has one
unfoldable pub size_of : ℕ → Float → ℕ
unfolding nearest_whole
size_of F nan = 0
size_of F (inf s) = 0
size_of F (fin s m e) = nearest_whole (m * up e * 2 ^ F) (down e)

-- "N outside the bounds"
unfoldable pub outside : ℕ → Float → Bool
unfolding size_of
outside F nan = false
outside F (inf s) = false
outside F (fin s m e) = not (within_bounds (signed s (size_of F (fin s m e))))

-- what a finite tap with N within the bounds comes back as
unfoldable pub result_of : ℕ → Float → TapResult
unfolding split size_of
result_of F nan = exact (pos 0)
result_of F (inf s) = exact (pos 0)
result_of F (fin s m e) = split s (m * up e * 2 ^ F) (down e) (size_of F (fin s m e))

-- one tap, with the checks 4, 5 and 6 of the table "Turned down"
unfoldable pub rounded_tap : ℕ → Float → Answer TapResult
unfolding outside result_of
rounded_tap F tap =
    refuse_if (ltb 31 F) 4 (refuse_if (not (finite tap)) 5 (refuse_if (outside F tap) 6 (given (result_of F tap))))

-- x without its sign
abbrev pub abs_of : Float → Float
abs_of nan = nan
abs_of (inf s) = inf false
abs_of (fin s m e) = fin false m e

-- N, and the leftover: +0 where the tap is exact
abbrev pub whole_of : TapResult → ℤ
whole_of (exact n) = n
whole_of (rounded n l) = n

abbrev pub left_of : TapResult → Float
left_of (exact n) = fin false 0 (pos 0)
left_of (rounded n l) = l

-- what each case of `RoundedTap` says: N and the leftover, or the table's number and place
abbrev pub answer_of : RoundedTap → Answer TapResult
answer_of (Exact n) = given (exact n)
answer_of (Rounded n l) = given (rounded n l)
answer_of (Refused r) = turned_down_of r

-- rounding a tap with F fraction bits answers a: the contract of `round_tap`, and what every claim about it speaks of
pub record TapRounded (F : ℕ) (tap : Float) (a : Answer TapResult) : Type 0 where
  pub answer : a ≡ rounded_tap F tap
