-- What document 01, "Taps to coefficients", with the half rule of request 4 of document 02, says of a set of taps and of its report, as claims about every answer of `round_taps`
-- and the table that it leaves. Definitions only; the proof is in proofs/Claims.antt.
use Rattle.std.specs.Prelude.{◌≡◌, ◌↔◌, Bool, true, false, List, [], ◌∷◌, ℕ, ◌≤◌, ◌<◌, ℤ, pos, T, length, get_or, Float}
use Rattle.std.specs.Float.{nan, fin, binary64}
use Rattle.std.specs.Float.Ieee.{lt, fits, is_nan}
use Rattle.word.specs.Bounds.{Coefficient}
use Rattle.refusal.specs.Answer.{Answer, given, refused}
use Rattle.tap.specs.Rounding.{TapResult, exact, finite, result_of, abs_of, whole_of, left_of, TapRounded}
use Rattle.tap.specs.Claims.{NearestEven}
use Rattle.tap_normalise.specs.Normalised.{sum_of, unusable, infinite, used, divisor_of}
use Rattle.tap_set.specs.declared.Report.{Report}
use Rattle.tap_set.specs.Set.{TapsRounded}
use Rattle.tap_set.specs.Figures.{three, SetFigures}

-- "A tap is an IEEE 754 binary64 number": each is one, an infinity or a not-a-number, as every f64 is
abbrev pub Binary64 : List Float → Type 0
Binary64 [] = Unit {0}
Binary64 (x ∷ xs) = T (fits binary64 x) × Binary64 xs

-- the number at place i is rounded as one tap is, and its N stands there in the table
pub record Rounds (F : ℕ) (xs : List Float) (table : List ℤ) (i : ℕ) : Type 0 where
  pub result : TapResult
  pub rounded : TapRounded F (get_or xs i nan) (given result)
  pub held : get_or table i (pos 0) ≡ whole_of result

-- the divisor and the leftover are finite numbers
pub record Finite (r : Report) : Type 0 where
  pub divisor : finite r.divisor ≡ true
  pub leftover : finite r.leftover ≡ true

-- the leftover of the number at place i
abbrev pub leftover_at : ℕ → List Float → ℕ → Float
leftover_at F xs i = left_of (result_of F (get_or xs i nan))

-- l is smaller in magnitude than k
abbrev pub smaller : Float → Float → Bool
smaller l k = lt (abs_of l) (abs_of k)

-- "the earliest tap's is taken": l is the leftover at this place, and every earlier one is smaller
pub record EarliestTap (F : ℕ) (xs : List Float) (l : Float) : Type 0 where
  pub place : ℕ
  pub within : place < length xs
  pub taken : l ≡ leftover_at F xs place
  pub earlier : (j : ℕ) → j < place → smaller (leftover_at F xs j) l ≡ true

-- "the largest leftover by magnitude .. the leftover +0 where all taps are exact. The leftover keeps its sign; of equal magnitudes the earliest tap's is taken"
pub record LargestLeftover (F : ℕ) (xs : List Float) (l : Float) : Type 0 where
  pub none_larger : (i : ℕ) → i < length xs → smaller l (leftover_at F xs i) ≡ false
  pub earliest : EarliestTap F xs l
  pub all_exact : l ≡ fin false 0 (pos 0) ↔ ((i : ℕ) → i < length xs → (N : ℤ) × (result_of F (get_or xs i nan) ≡ exact N))

-- "1 to 256 taps", a lent table of room coefficients, "one per tap", and "fraction bits F from 0 to 31"
pub record SetSized (F : ℕ) (taps : List Float) (room : ℕ) : Type 0 where
  pub some_taps : 0 < length taps
  pub at_most_256 : length taps ≤ 256
  pub room_for : length taps ≤ room
  pub fraction_bits : F ≤ 31

-- no tap is "infinite or not-a-number"
abbrev pub EachFinite : List Float → Type 0
EachFinite taps = (i : ℕ) → i < length taps → finite (get_or taps i nan) ≡ true

-- in "normalised mode" the sum is not "zero, infinite or not-a-number", and no quotient is infinite
pub record Divisible (normalised : Bool) (taps : List Float) : Type 0 where
  pub by_sum : normalised ≡ true → unusable (sum_of taps) ≡ false
  pub quotients_number : normalised ≡ true → (i : ℕ) → i < length taps → infinite (get_or (used normalised taps) i nan) ≡ false

-- what no row of the table turns down: N of each number that is rounded is within the bounds
pub record SetAccepted (F : ℕ) (normalised : Bool) (taps : List Float) (room : ℕ) : Type 0 where
  pub sized : SetSized F taps room
  pub each_finite : EachFinite taps
  pub divisible : Divisible normalised taps
  pub within_bounds_lem : (i : ℕ) → i < length taps → (N : ℤ) → NearestEven F (get_or (used normalised taps) i nan) N → Coefficient N

-- "N outside the bounds"
pub record OutsideBounds (F : ℕ) (x : Float) : Type 0 where
  pub whole : ℤ
  pub nearest : NearestEven F x whole
  pub not_within : Coefficient whole → ⊥

-- "the lowest place that breaks it": the number there does, and no earlier one
pub record LowestPlace (Breaks : Float → Type 0) (xs : List Float) (place : ℕ) : Type 0 where
  pub within : place < length xs
  pub broken : Breaks (get_or xs place nan)
  pub earlier : (j : ℕ) → j < place → Breaks (get_or xs j nan) → ⊥

-- "Turned down": which number and place a set of taps gets, down the table, with a table of room coefficients
pub record SetRefusals (F : ℕ) (normalised : Bool) (taps : List Float) (room : ℕ) (a : Answer Report) : Type 0 where
  -- "1, place 0: no taps"
  pub no_taps : a ≡ refused 1 0 ↔ length taps ≡ 0
  -- "2, place 0: more than 256 taps"
  pub many_taps : a ≡ refused 2 0 ↔ 256 < length taps
  -- "3, place 0: a lent table is under its length"
  pub short_table_lem : 0 < length taps → length taps ≤ 256 → a ≡ refused 3 0 ↔ room < length taps
  -- "4, place 0: F above 31"
  pub fraction_bits : 0 < length taps → length taps ≤ 256 → length taps ≤ room → a ≡ refused 4 0 ↔ 31 < F
  -- "5, tap: tap infinite or not-a-number"
  pub not_finite : SetSized F taps room → (place : ℕ) → a ≡ refused 5 place ↔ LowestPlace (λ (x : Float). finite x ≡ false) taps place
  -- "7, tap: normalised mode: sum is zero, infinite or not-a-number (place 0), or a quotient is infinite"
  pub no_sum : SetSized F taps room → EachFinite taps → normalised ≡ true → unusable (sum_of taps) ≡ true → a ≡ refused 7 0
  pub infinite_quotient : SetSized F taps room → EachFinite taps → normalised ≡ true → unusable (sum_of taps) ≡ false → (place : ℕ)
      → a ≡ refused 7 place ↔ LowestPlace (λ (x : Float). infinite x ≡ true) (used normalised taps) place
  pub not_normalised : normalised ≡ false → (place : ℕ) → a ≡ refused 7 place → ⊥
  -- "6, tap: N outside the bounds"
  pub out_of_bounds : SetSized F taps room → EachFinite taps → Divisible normalised taps → (place : ℕ) → a ≡ refused 6 place ↔ LowestPlace (OutsideBounds F) (used normalised taps) place

pub record SetClaims : Type 0 where
  -- "a number is returned in no other circumstances": a set that no row turns down is rounded
  pub set_accepted : (F : ℕ) (normalised : Bool) (taps : List Float) (table : List ℤ) (a : Answer Report) (table' : List ℤ) → TapsRounded F normalised taps table a table'
      → SetAccepted F normalised taps (length table) → (r : Report) × (a ≡ given r)
  -- and no other set is
  pub set_accepts_only : (F : ℕ) (normalised : Bool) (taps : List Float) (table : List ℤ) (r : Report) (table' : List ℤ) → TapsRounded F normalised taps table (given r) table'
      → SetAccepted F normalised taps (length table)
  -- the rows 1 to 7 of the table
  pub set_refusals : (F : ℕ) (normalised : Bool) (taps : List Float) (table : List ℤ) (a : Answer Report) (table' : List ℤ) → TapsRounded F normalised taps table a table'
      → SetRefusals F normalised taps (length table) a
  -- "in normalised mode the quotient stands for the tap": each number is rounded as one tap is
  pub each_rounds : (F : ℕ) (normalised : Bool) (taps : List Float) (table : List ℤ) (r : Report) (table' : List ℤ) → TapsRounded F normalised taps table (given r) table'
      → (i : ℕ) → i < length taps → Rounds F (used normalised taps) table' i
  -- "On success, elements past those that the result fills are untouched", and the table keeps its length
  pub past_untouched : (F : ℕ) (normalised : Bool) (taps : List Float) (table : List ℤ) (r : Report) (table' : List ℤ) → TapsRounded F normalised taps table (given r) table'
      → (length table' ≡ length table) × ((i : ℕ) → length taps ≤ i → get_or table' i (pos 0) ≡ get_or table i (pos 0))
  -- "Lent memory: unchanged", on a refusal
  pub refused_unchanged : (F : ℕ) (normalised : Bool) (taps : List Float) (table : List ℤ) (number place : ℕ) (table' : List ℤ)
      → TapsRounded F normalised taps table (refused number place) table' → table' ≡ table
  -- "The report on a set carries the divisor"
  pub divisor : (F : ℕ) (normalised : Bool) (taps : List Float) (table : List ℤ) (r : Report) (table' : List ℤ) → TapsRounded F normalised taps table (given r) table'
      → r.divisor ≡ divisor_of normalised taps
  -- "and the largest leftover by magnitude"
  pub largest_leftover : (F : ℕ) (normalised : Bool) (taps : List Float) (table : List ℤ) (r : Report) (table' : List ℤ) → Binary64 taps
      → TapsRounded F normalised taps table (given r) table' → LargestLeftover F (used normalised taps) r.leftover
  -- demand 1: no result is infinite or not-a-number
  pub report_finite : (F : ℕ) (normalised : Bool) (taps : List Float) (table : List ℤ) (r : Report) (table' : List ℤ) → TapsRounded F normalised taps table (given r) table'
      → Finite r
  pub never_nan : (F : ℕ) (normalised : Bool) (taps : List Float) (table : List ℤ) (r : Report) (table' : List ℤ) → TapsRounded F normalised taps table (given r) table'
      → (is_nan r.divisor ≡ false) × (is_nan r.leftover ≡ false)
  -- bench figures, and taps of which the hypotheses above hold
  pub figures : SetFigures
  pub three_binary64 : Binary64 three
  pub three_accepted : SetAccepted 2 false three 3
