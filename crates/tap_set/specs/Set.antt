-- A set of taps: its report, its coefficients and its refusals. Document 01, "Taps to coefficients" and "Turned down". Definitions only.
use Rattle.std.specs.Prelude.{◌≡◌, ℕ, Bool, false, not, ◌&&◌, cond, List, [], ◌∷◌, map, ℤ, pos, ltb, eqb, length, Float}
use Rattle.std.specs.Float.{fin}
use Rattle.std.specs.Float.Ieee.{lt}
use Rattle.refusal.specs.Answer.{Answer, given, refuse_if, refuse_at, lowest, filled}
use Rattle.tap.specs.Rounding.{TapResult, finite, outside, result_of, abs_of, whole_of, left_of}
use Rattle.tap_set.specs.declared.Report.{Report}
use Rattle.tap_normalise.specs.Normalised.{sum_of, unusable, infinite, used, divisor_of}

-- "of equal magnitudes the earliest tap's is taken": y only where it is larger than x
unfoldable pub larger_of : Float → Float → Float
larger_of x y = cond (lt (abs_of x) (abs_of y)) y x

-- the report with one tap more
unfoldable pub reported : Report → TapResult → Report
unfolding larger_of
reported r c = record { divisor = r.divisor; leftover = larger_of r.leftover (left_of c) }

-- the report handed on from number to number
unfoldable pub report_from : ℕ → Report → List Float → Report
unfolding reported result_of
report_from F r [] = r
report_from F r (x ∷ xs) = report_from F (reported r (result_of F x)) xs

-- "the divisor and the largest leftover by magnitude", "the leftover +0 where all taps are exact"
abbrev pub report_of : ℕ → Float → List Float → Report
report_of F d xs = report_from F (record { divisor = d; leftover = fin false 0 (pos 0) }) xs

-- N of each number
abbrev pub coefficients_of : ℕ → List Float → List ℤ
coefficients_of F xs = map (λ (x : Float). whole_of (result_of F x)) xs

-- the check 6, over all numbers, and the report
unfoldable pub bounded : ℕ → Float → List Float → Answer Report
bounded F d xs = refuse_at (lowest (outside F) xs) 6 (given (report_of F d xs))

-- a set of taps, with a table of room coefficients: "Checks run down the table", "5, 7 and 6 are each tried over all taps before the next"
unfoldable pub rounded_taps : ℕ → Bool → List Float → ℕ → Answer Report
unfolding bounded
rounded_taps F normalised taps room =
    refuse_if (eqb (length taps) 0) 1
    (refuse_if (ltb 256 (length taps)) 2
    (refuse_if (ltb room (length taps)) 3
    (refuse_if (ltb 31 F) 4
    (refuse_at (lowest (λ (x : Float). not (finite x)) taps) 5
    (refuse_if (normalised && unusable (sum_of taps)) 7
    (refuse_at (lowest (λ (q : Float). normalised && infinite q) (used normalised taps)) 7
    (bounded F (divisor_of normalised taps) (used normalised taps))))))))

-- rounding the taps with F fraction bits answers a and leaves table' in the lent table: the contract of `round_taps`, and what every claim about it speaks of
pub record TapsRounded (F : ℕ) (normalised : Bool) (taps : List Float) (table : List ℤ) (a : Answer Report) (table' : List ℤ) : Type 0 where
  pub answer : a ≡ rounded_taps F normalised taps (length table)
  pub written : table' ≡ filled (rounded_taps F normalised taps (length table)) (coefficients_of F (used normalised taps)) table
