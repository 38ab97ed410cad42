-- What the steps of rounding a set of taps give. Definitions only.
use Rattle.std.specs.Prelude.{ℕ, Bool, false, not, ◌&&◌, cond, List, ◌≡◌, pos, Float}
use Rattle.std.specs.Float.{fin}
use Rattle.std.specs.Float.Ieee.{lt, neg}
use Rattle.refusal.specs.Answer.{Answer, given, refused, turned_down_of, refuse_if, refuse_at, lowest}
use Rattle.refusal.specs.declared.Refusal.{Refusal}
use Rattle.tap.specs.Rounding.{finite, rounded_tap}
use Rattle.tap.specs.Inner.{is_refused}
use Rattle.tap_set.specs.declared.Report.{Report}
use Rattle.tap_normalise.specs.Normalised.{sum_of, unusable, infinite, used, divisor_of}
use Rattle.tap_set.specs.Set.{larger_of, report_of, bounded}

-- x or -x, by whether x is below zero
unfoldable pub magnitude_of : Float → Float
unfolding lt neg
magnitude_of x = cond (lt x (fin false 0 (pos 0))) (neg x) x

-- the report with one leftover more
unfoldable pub with_leftover : Report → Float → Report
unfolding larger_of
with_leftover r l = record { divisor = r.divisor; leftover = larger_of r.leftover l }

-- whether a number is turned down, as a tap is
abbrev pub turned : ℕ → Float → Bool
turned F x = is_refused (rounded_tap F x)

-- the numbers in turn, up to the first that is turned down
unfoldable pub tried : ℕ → Float → List Float → Answer Report
tried F d xs = refuse_at (lowest (turned F) xs) 6 (given (report_of F d xs))

-- what makes refusals of places makes those of one row of the table
abbrev pub Numbered : (ℕ → Refusal → Type 0) → ℕ → Type 0
Numbered makes rule = (place : ℕ) (r : Refusal) → makes place r → turned_down_of {A = Report} r ≡ refused rule place

-- numbers that may not be finite, which the row with this number turns down, before the rest
abbrev pub finite_first : ℕ → List Float → Answer Report → Answer Report
finite_first rule xs rest = refuse_at (lowest (λ (x : Float). not (finite x)) xs) rule rest

-- the same, with the check 6
unfoldable pub checked : ℕ → ℕ → Float → List Float → Answer Report
unfolding bounded
checked rule F d xs = finite_first rule xs (bounded F d xs)

-- a set that has passed the checks 1 to 4
unfoldable pub settled : ℕ → Bool → List Float → Answer Report
unfolding bounded
settled F normalised taps =
    finite_first 5 taps
    (refuse_if (normalised && unusable (sum_of taps)) 7
    (refuse_at (lowest (λ (q : Float). normalised && infinite q) (used normalised taps)) 7
    (bounded F (divisor_of normalised taps) (used normalised taps))))
