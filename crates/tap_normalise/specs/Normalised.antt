-- Normalised mode: document 01, "Taps to coefficients", first paragraph. Definitions only.
use Rattle.std.specs.Prelude.{Bool, true, false, List, [], ◌∷◌, map, pos, eqb, Float}
use Rattle.std.specs.Float.{nan, inf, fin, binary64}
use Rattle.std.specs.Float.Ieee.{add, div}

-- xs added to t in order, "each addition rounded once"
unfoldable pub sum_from : Float → List Float → Float
sum_from t [] = t
sum_from t (x ∷ xs) = sum_from (add binary64 t x) xs

-- "the taps are summed in order from +0"
abbrev pub sum_of : List Float → Float
sum_of taps = sum_from (fin false 0 (pos 0)) taps

-- "sum is zero, infinite or not-a-number"
abbrev pub unusable : Float → Bool
unusable nan = true
unusable (inf s) = true
unusable (fin s m e) = eqb m 0

-- "a quotient is infinite"
abbrev pub infinite : Float → Bool
infinite nan = false
infinite (inf s) = true
infinite (fin s m e) = false

-- "each tap is divided by that sum, rounded once"
abbrev pub quotients : Float → List Float → List Float
quotients sum taps = map (λ (x : Float). div binary64 x sum) taps

-- the numbers that are rounded: "in normalised mode the quotient stands for the tap"
abbrev pub used : Bool → List Float → List Float
used false taps = taps
used true taps = quotients (sum_of taps) taps

-- "the divisor 1 where nothing was normalised"
abbrev pub divisor_of : Bool → List Float → Float
divisor_of false taps = fin false 1 (pos 0)
divisor_of true taps = sum_of taps
