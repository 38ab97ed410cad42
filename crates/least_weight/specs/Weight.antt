-- The least weight of a whole number of any size: that of its canonical string, in places enough. A reader need not believe it: `LeastWeightClaims`
-- (specs/Claims.antt) says what it is. Definitions only.
use Rattle.std.specs.Prelude.{ℕ, suc, ℤ, nat_abs}
use Rattle.signed_digit.specs.Weight.{weight}
use Rattle.signed_digit.specs.CanonicalForm.{canonical_nat}
use Rattle.least_weight.specs.Logarithm.{log2up}

-- n is at most 2^L, so the canonical string has no digit past place L
abbrev pub places_for : ℕ → ℕ
places_for n = suc (log2up n)

unfoldable pub nat_weight : ℕ → ℕ
nat_weight n = weight (canonical_nat (places_for n) n)

abbrev pub minimal_weight : ℤ → ℕ
minimal_weight z = nat_weight (nat_abs z)
