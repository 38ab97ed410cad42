-- The nonzero digits of a set of coefficients: by their number source document 004 counts the adders of a filter in which nothing is shared. Definitions only.
use Rattle.std.specs.Prelude.{List, [], ◌∷◌, ℕ, ◌+◌, ℤ}
use Rattle.signed_digit.specs.Weight.{weight}
use Rattle.signed_digit.specs.CanonicalForm.{canonical}

-- N_b of source document 004: how many digits of the coefficients are nonzero, each coefficient in canonical form
unfoldable pub nonzero_digits : List ℤ → ℕ
nonzero_digits [] = 0
nonzero_digits (n ∷ ns) = weight (canonical 32 n) + nonzero_digits ns
