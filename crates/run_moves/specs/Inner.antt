-- The places of a pass, for the contracts of inner functions; document 01 does not speak of them. Definitions only.
use Rattle.std.specs.Prelude.{List, [], ◌∷◌, ℕ, ◌+◌, get_or}
use Rattle.run_products.specs.Inner.{coefficient_in, sample_in, four_sums, four_products}

-- what place j comes to from n: the coefficients stored in c, for the four samples stored in y, the first of which has the highest
abbrev pub placed : List ℕ → List ℕ → (j n : ℕ) → ℕ
placed c y j n = four_products n (get_or c (j + 4) 0 ∷ get_or c (j + 3) 0 ∷ get_or c (j + 2) 0 ∷ get_or c (j + 1) 0 ∷ []) y

-- the same of the numbers that c and y store
abbrev pub summed : List ℕ → List ℕ → (j n : ℕ) → ℕ
summed c y j n =
    four_sums n (coefficient_in (get_or c (j + 4) 0)) (coefficient_in (get_or c (j + 3) 0)) (coefficient_in (get_or c (j + 2) 0)) (coefficient_in (get_or c (j + 1) 0))
    (sample_in (get_or y 0 0)) (sample_in (get_or y 1 0)) (sample_in (get_or y 2 0)) (sample_in (get_or y 3 0))
