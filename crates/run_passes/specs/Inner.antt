-- Four samples as they are stored, for the contracts of inner functions; document 01 does not speak of them. Definitions only.
use Rattle.std.specs.Prelude.{List, [], ◌∷◌, ℕ, ℤ, get_or}
use Rattle.run_products.specs.Inner.{sample_in}

-- the samples that the four words of y store
abbrev pub samples_in : List ℕ → List ℤ
samples_in y = sample_in (get_or y 0 0) ∷ sample_in (get_or y 1 0) ∷ sample_in (get_or y 2 0) ∷ sample_in (get_or y 3 0) ∷ []
