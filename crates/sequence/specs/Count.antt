-- How many elements of a list pass a test. Definitions only.
use Rattle.std.specs.Prelude.{Bool, cond, List, [], ◌∷◌, ℕ, ◌+◌}

unfoldable pub how_many {ℓ} : {A : Type ℓ} → (A → Bool) → List A → ℕ
how_many test [] = 0
how_many test (a ∷ more) = cond (test a) 1 0 + how_many test more
