-- A table that is filled from the front, place by place. Definitions only.
use Rattle.std.specs.Prelude.{List, ◌++◌, ℕ, drop}
use Rattle.sequence.specs.UpTo.{up_to}

-- a table whose first n elements have become f 0, .. f (n - 1)
unfoldable pub front {ℓ} : {A : Type ℓ} → (ℕ → A) → List A → ℕ → List A
front f table n = up_to n f ++ drop n table
