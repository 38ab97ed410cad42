-- Texts by number, one after the other. Definitions only.
use Rattle.std.specs.Prelude.{List, [], ◌∷◌, ◌++◌, ℕ, zero, suc}

-- the lines of a list, "each by number", the first number being i
unfoldable pub lines_from : {A : Type 0} → (ℕ → A → List ℕ) → ℕ → List A → List ℕ
lines_from line_of i [] = []
lines_from line_of i (x ∷ xs) = line_of i x ++ lines_from line_of (suc i) xs

-- the texts of n numbers, the first being i
unfoldable pub numbered_from : (ℕ → List ℕ) → ℕ → ℕ → List ℕ
numbered_from text_of i zero = []
numbered_from text_of i (suc n) = text_of i ++ numbered_from text_of (suc i) n
