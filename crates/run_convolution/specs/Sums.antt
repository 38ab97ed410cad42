-- The sums of demand 3. Document 01, "The network": "These are sums of whole numbers, and nothing wraps in them". Definitions only.
use Rattle.std.specs.Prelude.{cond, List, [], ◌∷◌, ◌++◌, reverse, ℕ, ◌+◌, ltb, ℤ, pos, ◌*ℤ◌, length, get_or}
use Rattle.sequence.specs.Sum.{sum_below}

-- of the samples xs, in order, the one j before the latest, "0 where there is none"
abbrev pub before : List ℤ → ℕ → ℤ
before xs j = get_or (reverse xs) j (pos 0)

-- the output for the latest of the samples xs: "the sum, over k from 0 to the last tap, of h(k) times the sample k earlier"
unfoldable pub output_sum : List ℤ → List ℤ → ℤ
output_sum h xs = sum_below (length h) (λ k. get_or h k (pos 0) *ℤ before xs k)

-- r(k) after the samples xs: "the sum, over j from 0, of h(k+1+j) times the sample j before the latest"
unfoldable pub register_sum : List ℤ → List ℤ → ℕ → ℤ
register_sum h xs k = sum_below (length h) (λ j. get_or h (k + 1 + j) (pos 0) *ℤ before xs j)

-- the outputs for the samples ys in order, which follow the samples xs
unfoldable pub output_sums : List ℤ → List ℤ → List ℤ → List ℤ
output_sums h xs [] = []
output_sums h xs (y ∷ ys) = output_sum h (xs ++ (y ∷ [])) ∷ output_sums h (xs ++ (y ∷ [])) ys

-- what register k held, and 0 past the last register: old content moves down one register a sample
abbrev pub held : List ℕ → ℕ → ℕ
held r k = cond (ltb k 256) (get_or r k 0) 0
