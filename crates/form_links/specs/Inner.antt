-- How the minimal forms of a value hang together, and what copies within a mask table leave in it. Definitions of the algorithm's own:
-- no statement of document 01 rests on them.
use Rattle.std.specs.Prelude.{ℕ, ◌+◌, ◌*◌, ◌%◌, ◌^◌, List, [], ◌∷◌, ◌++◌, map, take, drop}
use Rattle.signed_digit.specs.Digit.{Digit, one, nought, minus_one}
use Rattle.signed_digit.specs.String.{DigitString}

-- Two canonical digits that stand two places apart are linked. A form takes a link by moving its upper digit one place down and turning the sign of its lower
-- digit, as 1 0 -1 becomes 0 1 1.

-- of a digit and the one two places above it: they are nonzero and opposite, or equal
abbrev pub opposed : Digit → Digit → ℕ
opposed one minus_one = 1
opposed minus_one one = 1
opposed one one = 0
opposed minus_one minus_one = 0
opposed one nought = 0
opposed minus_one nought = 0
opposed nought e = 0

abbrev pub alike : Digit → Digit → ℕ
alike one one = 1
alike minus_one minus_one = 1
alike one minus_one = 0
alike minus_one one = 0
alike one nought = 0
alike minus_one nought = 0
alike nought e = 0

-- the digit at place 1 of the string above a digit: the one two places above it
abbrev pub second : DigitString → Digit
second [] = nought
second (d ∷ []) = nought
second (d ∷ e ∷ s) = e

-- the mask of the links of one kind, at the place of their lower digit
abbrev pub links_of : (Digit → Digit → ℕ) → DigitString → ℕ
links_of kind [] = 0
links_of kind (d ∷ s) = kind d (second s) + 2 * links_of kind s

-- whether some form takes the link from d to e: any between opposite digits, one between equal digits where some form takes the link above
abbrev pub joined : Digit → Digit → ℕ → ℕ
joined one minus_one above = 1
joined minus_one one above = 1
joined one one above = above
joined minus_one minus_one above = above
joined one nought above = 0
joined minus_one nought above = 0
joined nought e above = 0

abbrev pub takes : Digit → DigitString → ℕ
takes d [] = 0
takes d (e ∷ []) = 0
takes d (e ∷ f ∷ s) = joined d f (takes f s)

-- the mask of the links that some form takes
abbrev pub taken_links : DigitString → ℕ
taken_links [] = 0
taken_links (d ∷ s) = takes d s + 2 * taken_links s

-- a mask with an offset, modulo 2^32
abbrev pub shifted : ℕ → ℕ → ℕ
shifted offset mask = (mask + offset) % 2 ^ 32

-- the first n elements, with the offset, are copied to the n places from `at` on
abbrev pub grown : List ℕ → ℕ → ℕ → ℕ → List ℕ
grown old at n offset = take at old ++ (map (shifted offset) (take n old) ++ drop (at + n) old)
