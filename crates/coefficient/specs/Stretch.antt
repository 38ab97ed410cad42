-- Document 01: "The trimmed filter is the caller's own stretch of coefficients from the first nonzero to the last; for all zeros or no
-- coefficients, the empty stretch at the start." Definitions only.
use Rattle.std.specs.Prelude.{◌≡◌, cond, List, [], ◌∷◌, ℕ, zero, suc, ◌+◌, ◌*◌, ◌-◌, ℤ, take, drop}
use Rattle.word.specs.Zero.{is_zero}

-- "the first nonzero": its place, that of the first element being k; 0 where there is none
unfoldable pub first_from : ℕ → List ℤ → ℕ
first_from k [] = 0
first_from k (x ∷ xs) = cond (is_zero x) (first_from (suc k) xs) k

-- places count from 0
abbrev pub start_of : List ℤ → ℕ
start_of h = first_from 0 h

-- the end with one element more in front
abbrev pub end_with : ℤ → ℕ → ℕ
end_with x zero = cond (is_zero x) 0 1
end_with x (suc e) = suc (suc e)

-- "the last": the place after the last nonzero; 0 where there is none
unfoldable pub end_of : List ℤ → ℕ
end_of [] = 0
end_of (x ∷ xs) = end_with x (end_of xs)

-- the elements of h from the place a up to the place e, which is not among them
abbrev pub stretch : List ℤ → ℕ → ℕ → List ℤ
stretch h a e = take (e - a) (drop a h)

-- "The trimmed filter"
abbrev pub trimmed_filter : List ℤ → List ℤ
trimmed_filter h = stretch h (start_of h) (end_of h)

-- where a slice stands in memory: the number of its block, and the bytes of the block in front of it
abbrev pub Location : Type 0
Location = ℕ × ℕ

-- the location of the element at a place of a slice of 32-bit numbers
abbrev pub further : Location → ℕ → Location
further at place = (at.0, place * 4 + at.1)

-- the stretch starts at the place: the contract of `first_nonzero`, and what every claim about it speaks of
pub record StretchStarts (h : List ℤ) (place : ℕ) : Type 0 where
  pub first : place ≡ start_of h

-- the stretch ends before the place: the contract of `end_of_nonzero`, and what every claim about it speaks of
pub record StretchEnds (h : List ℤ) (place : ℕ) : Type 0 where
  pub past_last : place ≡ end_of h

-- of the slice h that stands at the location `at`, the part that stands at the location `from` is the trimmed filter, "the caller's own stretch": the contract
-- of `trimmed`, and what every claim about it speaks of
pub record TrimmedTo (h : List ℤ) (at : Location) (part : List ℤ) (from : Location) : Type 0 where
  pub contents : part ≡ trimmed_filter h
  pub place : from ≡ further at (start_of h)
