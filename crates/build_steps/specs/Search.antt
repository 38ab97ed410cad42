-- Steps 1 and 2 of building: a row that has a value, and the search for one new row. Document 01, "Building". Definitions only.
use Rattle.std.specs.Prelude.{ℕ, suc, ◌^◌, cond, List, [], ◌∷◌, eqb, leb, length}
use Rattle.refusal.specs.Answer.{Place, nowhere, at_place, lowest}
use Rattle.sequence.specs.UpTo.{up_to}
use Rattle.network.specs.declared.Row.{Row}
use Rattle.network.specs.Rows.{plus, minus, reversed, row_in}
use Rattle.network.specs.RowRule.{lifted, is_worked_of}

-- step 1: the number of the row that has this value, if there is one
unfoldable pub row_with : List Row → ℕ → Place
row_with rows v = lowest (λ (r : Row). eqb r.value v) rows

-- what a search finds
pub data Fit : Type 0 where
  fit : Row → Fit
  none_fits : Fit

unfoldable pub or_else : Fit → Fit → Fit
or_else (fit r) other = fit r
or_else none_fits other = other

-- the first fit over a list of things to try
unfoldable pub first_over : {A : Type 0} → (A → Fit) → List A → Fit
first_over try [] = none_fits
first_over try (x ∷ xs) = or_else (try x) (first_over try xs)

-- the new row of value v with a right row, if there is one
unfoldable pub row_over : ℕ → ℕ → ℕ → ℕ → Place → Fit
row_over v left shift sign nowhere = none_fits
row_over v left shift sign (at_place right) = fit (record { left = left; right = right; shift = shift; sign = sign; value = v })

-- a new row of value v with this left row, shift and sign: 2^s·left is at most 2^32, and the right row makes the value v
unfoldable pub tried : List Row → ℕ → ℕ → ℕ → ℕ → Fit
tried rows v left shift sign =
    cond (leb (lifted shift (row_in rows left).value) (2 ^ 32))
    (row_over v left shift sign (lowest (λ (r : Row). is_worked_of sign (lifted shift (row_in rows left).value) r.value v) rows))
    none_fits

-- "sign in the order `+`, `-`, `r`"
abbrev pub signs : List ℕ
signs = plus ∷ minus ∷ reversed ∷ []

-- "a shift s from 1 to 31"
abbrev pub shifts : List ℕ
shifts = up_to 31 suc

-- the first fit with this left row and shift
unfoldable pub fit_at_shift : List Row → ℕ → ℕ → ℕ → Fit
fit_at_shift rows v left shift = first_over (tried rows v left shift) signs

-- the first fit with this left row
unfoldable pub fit_at_left : List Row → ℕ → ℕ → Fit
fit_at_left rows v left = first_over (fit_at_shift rows v left) shifts

-- step 2: "search for one new row from existing rows: lowest left, then lowest shift, then sign"
unfoldable pub first_fit_of : List Row → ℕ → Fit
first_fit_of rows v = first_over (fit_at_left rows v) (up_to (length rows) (λ (i : ℕ). i))
