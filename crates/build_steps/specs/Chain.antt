-- Step 3 of building: "read the chosen form from its highest nonzero digit down, v = 2^gap·v ± 1 with row 0 on the right; each v without a row
-- gets one." Document 01, "Building". Definitions only.
use Rattle.std.specs.Prelude.{ℕ, suc, ◌+◌, ◌*◌, ◌-◌, ◌^◌, List, [], ◌∷◌, ◌++◌, reverse, pos, get_or}
use Rattle.refusal.specs.Answer.{Place, nowhere, at_place, place_or}
use Rattle.signed_digit.specs.Digit.{one, nought, minus_one}
use Rattle.signed_digit.specs.String.{DigitString}
use Rattle.signed_digit.specs.Forms.{listing}
use Rattle.network.specs.declared.Row.{Row}
use Rattle.network.specs.Rows.{plus, minus}
use Rattle.build_steps.specs.Search.{row_with}

-- "The choice for a tap is a form number, from 0, in the listing of its odd part"
unfoldable pub chosen_form_of : ℕ → ℕ → DigitString
chosen_form_of v choice = get_or (listing 32 (pos v)) choice []

-- a row is added where the value has none
unfoldable pub add_unless : Place → List Row → Row → List Row
add_unless (at_place i) rows r = rows
add_unless nowhere rows r = rows ++ (r ∷ [])

-- the next v, from the last one
unfoldable pub chain_step : List Row → ℕ → ℕ → ℕ → ℕ → List Row
chain_step rows v gap sign next =
    add_unless (row_with rows next) rows (record { left = place_or 0 (row_with rows v); right = 0; shift = gap; sign = sign; value = next })

-- below a nonzero digit, at v, the places to the next one being `gap`; the digits from high to low
unfoldable pub chain_from : List Row → ℕ → ℕ → DigitString → List Row
chain_from rows v gap [] = rows
chain_from rows v gap (nought ∷ s) = chain_from rows v (suc gap) s
chain_from rows v gap (one ∷ s) = chain_from (chain_step rows v gap plus (2 ^ gap * v + 1)) (2 ^ gap * v + 1) 1 s
chain_from rows v gap (minus_one ∷ s) = chain_from (chain_step rows v gap minus (2 ^ gap * v - 1)) (2 ^ gap * v - 1) 1 s

-- "from its highest nonzero digit down": this digit, a 1, is row 0
unfoldable pub chain_down : List Row → DigitString → List Row
chain_down rows [] = rows
chain_down rows (nought ∷ s) = chain_down rows s
chain_down rows (one ∷ s) = chain_from rows 1 1 s
chain_down rows (minus_one ∷ s) = rows

-- the rows with a form's chain; a form has place 0 first
unfoldable pub chained : List Row → DigitString → List Row
chained rows form = chain_down rows (reverse form)

-- ---- the values of a chain

-- the last v, from v and `gap` on; the digits from high to low
unfoldable pub chain_value : ℕ → ℕ → DigitString → ℕ
chain_value v gap [] = v
chain_value v gap (nought ∷ s) = chain_value v (suc gap) s
chain_value v gap (one ∷ s) = chain_value (2 ^ gap * v + 1) 1 s
chain_value v gap (minus_one ∷ s) = chain_value (2 ^ gap * v - 1) 1 s

-- from the highest nonzero digit down; 0 where this is not a 1
unfoldable pub chain_end : DigitString → ℕ
chain_end [] = 0
chain_end (nought ∷ s) = chain_end s
chain_end (one ∷ s) = chain_value 1 1 s
chain_end (minus_one ∷ s) = 0
