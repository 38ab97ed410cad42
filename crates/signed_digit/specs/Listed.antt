-- What the entries for the forms of a coefficient answer and leave in the two lent mask tables. Document 01, "Digits" and "Turned down". Definitions only.
use Rattle.std.specs.Prelude.{◌≡◌, ◌||◌, List, map, ℕ, ltb, ℤ, length}
use Rattle.refusal.specs.Answer.{Answer, given, refuse_if, filled}
use Rattle.signed_digit.specs.Masks.{plus_mask, minus_mask}
use Rattle.signed_digit.specs.Forms.{listing}

-- "The form count returned is the number of forms held"; the check 3: "a lent table is under its length: forms 1,597 each mask"
unfoldable pub form_count_of : ℤ → ℕ → ℕ → Answer ℕ
form_count_of n plus_room minus_room = refuse_if (ltb plus_room 1597 || ltb minus_room 1597) 3 (given (length (listing 32 n)))

-- the listing of n is answered so, and leaves plus' and minus' in the tables plus and minus: the contract of `minimal_forms`, and what every claim about it
-- speaks of
pub record FormsListed (n : ℤ) (plus minus : List ℕ) (answer : Answer ℕ) (plus' minus' : List ℕ) : Type 0 where
  pub count : answer ≡ form_count_of n (length plus) (length minus)
  pub plus_table : plus' ≡ filled (form_count_of n (length plus) (length minus)) (map plus_mask (listing 32 n)) plus
  pub minus_table : minus' ≡ filled (form_count_of n (length plus) (length minus)) (map minus_mask (listing 32 n)) minus

-- the number of forms of n is returned: the contract of `form_count`, and what every claim about it speaks of
pub record FormsCounted (n : ℤ) (count : ℕ) : Type 0 where
  pub number : count ≡ length (listing 32 n)
