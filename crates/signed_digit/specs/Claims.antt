-- What is claimed of digit strings, of the listing, and of what the entries for it leave, in document 01's words, "Digits". Statements only; proofs/Claims.antt
-- proves `DigitClaims`.
use Rattle.std.specs.Prelude.{◌≡◌, false, ◌&&◌, ◌↔◌, ◌⊎◌, ◌≢◌, ℕ, suc, ◌+◌, ◌*◌, ◌≤◌, ◌<◌, ◌^◌, ◌/◌, ◌%◌, ℤ, pos, nat_abs, ◌-ℤ◌, length, take, drop, get_or}
use mathlib.Core.List.{List, [], ◌∷◌, map, Memᴰ}
use Rattle.std.specs.Int.Bits.{bit_and}
use Rattle.std.specs.Int.Count.{ones}
use Rattle.word.specs.Bounds.{Coefficient}
use Rattle.refusal.specs.Answer.{Answer, given, refused}
use Rattle.signed_digit.specs.Digit.{one, minus_one}
use Rattle.signed_digit.specs.String.{DigitString, digit_at}
use Rattle.signed_digit.specs.Value.{value}
use Rattle.signed_digit.specs.Weight.{weight}
use Rattle.signed_digit.specs.Same.{Same}
use Rattle.signed_digit.specs.Minimal.{Minimal}
use Rattle.signed_digit.specs.Canonical.{Canonical}
use Rattle.signed_digit.specs.Order.{Earlier}
use Rattle.signed_digit.specs.Listing.{Ordered, Once, StandsIn, IsListing}
use Rattle.signed_digit.specs.Masks.{plus_bit, minus_bit, plus_mask, minus_mask, holds, from_masks}
use Rattle.signed_digit.specs.Reduction.{Reduction}
use Rattle.signed_digit.specs.Fibonacci.{fibonacci}
use Rattle.signed_digit.specs.CanonicalForm.{canonical}
use Rattle.signed_digit.specs.Forms.{listing}
use Rattle.signed_digit.specs.Listed.{FormsListed, FormsCounted}

-- The canonical form of n over p places: "Every 32-bit coefficient has exactly one", leading zeros aside. It is minimal, and "The CSD form is therefore first."
pub record TheCanonical (p : ℕ) (n : ℤ) : Type 0 where
  pub places : length (canonical p n) ≡ p
  pub is_canonical : Canonical (canonical p n)
  pub minimal : Minimal n (canonical p n)
  pub only : (s : DigitString) → Canonical s → value s ≡ n → Same s (canonical p n)
  pub first : (rest : List DigitString) × (listing p n ≡ canonical p n ∷ rest)

-- Demand 3, its first two sentences, of a listing l of n and its form count. The comments are the demand's words.
pub record ListingComplete (n : ℤ) (count : ℕ) (l : List DigitString) : Type 0 where
  -- a signed-digit string of any length stands in the listing, leading zeros aside, exactly when it has the coefficient's value and
  -- every other string of that value, of any length, has at least as many nonzero digits.
  pub stands : (s : DigitString) → StandsIn s l ↔ ((value s ≡ n) × ((t : DigitString) → value t ≡ n → weight s ≤ weight t))
  -- It stands there once,
  pub once : Once l
  -- in document 01's order,
  pub in_order : Ordered l
  -- and the form count is the number of such strings, leading zeros aside again:
  -- a list that holds exactly these strings, once each, is as long as the count says.
  pub number : (k : List DigitString) → Once k → ((s : DigitString) → StandsIn s k ↔ Minimal n s) → length k ≡ count
  -- ("The form count returned is the number of forms held", "A form is a string of 32 places.")
  pub held : length l ≡ count
  pub places : (s : DigitString) → Memᴰ s l → length s ≡ 32

-- two mask tables read as forms, element by element
abbrev pub read_back_of : List ℕ → List ℕ → List DigitString
read_back_of [] ys = []
read_back_of (x ∷ xs) [] = []
read_back_of (x ∷ xs) (y ∷ ys) = from_masks 32 x y ∷ read_back_of xs ys

-- what stands in the tables plus' and minus' that held plus and minus before
pub record Written (n : ℤ) (plus minus : List ℕ) (answer : Answer ℕ) (plus' minus' : List ℕ) : Type 0 where
  pub count : ℕ
  pub returned : answer ≡ given count
  -- the forms in the tables, as many as the entry returns, are the listing
  pub is_listing : read_back_of (take count plus') (take count minus') ≡ listing 32 n
  pub complete : ListingComplete n count (read_back_of (take count plus') (take count minus'))
  -- "two 32-bit masks: places holding 1 and places holding -1"
  pub plus_masks : take count plus' ≡ map plus_mask (listing 32 n)
  pub minus_masks : take count minus' ≡ map minus_mask (listing 32 n)
  -- "No place is in both."
  pub no_place_in_both : (form place : ℕ) → form < count → (holds (get_or plus' form 0) place && holds (get_or minus' form 0) place) ≡ false
  -- "elements past those that the result fills are untouched"
  pub plus_past : drop count plus' ≡ drop count plus
  pub minus_past : drop count minus' ≡ drop count minus

pub record DigitClaims : Type 0 where
  -- "two strings are the same when dropping all zeros at their high ends leaves the same list": they have the same digit at every place
  pub same_digits : (s t : DigitString) → Same s t ↔ ((place : ℕ) → digit_at s place ≡ digit_at t place)
  -- "two 32-bit masks: places holding 1 and places holding -1. No place is in both."
  pub masks_bits : (s : DigitString) (place : ℕ)
      → (plus_mask s / 2 ^ place % 2 ≡ plus_bit (digit_at s place)) × (minus_mask s / 2 ^ place % 2 ≡ minus_bit (digit_at s place))
  pub masks_disjoint : (s : DigitString) → bit_and (plus_mask s) (minus_mask s) ≡ 0
  -- from digits to masks and back, and from masks to digits and back
  pub masks_string : (s : DigitString) → from_masks (length s) (plus_mask s) (minus_mask s) ≡ s
  pub string_masks : (p x y : ℕ) → x < 2 ^ p → y < 2 ^ p → bit_and x y ≡ 0 → (plus_mask (from_masks p x y) ≡ x) × (minus_mask (from_masks p x y) ≡ y)
  -- "Its value is the first mask minus the second"
  pub value_masks : (s : DigitString) → value s ≡ pos (plus_mask s) -ℤ pos (minus_mask s)
  -- "Weight is the number of nonzero digits.": the ones of both masks
  pub masks_weight : (s : DigitString) → ones (plus_mask s) + ones (minus_mask s) ≡ weight s
  -- "The CSD form has no two adjacent nonzero digits .. Every 32-bit coefficient has exactly one, -2^31 included."
  pub canonical_form : (p : ℕ) (n : ℤ) → 3 * nat_abs n ≤ 2 * 2 ^ p → TheCanonical p n
  pub canonical_32 : (n : ℤ) → Coefficient n → TheCanonical 32 n
  -- "The listing of N holds each form of N's value with the least weight, once": `listing` does, and no other list
  pub listing_is : (p : ℕ) (n : ℤ) → IsListing p n (listing p n)
  pub listing_unique : (p : ℕ) (n : ℤ) (l : List DigitString) → IsListing p n l → l ≡ listing p n
  -- "no string of that value, of any length, has fewer nonzero digits"
  pub listing_complete : (n : ℤ) → Coefficient n → ListingComplete n (length (listing 32 n)) (listing 32 n)
  -- "Of two forms the earlier is the one that is nonzero at the highest place where they differ.": strings of one value never hold 1 and -1 there, so that of
  -- two that are not the same one is the earlier
  pub never_opposite : (s t : DigitString) → value s ≡ value t → (place : ℕ) → ((i : ℕ) → place < i → digit_at s i ≡ digit_at t i)
      → digit_at s place ≡ one → digit_at t place ≡ minus_one → ⊥
  pub comparable : (s t : DigitString) → value s ≡ value t → Same s t ⊎ (Earlier s t ⊎ Earlier t s)
  -- "The CSD form is therefore first."
  pub listing_first : (p : ℕ) (n : ℤ) (c : DigitString) → length c ≡ p → Canonical c → value c ≡ n → (rest : List DigitString) × (listing p n ≡ c ∷ rest)
  -- "at most 1,597 forms of one coefficient": at most Fibonacci(w + 1) of a coefficient of weight w
  pub bound : (n : ℤ) → Coefficient n → length (listing 32 n) ≤ fibonacci (suc (weight (canonical 32 n)))
  pub at_most_1597 : (n : ℤ) → Coefficient n → length (listing 32 n) ≤ 1597
  -- of the tables that `minimal_forms` leaves and the count that it returns, when no table is under its length
  pub minimal_forms_written : (n : ℤ) → Coefficient n → (plus minus : List ℕ) (answer : Answer ℕ) (plus' minus' : List ℕ) → 1597 ≤ length plus
      → 1597 ≤ length minus → FormsListed n plus minus answer plus' minus' → Written n plus minus answer plus' minus'
  -- "3, place 0": "a lent table is under its length", and lent memory is "unchanged"
  pub minimal_forms_refused : (n : ℤ) (plus minus : List ℕ) (answer : Answer ℕ) (plus' minus' : List ℕ) → (length plus < 1597) ⊎ (length minus < 1597)
      → FormsListed n plus minus answer plus' minus' → (answer ≡ refused 3 0) × (plus' ≡ plus) × (minus' ≡ minus)
  -- "The form count returned is the number of forms held", of `form_count`
  pub form_count_held : (n : ℤ) → Coefficient n → (count : ℕ) → FormsCounted n count → ListingComplete n count (listing 32 n)
  -- "a nonzero coefficient is sign × odd part × 2^shift", in one way only; "Zero has no odd part."
  pub reduction : (n : ℤ) → n ≢ pos 0 → Reduction n
  pub reduction_only : (n : ℤ) (r q : Reduction n) → (r.sign ≡ q.sign) × (r.odd_part ≡ q.odd_part) × (r.shift ≡ q.shift)
  pub zero_irreducible : Reduction (pos 0) → ⊥
