-- What `minimal_forms` leaves in two tables that are long enough.
use mathlib.Core.Path.{◌≡◌, refl, ap, ap₂, sym, ◌∙◌, subst}
use mathlib.Core.Bool.{false, ◌&&◌}
use mathlib.Core.List.{List, [], ◌∷◌, ◌++◌, map, Memᴰ}
use mathlib.Core.Logic.{◌⊎◌}
use Prim.Native.Nat.{ℕ, ◌≤◌, ◌<◌}
use lib.Dec.{eqb}
use lib.IntN.{ℤ}
use lib.ListN.{length, take, drop, get_or, length-map, get_or-map}
use lib.Seq.{take_at, drop_at, get_or-take}
use Rattle.word.specs.Bounds.{Coefficient}
use Rattle.refusal.specs.Answer.{Answer, refused, filled}
use Rattle.signed_digit.specs.Digit.{Digit, one, nought, minus_one}
use Rattle.signed_digit.specs.String.{DigitString, digit_at}
use Rattle.signed_digit.specs.Masks.{plus_bit, minus_bit, plus_mask, minus_mask, holds, from_masks}
use Rattle.signed_digit.specs.Forms.{listing}
use Rattle.signed_digit.specs.Listed.{FormsListed, FormsCounted}
use Rattle.signed_digit.specs.Claims.{ListingComplete, read_back_of, Written}
use Rattle.signed_digit.proofs.Masks.{masks_bits, masks_string}
use Rattle.signed_digit.proofs.Demand.{listing_complete}
use Rattle.signed_digit.proofs.FormCount.{one_short, long_enough}

read_masks : (l : List DigitString) → ((s : DigitString) → Memᴰ s l → length s ≡ 32) → read_back_of (map plus_mask l) (map minus_mask l) ≡ l
read_masks [] h = refl
read_masks (s ∷ l) h =
    ap₂ (λ (x : DigitString) (y : List DigitString). x ∷ y)
    (ap (λ (p : ℕ). from_masks p (plus_mask s) (minus_mask s)) (sym (h s (Memᴰ.head refl))) ∙ masks_string s) (read_masks l (λ t m. h t (Memᴰ.tail m)))

of_listing : (n : ℤ) → Coefficient n → (l : List DigitString) → l ≡ listing 32 n → ListingComplete n (length (listing 32 n)) l
of_listing n c l e = subst (ListingComplete n (length (listing 32 n))) (sym e) (listing_complete n c)

-- ---- the front of a table holds the masks f of the forms
module _ (n : ℤ) (f : DigitString → ℕ) (t t' : List ℕ) (e : t' ≡ map f (listing 32 n) ++ drop (length (map f (listing 32 n))) t) where
  front : take (length (listing 32 n)) t' ≡ map f (listing 32 n)
  front =
      ap (take (length (listing 32 n))) e
      ∙ take_at (map f (listing 32 n)) (drop (length (map f (listing 32 n))) t) (length (listing 32 n)) (length-map (listing 32 n) f)

  past : drop (length (listing 32 n)) t' ≡ drop (length (listing 32 n)) t
  past =
      let q = length-map (listing 32 n) f in
      ap (drop (length (listing 32 n))) e
      ∙ drop_at (map f (listing 32 n)) (drop (length (map f (listing 32 n))) t) (length (listing 32 n)) q
      ∙ ap (λ (k : ℕ). drop k t) q

  -- the mask of a form is that of its string
  form_mask : f [] ≡ 0 → (i : ℕ) → i < length (listing 32 n) → get_or t' i 0 ≡ f (get_or (listing 32 n) i [])
  form_mask z i h =
      sym (get_or-take (length (listing 32 n)) t' i 0 h)
      ∙ ap (λ (x : List ℕ). get_or x i 0) front
      ∙ ap (get_or (map f (listing 32 n)) i) (sym z)
      ∙ get_or-map f (listing 32 n) i []

-- no digit is both 1 and -1
never_both : (d : Digit) → (eqb (plus_bit d) 1 && eqb (minus_bit d) 1) ≡ false
never_both one = refl
never_both nought = refl
never_both minus_one = refl

string_disjoint : (s : DigitString) (place : ℕ) → (holds (plus_mask s) place && holds (minus_mask s) place) ≡ false
string_disjoint s place =
    let b = masks_bits s place in
    ap₂ (λ (x y : ℕ). eqb x 1 && eqb y 1) b.0 b.1 ∙ never_both (digit_at s place)

-- for every coefficient n, and all tables of 1,597 elements or more
pub minimal_forms_written : (n : ℤ) → Coefficient n → (plus minus : List ℕ) (answer : Answer ℕ) (plus' minus' : List ℕ) → 1597 ≤ length plus → 1597 ≤ length minus
    → FormsListed n plus minus answer plus' minus' → Written n plus minus answer plus' minus'
minimal_forms_written n c plus minus answer plus' minus' hp hm a =
    let l = listing 32 n in
    let e = long_enough n (length plus) (length minus) hp hm in
    let P = a.plus_table ∙ ap (λ (x : Answer ℕ). filled x (map plus_mask l) plus) e in
    let M = a.minus_table ∙ ap (λ (x : Answer ℕ). filled x (map minus_mask l) minus) e in
    let i = front n plus_mask plus plus' P in
    let j = front n minus_mask minus minus' M in
    let r = ap₂ read_back_of i j ∙ read_masks l (listing_complete n c).places in
    record {
      count = length l;
      returned = a.count ∙ e;
      is_listing = r;
      complete = of_listing n c _ r;
      plus_masks = i;
      minus_masks = j;
      no_place_in_both = λ form place h.
          ap₂ (λ (x y : ℕ). holds x place && holds y place) (form_mask n plus_mask plus plus' P refl form h) (form_mask n minus_mask minus minus' M refl form h)
          ∙ string_disjoint (get_or l form []) place;
      plus_past = past n plus_mask plus plus' P;
      minus_past = past n minus_mask minus minus' M;
    }

-- for tables of which one is shorter
pub minimal_forms_refused : (n : ℤ) (plus minus : List ℕ) (answer : Answer ℕ) (plus' minus' : List ℕ) → (length plus < 1597) ⊎ (length minus < 1597)
    → FormsListed n plus minus answer plus' minus' → (answer ≡ refused 3 0) × (plus' ≡ plus) × (minus' ≡ minus)
minimal_forms_refused n plus minus answer plus' minus' h a =
    let e = one_short n (length plus) (length minus) h in (
      a.count ∙ e,
      a.plus_table ∙ ap (λ (x : Answer ℕ). filled x (map plus_mask (listing 32 n)) plus) e,
      a.minus_table ∙ ap (λ (x : Answer ℕ). filled x (map minus_mask (listing 32 n)) minus) e,
    )

pub form_count_held : (n : ℤ) → Coefficient n → (count : ℕ) → FormsCounted n count → ListingComplete n count (listing 32 n)
form_count_held n c count f = subst (λ (k : ℕ). ListingComplete n k (listing 32 n)) (sym f.number) (listing_complete n c)
