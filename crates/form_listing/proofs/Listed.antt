-- The walk of `list`: the two tables at each link, and at its end. The forms of a negative number are those of its magnitude with the masks
-- exchanged. Assumes nothing.
use Rattle.std.proofs.Common.{◌≡◌, ℕ, suc, ◌+◌, ◌-◌, ◌*◌, ◌/◌, ◌%◌, ◌^◌, ◌≤◌, true, false, T, ◌≢◌, List, [], ◌∷◌, ◌++◌, map, length, take, drop, set, ℤ, pos, negsuc, nat_abs, sym, refl, ap, ◌∙◌, subst, ap₂, arith, length-set, drop-set-lt}
use Rattle.signed_digit.specs.Digit.{Digit, one, nought, minus_one, nonzero}
use Rattle.signed_digit.specs.String.{DigitString}
use Rattle.signed_digit.specs.Masks.{plus_mask, minus_mask}
use Rattle.signed_digit.specs.CanonicalForm.{negated, canonical_nat, canonical}
use Rattle.signed_digit.specs.Forms.{listing}
use Rattle.signed_digit.proofs.Strings.{negated_is}
use Rattle.signed_digit.proofs.Coefficients.{at_most_1597, canonical_32}
use Rattle.form_masks.specs.declared.Form.{Form}
use Rattle.form_masks.specs.Form.{form_of}
use Rattle.form_links.specs.Inner.{grown}
use Rattle.form_links.proofs.Lists.{listing_negated, listing_length}
use Rattle.form_links.proofs.Spots.{Spot, Walked, Reads, past, walked_end}
use Rattle.form_links.proofs.Spots as Spots
use Rattle.form_links.proofs.Needed.{Sided, needed}
use Rattle.form_links.proofs.Filled.{Filled, first_of, filled_start, filled_fits, filled_room, filled_nought, filled_digit, filled_end}
use Rattle.form_walk.specs.declared.Walk.{Walk}
use Rattle.form_walk.specs.Inner.{IsStart, skip_of, next_of}
use Rattle.form_walk.proofs.Stands.{At, AtLink, stands_start, at_link, at_end_lem, skip_fits, digit, digit_nonzero, digit_read, some_left, next_fits, stands_next}
use Rattle.form_walk.proofs.Counted.{small_enough, started}

-- ---- which table has the places that hold the sign of n
abbrev pub ups : {A : Type 0} → ℤ → A → A → A
ups (pos m) plus minus = plus
ups (negsuc k) plus minus = minus

abbrev pub downs : {A : Type 0} → ℤ → A → A → A
downs (pos m) plus minus = minus
downs (negsuc k) plus minus = plus

both_ups : {A B : Type 0} (n : ℤ) (f : A → B) (x y : A) → (ups n (f x) (f y) ≡ f (ups n x y)) × (downs n (f x) (f y) ≡ f (downs n x y))
both_ups (pos m) f x y = (refl, refl)
both_ups (negsuc k) f x y = (refl, refl)

each_ups : {A : Type 0} (n : ℤ) (P : A → Type 0) (x y : A) → P x → P y → P (ups n x y) × P (downs n x y)
each_ups (pos m) P x y i j = (i, j)
each_ups (negsuc k) P x y i j = (j, i)

from_ups : {A : Type 0} (n : ℤ) (P : A → Type 0) (x y : A) → P (ups n x y) → P (downs n x y) → P x × P y
from_ups (pos m) P x y i j = (i, j)
from_ups (negsuc k) P x y i j = (j, i)

-- ---- the tables that the walk starts from: the masks of the canonical form in front
pub record Ready (n : ℤ) (plus minus : List ℕ) : Type 0 where
  pub bounded : nat_abs n ≤ 2 ^ 31
  pub plus_room : 1597 ≤ length plus
  pub minus_room : 1597 ≤ length minus
  pub plus_first : take 1 plus ≡ plus_mask (canonical 32 n) ∷ []
  pub minus_first : take 1 minus ≡ minus_mask (canonical 32 n) ∷ []

front_set : (t : List ℕ) (x : ℕ) → 1 ≤ length t → take 1 (set t 0 x) ≡ x ∷ []
front_set [] x h = absurd (omega arith)
front_set (y ∷ t) x h = refl

pub ready : (n : ℤ) → nat_abs n ≤ 2 ^ 31 → (form : Form) → form ≡ form_of (canonical 32 n) → (P M : List ℕ) → 1597 ≤ length P → 1597 ≤ length M
    → Ready n (set P 0 form.plus) (set M 0 form.minus)
ready n b form e P M hp hm = record {
  bounded = b;
  plus_room = omega (arith, length-set P 0 form.plus);
  minus_room = omega (arith, length-set M 0 form.minus);
  plus_first = front_set P form.plus (omega arith) ∙ ap (λ (f : Form). f.plus ∷ []) e;
  minus_first = front_set M form.minus (omega arith) ∙ ap (λ (f : Form). f.minus ∷ []) e;
}

-- the canonical masks of the magnitude
firsts : (n : ℤ) (plus minus : List ℕ) → take 1 plus ≡ plus_mask (canonical 32 n) ∷ [] → take 1 minus ≡ minus_mask (canonical 32 n) ∷ []
    → (take 1 (ups n plus minus) ≡ first_of 32 (nat_abs n) one ∷ []) × (take 1 (downs n plus minus) ≡ first_of 32 (nat_abs n) minus_one ∷ [])
firsts (pos m) plus minus i j = (i, j)
firsts (negsuc k) plus minus i j =
    let s = negated_is (canonical_nat 32 (suc k)) in
    (j ∙ ap (λ (x : ℕ). x ∷ []) s.minus, i ∙ ap (λ (x : ℕ). x ∷ []) s.plus)

-- ---- the masks of the listing of n, by those of its magnitude
negated_plus : (l : List DigitString) → map minus_mask l ≡ map plus_mask (map negated l)
negated_plus [] = refl
negated_plus (s ∷ l) = ap₂ (λ (x : ℕ) (y : List ℕ). x ∷ y) (sym (negated_is s).plus) (negated_plus l)

negated_minus : (l : List DigitString) → map plus_mask l ≡ map minus_mask (map negated l)
negated_minus [] = refl
negated_minus (s ∷ l) = ap₂ (λ (x : ℕ) (y : List ℕ). x ∷ y) (sym (negated_is s).minus) (negated_minus l)

-- tables of the listing of the magnitude, by sign, are those of n
by_sign : (n : ℤ) (plus minus x y : List ℕ)
    → ups n plus minus ≡ map plus_mask (listing 32 (pos (nat_abs n))) ++ ups n x y → downs n plus minus ≡ map minus_mask (listing 32 (pos (nat_abs n))) ++ downs n x y
    → (plus ≡ map plus_mask (listing 32 n) ++ x) × (minus ≡ map minus_mask (listing 32 n) ++ y)
by_sign (pos m) plus minus x y i j = (i, j)
by_sign (negsuc k) plus minus x y i j =
    let l = listing 32 (pos (suc k)) in
    let e = listing_negated 32 k in (
      j ∙ ap (λ (z : List ℕ). z ++ x) (negated_plus l ∙ sym (ap (map plus_mask) e)),
      i ∙ ap (λ (z : List ℕ). z ++ y) (negated_minus l ∙ sym (ap (map minus_mask) e)),
    )

-- ---- on the way, the tables being plus and minus now
module _ (n : ℤ) (plus₀ minus₀ : List ℕ) (R : Ready n plus₀ minus₀) where
  abbrev m : ℕ
  m = nat_abs n

  abbrev count : ℕ
  count = length (listing 32 (pos m))

  abbrev pub OnWay : List ℕ → List ℕ → Digit → Spot → Type 0
  OnWay plus minus d s = Filled 32 m count (first_of 32 m) d s (ups n plus₀ minus₀) (downs n plus₀ minus₀) (ups n plus minus) (downs n plus minus)

  most : count ≤ 1597
  most = omega (arith, listing_length 32 n, at_most_1597 n R.bounded)

  room : (count ≤ length (ups n plus₀ minus₀)) × (count ≤ length (downs n plus₀ minus₀))
  room = each_ups n (λ (t : List ℕ). count ≤ length t) plus₀ minus₀ (omega (arith, most, R.plus_room)) (omega (arith, most, R.minus_room))

  bound : 3 * m ≤ 2 * 2 ^ 32
  bound = small_enough n R.bounded

  module _ (plus minus : List ℕ) where
    pub walked_on : (d : Digit) (s : Spot) → OnWay plus minus d s → Walked 32 m s × Sided d s
    walked_on d s F = (F.walked, F.sided)

    pub over_nought : (d : Digit) (s : Spot) → OnWay plus minus d s → 1 ≤ s.rest → Reads nought s.rest → OnWay plus minus nought (past nought s)
    over_nought d s F h r =
        filled_nought 32 m count (omega arith) bound refl (ups n plus₀ minus₀) (downs n plus₀ minus₀) room.0 room.1 d s (ups n plus minus) (downs n plus minus) F h r

    pub over_digit : (d : Digit) (s : Spot) → OnWay plus minus d s → 1 ≤ s.rest → (f : Digit) → nonzero f ≡ 1 → Reads f s.rest → needed d s ≡ 0 → OnWay plus minus f (past f s)
    over_digit d s F h f u r z =
        filled_digit 32 m count (omega arith) bound refl (ups n plus₀ minus₀) (downs n plus₀ minus₀) room.0 room.1 d s (ups n plus minus) (downs n plus minus) F h
        false (λ i. absurd (omega arith)) (λ i. absurd (subst T (sym i) tt)) f u r

    abbrev pub Listing : Walk → Type 0
    Listing w = At m (OnWay plus minus) walked_on over_nought over_digit w

    abbrev pub ListingLink : Walk → Type 0
    ListingLink w = AtLink m (OnWay plus minus) walked_on over_nought over_digit w

  pub list_start : (form : Form) → form ≡ form_of (canonical 32 n) → (w : Walk) → IsStart form w → Listing plus₀ minus₀ w
  list_start form e w i =
      let f = firsts n plus₀ minus₀ R.plus_first R.minus_first in
      subst (Listing plus₀ minus₀) (sym (started n R.bounded form e w i)) (record {
        last = nought;
        spot = Spots.start_of 32 m;
        known = filled_start 32 m count (omega arith) bound refl (ups n plus₀ minus₀) (downs n plus₀ minus₀) room.0 room.1 f.0 f.1;
        stands = stands_start m bound;
      })

  module _ (plus minus : List ℕ) (w : Walk) (A : Listing plus minus w) (h : w.links ≢ 0) where
    pub list_skip : (w.links ≢ 0) × (w.links ≤ 2 ^ 35) × (w.bit * w.links ≤ 2 ^ 35)
    list_skip = skip_fits m (OnWay plus minus) (walked_on plus minus) (over_nought plus minus) (over_digit plus minus) w A h

    pub list_link : (v : Walk) → v ≡ skip_of w → ListingLink plus minus v
    list_link v e = at_link m (OnWay plus minus) (walked_on plus minus) (over_nought plus minus) (over_digit plus minus) w A h v e

  module _ (plus minus : List ℕ) (w : Walk) (A : ListingLink plus minus w) where
    pub link_fits : (w.forms ≤ 2 ^ 34) × (w.moved ≤ 2 ^ 34) × (w.bit ≤ 2 ^ 33)
    link_fits = next_fits m (OnWay plus minus) (walked_on plus minus) (over_nought plus minus) (over_digit plus minus) w A

    abbrev F : OnWay plus minus A.last A.spot
    F = A.known

    fits : w.forms + w.moved ≤ count
    fits =
        omega (
          arith,
          A.stands.forms,
          A.stands.moved A.is_taken,
          filled_fits 32 m count (omega arith) bound refl (ups n plus₀ minus₀) (downs n plus₀ minus₀) room.0 room.1 A.last A.spot (ups n plus minus) (downs n plus minus) F A.is_taken,
        )

    pub widen_fits : (w.forms + w.moved ≤ length plus) × (w.forms + w.moved ≤ length minus) × (w.bit ≤ 2 ^ 33)
    widen_fits =
        let r = filled_room 32 m count (omega arith) bound refl (ups n plus₀ minus₀) (downs n plus₀ minus₀) room.0 room.1 A.last A.spot (ups n plus minus) (downs n plus minus) F in
        let q = from_ups n (λ (t : List ℕ). count ≤ length t) plus minus r.0 r.1 in
        (omega (arith, fits, q.0), omega (arith, fits, q.1), link_fits.2)

    abbrev wider : List ℕ → List ℕ
    wider t = grown t w.forms w.moved ((2 ^ 32 - w.bit / 4) % 2 ^ 32)

    -- the numbers of the walk are those of the spot
    wider_is : (t : List ℕ) → wider t ≡ grown t A.spot.forms (A.spot.above + A.spot.below) ((2 ^ 32 - A.spot.bit / 4) % 2 ^ 32)
    wider_is t =
        ap₂ (λ (i j : ℕ). grown t i j ((2 ^ 32 - w.bit / 4) % 2 ^ 32)) A.stands.forms (A.stands.moved A.is_taken)
        ∙ ap (λ (b : ℕ). grown t A.spot.forms (A.spot.above + A.spot.below) ((2 ^ 32 - b / 4) % 2 ^ 32)) A.stands.bit

    pub list_next : (u : Walk) (plus' minus' : List ℕ) → u ≡ next_of w → plus' ≡ wider plus → minus' ≡ wider minus → Listing plus' minus' u
    list_next u plus' minus' e i j =
        let f = digit m (OnWay plus minus) (walked_on plus minus) (over_nought plus minus) (over_digit plus minus) w A in
        let h = some_left m (OnWay plus minus) (walked_on plus minus) (over_nought plus minus) (over_digit plus minus) w A in
        let v = digit_nonzero m (OnWay plus minus) (walked_on plus minus) (over_nought plus minus) (over_digit plus minus) w A in
        let r = digit_read m (OnWay plus minus) (walked_on plus minus) (over_nought plus minus) (over_digit plus minus) w A in
        let G = filled_digit 32 m count (omega arith) bound refl (ups n plus₀ minus₀) (downs n plus₀ minus₀) room.0 room.1 A.last A.spot (ups n plus minus) (downs n plus minus) F h true (λ x. refl) (λ x. A.is_taken) f v r in
        let k = both_ups n wider plus minus in
        let eu = ap₂ (ups n) i j ∙ k.0 ∙ wider_is (ups n plus minus) in
        let ed = ap₂ (downs n) i j ∙ k.1 ∙ wider_is (downs n plus minus) in
        record {
          last = f;
          spot = past f A.spot;
          known = subst (λ (t : List ℕ). Filled 32 m count (first_of 32 m) f (past f A.spot) (ups n plus₀ minus₀) (downs n plus₀ minus₀) (ups n plus' minus') t) (sym ed)
              (subst (λ (t : List ℕ). Filled 32 m count (first_of 32 m) f (past f A.spot) (ups n plus₀ minus₀) (downs n plus₀ minus₀) t (grown (downs n plus minus) A.spot.forms (A.spot.above + A.spot.below) ((2 ^ 32 - A.spot.bit / 4) % 2 ^ 32))) (sym eu) G);
          stands = stands_next m (OnWay plus minus) (walked_on plus minus) (over_nought plus minus) (over_digit plus minus) w A u e;
        }

  module _ (plus minus : List ℕ) (w : Walk) (A : Listing plus minus w) where
    pub same_lengths : (length plus ≡ length plus₀) × (length minus ≡ length minus₀)
    same_lengths = go n A.known.up_kept.long A.known.down_kept.long
      where
        go : (n : ℤ) → length (ups n plus minus) ≡ length (ups n plus₀ minus₀) → length (downs n plus minus) ≡ length (downs n plus₀ minus₀)
            → (length plus ≡ length plus₀) × (length minus ≡ length minus₀)
        go (pos m) i j = (i, j)
        go (negsuc k) i j = (j, i)

    pub list_end : w.links ≡ 0 → (w.forms ≡ length (listing 32 n)) × (plus ≡ map plus_mask (listing 32 n) ++ drop (length (listing 32 n)) plus₀)
        × (minus ≡ map minus_mask (listing 32 n) ++ drop (length (listing 32 n)) minus₀)
    list_end z =
        let e = at_end_lem m (OnWay plus minus) (walked_on plus minus) (over_nought plus minus) (over_digit plus minus) w A z in
        let t = filled_end 32 m count (omega arith) bound refl (ups n plus₀ minus₀) (downs n plus₀ minus₀) room.0 room.1 e.last e.spot (ups n plus minus) (downs n plus minus) e.known e.none_left in
        let c = listing_length 32 n in
        let k = both_ups n (drop count) plus₀ minus₀ in
        let s = by_sign n plus minus (drop count plus₀) (drop count minus₀) (t.0 ∙ ap (λ (x : List ℕ). map plus_mask (listing 32 (pos m)) ++ x) (sym k.0)) (t.1 ∙ ap (λ (x : List ℕ). map minus_mask (listing 32 (pos m)) ++ x) (sym k.1)) in (
          e.forms ∙ walked_end 32 m e.spot e.known.walked bound e.none_left ∙ c,
          s.0 ∙ ap (λ (i : ℕ). map plus_mask (listing 32 n) ++ drop i plus₀) c,
          s.1 ∙ ap (λ (i : ℕ). map minus_mask (listing 32 n) ++ drop i minus₀) c,
        )

-- what was written in front first is not seen past the count
pub past_front : (n : ℤ) → nat_abs n ≤ 2 ^ 31 → (t : List ℕ) (x : ℕ) → drop (length (listing 32 n)) (set t 0 x) ≡ drop (length (listing 32 n)) t
past_front n b t x = drop-set-lt (length (listing 32 n)) t 0 x (omega (arith, ap length (canonical_32 n b).first.1))
