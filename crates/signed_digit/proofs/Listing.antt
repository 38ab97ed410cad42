-- The listing over p places is what document 01 says, and nothing else is. Where the number's magnitude is at most 2^p, the listing over
-- p + 1 places has its minimal strings of every length.
use mathlib.Core.Path.{◌≡◌, refl, ap, sym, ◌∙◌}
use mathlib.Core.List.Memᴰ
use mathlib.Core.List.{List, [], ◌∷◌, Memᴰ}
use mathlib.Core.Logic.{◌⊎◌, inl, inr, ◌↔◌}
use Prim.Native.Nat.{ℕ, suc, ◌+◌, ◌*◌, ◌≤◌, ◌^◌}
use native.Mathlib.Nat.{pow-suc}
use native.Mathlib.Omega.{arith}
use lib.IntN.{ℤ, pos, negsuc, nat_abs}
use lib.ListN.{length}
use Rattle.signed_digit.specs.String.{DigitString}
use Rattle.signed_digit.specs.Value.{value}
use Rattle.signed_digit.specs.Weight.{weight}
use Rattle.signed_digit.specs.Minimal.{Minimal}
use Rattle.signed_digit.specs.Canonical.{Canonical}
use Rattle.signed_digit.specs.Order.{Earlier}
use Rattle.signed_digit.specs.Listing.{Ordered, Once, StandsIn, IsListing}
use Rattle.signed_digit.specs.Fibonacci.{fibonacci}
use Rattle.signed_digit.specs.CanonicalForm.{canonical}
use Rattle.signed_digit.specs.Forms.{forms, positive_part, negative_part, listing}
use Rattle.signed_digit.specs.Claims.{TheCanonical}
use Rattle.signed_digit.proofs.Strings.{small}
use Rattle.signed_digit.proofs.Same.{same_equal}
use Rattle.signed_digit.proofs.Value.{value_eq, values_eq}
use Rattle.signed_digit.proofs.Minimal.{Worth, minimal_lightest, same_minimal}
use Rattle.signed_digit.proofs.Canonical.{canonical_first, canonical_unique, canonical_minimal, minimal_weight_lem}
use Rattle.signed_digit.proofs.CanonicalForm.{canonical_canonical, canonical_places, canonical_value}
use Rattle.signed_digit.proofs.Pairs.{to_later, ordered_once, ordered_unique}
use Rattle.signed_digit.proofs.Forms.{Form, sound, complete, forms_ordered}
use Rattle.signed_digit.proofs.AnyLength.{short}
use Rattle.signed_digit.proofs.Fibonacci.{fibonacci_bound}
use Rattle.signed_digit.proofs.Count.{same_length}

-- ---- the listing over p places
in_range : (p : ℕ) (n : ℤ) (s : DigitString) → length s ≡ p → Worth (positive_part n) (negative_part n) s → 3 * nat_abs n ≤ 2 * 2 ^ suc p
in_range p (pos n) s l w = omega (arith, small s, ap (λ (x : ℕ). 2 ^ x) l, pow-suc 2 p)
in_range p (negsuc n) s l w = omega (arith, small s, ap (λ (x : ℕ). 2 ^ x) l, pow-suc 2 p)

-- the string's weight is the listing's
right_weight : (p : ℕ) (n : ℤ) (s : DigitString) → length s ≡ p → Minimal n s → weight s ≡ weight (canonical (suc p) n)
right_weight p n s l m =
    minimal_weight_lem n s (canonical (suc p) n) m (canonical_canonical (suc p) n) (canonical_value (suc p) n (in_range p n s l ((minimal_lightest n s).0 m).0))

member_minimal : (p : ℕ) (n : ℤ) (s : DigitString) → Form p (weight (canonical (suc p) n)) (positive_part n) (negative_part n) s → Minimal n s
member_minimal p n s f =
    let c : DigitString = canonical (suc p) n in
    let m = canonical_minimal n c (canonical_canonical (suc p) n) (canonical_value (suc p) n (in_range p n s f.places f.worth)) in
    record { has_value = (value_eq s n).1 f.worth; least = λ t e. omega (arith, m.least t e, f.weighs) }

-- `listing` is the listing
pub listing_is : (p : ℕ) (n : ℤ) → IsListing p n (listing p n)
unfolding listing
listing_is p n =
    let k : ℕ = weight (canonical (suc p) n) in
    let a : ℕ = positive_part n in
    let b : ℕ = negative_part n in
    record {
      holds = λ s l m. complete p k a b s (record { places = l; weighs = right_weight p n s l m; worth = ((minimal_lightest n s).0 m).0 });
      only = λ s m. (let f = sound p k a b s m in (f.places, member_minimal p n s f));
      once = ordered_once (forms p k a b) (forms_ordered p k a b);
      ordered = forms_ordered p k a b;
    }

members : (p : ℕ) (n : ℤ) (l m : List DigitString) → IsListing p n l → IsListing p n m → (s : DigitString) → Memᴰ s l → Memᴰ s m
members p n l m x y s k = let o = x.only s k in y.holds s o.0 o.1

-- no other list is the listing
pub listing_unique : (p : ℕ) (n : ℤ) (l : List DigitString) → IsListing p n l → l ≡ listing p n
listing_unique p n l x =
    let y = listing_is p n in
    ordered_unique l (listing p n) x.ordered y.ordered (members p n l (listing p n) x y) (members p n (listing p n) l y x)

-- ---- strings of any length
within : (p : ℕ) (n : ℤ) → nat_abs n ≤ 2 ^ p → (positive_part n ≤ negative_part n + 2 ^ p) × (negative_part n ≤ positive_part n + 2 ^ p)
within p (pos n) h = omega arith
within p (negsuc n) h = omega arith

-- completeness, both ways: a string of any length stands in the listing exactly when it is minimal
pub listing_stands : (p : ℕ) (n : ℤ) → nat_abs n ≤ 2 ^ p → (s : DigitString) → StandsIn s (listing (suc p) n) ↔ Minimal n s
listing_stands p n h s = (λ x. same_minimal n x.0 s x.2 ((listing_is (suc p) n).only x.0 x.1).1, found)
  where
    found : Minimal n s → StandsIn s (listing (suc p) n)
    found m =
        let w = (minimal_lightest n s).0 m in
        let b = within p n h in
        let x = short p (positive_part n) (negative_part n) b.0 b.1 s w.1 w.0 in
        (x.0, (listing_is (suc p) n).holds x.0 x.1 (same_minimal n s x.0 (sym x.2) m), x.2)

-- Strings of p places that are in order and hold exactly the minimal strings, leading zeros aside, are the listing.
pub stands_listing : (p : ℕ) (n : ℤ) (l : List DigitString) → ((s : DigitString) → Memᴰ s l → length s ≡ p)
    → ((s : DigitString) → StandsIn s l ↔ Minimal n s) → Ordered l → IsListing p n l
stands_listing p n l places stands o = record {
  holds = λ s i m. (let x = (stands s).1 m in Memᴰ.cast (same_equal s x.0 (i ∙ sym (places x.0 x.1)) (sym x.2)) x.1);
  only = λ s m. (places s m, (stands s).0 (s, m, refl));
  once = ordered_once l o;
  ordered = o;
}

-- ---- the number of forms
-- a list that holds exactly the minimal strings of n, once each, leading zeros aside, is as long as the listing
pub listing_count : (p : ℕ) (n : ℤ) → nat_abs n ≤ 2 ^ p → (l : List DigitString) → Once l → ((s : DigitString) → StandsIn s l ↔ Minimal n s)
    → length l ≡ length (listing (suc p) n)
listing_count p n h l o f = same_length (Minimal n) l (listing (suc p) n) o (listing_is (suc p) n).once f (listing_stands p n h)

-- the weight of any minimal string bounds the number
pub listing_bound : (p : ℕ) (n : ℤ) (s : DigitString) → Minimal n s → length (listing p n) ≤ fibonacci (suc (weight s))
listing_bound p n s m =
    let x = listing_is p n in
    fibonacci_bound p (weight s) (positive_part n) (negative_part n) (listing p n) (record {
      once = x.once;
      form = λ t k. (let o = x.only t k in record {
        places = o.0;
        weighs = omega (arith, o.1.least s m.has_value, m.least t o.1.has_value);
        worth = ((minimal_lightest n t).0 o.1).0;
      });
      lightest = λ t k. ((minimal_lightest n t).0 (x.only t k).1).1;
    })

-- ---- the canonical string is first
at_head : (c : DigitString) (l : List DigitString) → Ordered l → Memᴰ c l → ((t : DigitString) → Memᴰ t l → Earlier t c → ⊥)
    → (rest : List DigitString) × (l ≡ c ∷ rest)
at_head c [] o m h = absurd (Memᴰ.not-nil m)
at_head c (s ∷ l) o m h = go (Memᴰ.cases_cons m)
  where
    go : (c ≡ s) ⊎ Memᴰ c l → (rest : List DigitString) × (s ∷ l ≡ c ∷ rest)
    go (inl e) = (l, ap (λ (x : DigitString). x ∷ l) (sym e))
    go (inr n) = absurd (h s (Memᴰ.head refl) (to_later o c n))

pub listing_first : (p : ℕ) (n : ℤ) (c : DigitString) → length c ≡ p → Canonical c → value c ≡ n → (rest : List DigitString) × (listing p n ≡ c ∷ rest)
listing_first p n c l h v = at_head c (listing p n) (listing_is p n).ordered ((listing_is p n).holds c l (canonical_minimal n c h v)) none_earlier
  where
    none_earlier : (t : DigitString) → Memᴰ t (listing p n) → Earlier t c → ⊥
    none_earlier t m e =
        let o = ((listing_is p n).only t m).1 in
        canonical_first c t h ((minimal_lightest n t).0 o).1 ((values_eq t c).0 (o.has_value ∙ sym v)) e

-- ---- the canonical form
pub canonical_form : (p : ℕ) (n : ℤ) → 3 * nat_abs n ≤ 2 * 2 ^ p → TheCanonical p n
canonical_form p n h =
    let c : DigitString = canonical p n in
    let k = canonical_canonical p n in
    let v = canonical_value p n h in
    record {
      places = canonical_places p n;
      is_canonical = k;
      minimal = canonical_minimal n c k v;
      only = λ s i e. canonical_unique s c i k (e ∙ sym v);
      first = listing_first p n c (canonical_places p n) k v;
    }

-- the listing's weight is that of the canonical form
pub listing_forms : (p : ℕ) (n : ℤ) → 3 * nat_abs n ≤ 2 * 2 ^ p → listing p n ≡ forms p (weight (canonical p n)) (positive_part n) (negative_part n)
unfolding listing
listing_forms p n h =
    let f = canonical_form p n h in
    ap (λ (k : ℕ). forms p k (positive_part n) (negative_part n)) (sym (right_weight p n (canonical p n) f.places f.minimal))
