-- Lists in which a relation holds between each member and every one after it, `Pairwise`. In order, a list is fixed by its members. Assumes nothing.
use mathlib.Core.Path.{◌≡◌, refl, subst}
use mathlib.Core.List.Memᴰ
use mathlib.Core.List.{List, [], ◌∷◌, ◌++◌, map, Memᴰ}
use mathlib.Core.List.{Mem, Mem-prop, not-mem-nil, List-discrete}
use mathlib.Core.List.Pairwise
use mathlib.Core.List.{Pairwise, rel_of_Pairwise-cons}
use mathlib.Core.Logic.{⊎_elim, ∥∥₁_elim}
use Rattle.signed_digit.specs.Digit.{Digit-discrete}
use Rattle.sequence.proofs.Ordered.{in_order_only}
use Rattle.signed_digit.specs.String.{DigitString}
use Rattle.signed_digit.specs.Order.{Earlier}
use Rattle.signed_digit.specs.Listing.{Ordered, Once}
use Rattle.signed_digit.proofs.Order.{earlier_different, earlier_asymmetric}

abbrev Relation : Type 1
Relation = DigitString → DigitString → Type 0

-- ---- one member more, and one less
-- that a string stands somewhere in a list tells where
member : (s : DigitString) (l : List DigitString) → Mem s l → Memᴰ s l
member s [] m = absurd (not-mem-nil m)
member s (x ∷ l) m = go (List-discrete Digit-discrete s x) (member s l)
  where
    go : Dec (s ≡ x) → (Mem s l → Memᴰ s l) → Memᴰ s (x ∷ l)
    go (yes e) ih = Memᴰ.head e
    go (no n) ih = Memᴰ.tail (ih (∥∥₁_elim m Mem-prop (λ k. ⊎_elim (λ e. absurd (n e)) (λ j. ∣ j ∣₁) (Memᴰ.cases_cons k))))

pub before_all : {R : Relation} {s : DigitString} {l : List DigitString} → ((t : DigitString) → Memᴰ t l → R s t) → Pairwise R l → Pairwise R (s ∷ l)
before_all {l = l} h p = Pairwise.cons (λ t m. h t (member t l m)) p

pub to_later : {R : Relation} {s : DigitString} {l : List DigitString} → Pairwise R (s ∷ l) → (t : DigitString) → Memᴰ t l → R s t
to_later p t m = rel_of_Pairwise-cons p ∣ m ∣₁

-- ---- f of each member, and two lists in a row
pub pairs_map : (R Q : Relation) (f : DigitString → DigitString) (l : List DigitString)
    → ((s t : DigitString) → Memᴰ s l → Memᴰ t l → R s t → Q (f s) (f t)) → Pairwise R l → Pairwise Q (map f l)
pairs_map R Q f [] h r = Pairwise.nil
pairs_map R Q f (s ∷ l) h r =
    before_all {R = Q}
    (λ t m. (let x = Memᴰ.of_map f l m in subst (Q (f s)) x.2 (h s x.0 (Memᴰ.head refl) (Memᴰ.tail x.1) (to_later r x.0 x.1))))
    (pairs_map R Q f l (λ u t m n. h u t (Memᴰ.tail m) (Memᴰ.tail n)) (Pairwise.of_cons r))

pub pairs_append : (R : Relation) (l m : List DigitString)
    → Pairwise R l → Pairwise R m → ((s t : DigitString) → Memᴰ s l → Memᴰ t m → R s t) → Pairwise R (l ++ m)
pairs_append R [] m p q h = q
pairs_append R (s ∷ l) m p q h =
    before_all {R = R} (λ t n. ⊎_elim (to_later p t) (h s t (Memᴰ.head refl)) (Memᴰ.append_cases l n))
    (pairs_append R l m (Pairwise.of_cons p) q (λ u t n. h u t (Memᴰ.tail n)))

-- an ordered list holds each string once
pub ordered_once : (l : List DigitString) → Ordered l → Once l
ordered_once [] o = Pairwise.nil
ordered_once (s ∷ l) o = before_all (λ t m. earlier_different s t (to_later o t m)) (ordered_once l (Pairwise.of_cons o))

-- an ordered list is fixed by its members
pub ordered_unique : (l m : List DigitString) → Ordered l → Ordered m
    → ((s : DigitString) → Memᴰ s l → Memᴰ s m) → ((s : DigitString) → Memᴰ s m → Memᴰ s l) → l ≡ m
ordered_unique = in_order_only Earlier earlier_asymmetric Ordered (λ x l o. Pairwise.of_cons o) (λ x l o. to_later o)
