-- The strings of p places, weight k and value a - b, under changes of a and b: only a - b matters, twice the value puts a 0 below, the
-- opposite value negates every string. Assumes nothing.
use mathlib.Core.Path.{◌≡◌, refl, ap, sym, ◌∙◌, subst}
use mathlib.Core.List.Memᴰ
use mathlib.Core.List.{[], ◌∷◌, map, Memᴰ}
use Prim.Native.Nat.{ℕ, zero, suc, ◌+◌, ◌*◌, ◌<◌}
use native.Mathlib.Omega.{arith}
use lib.IntN.{ℤ, pos, negsuc, nat_abs}
use lib.ListN.{length, length-map}
use Rattle.signed_digit.specs.Digit.{one, nought, minus_one, nonzero}
use Rattle.signed_digit.specs.String.{DigitString, digit_at}
use Rattle.signed_digit.specs.Weight.{weight}
use Rattle.signed_digit.specs.Order.{Earlier}
use Rattle.signed_digit.specs.CanonicalForm.{opposite, negated, canonical_nat}
use Rattle.signed_digit.specs.Forms.{forms, listing}
use Rattle.signed_digit.proofs.Strings.{opposite_bits, negated_is, negated_twice, negated_digit}
use Rattle.signed_digit.proofs.Pairs.{pairs_map, ordered_unique}
use Rattle.signed_digit.proofs.Forms.{Form, sound, complete, forms_ordered}

-- only a - b matters
pub forms_same : (p k a b c d : ℕ) → a + d ≡ c + b → forms p k a b ≡ forms p k c d
forms_same p k a b c d e =
    ordered_unique (forms p k a b) (forms p k c d) (forms_ordered p k a b) (forms_ordered p k c d)
    (λ s m. into a b c d e s (sound p k a b s m)) (λ s m. into c d a b (sym e) s (sound p k c d s m))
  where
    into : (a b c d : ℕ) → a + d ≡ c + b → (s : DigitString) → Form p k a b s → Memᴰ s (forms p k c d)
    into a b c d e s f = complete p k c d s (record { places = f.places; weighs = f.weighs; worth = omega (arith, f.worth) })

-- a map that keeps the order and takes the strings of one kind to those of another, all of them
forms_map : (f : DigitString → DigitString) (p k a b p' k' a' b' : ℕ)
    → ((s t : DigitString) → Earlier s t → Earlier (f s) (f t))
    → ((s : DigitString) → Form p k a b s → Form p' k' a' b' (f s))
    → ((t : DigitString) → Form p' k' a' b' t → (s : DigitString) × Form p k a b s × (f s ≡ t))
    → forms p' k' a' b' ≡ map f (forms p k a b)
forms_map f p k a b p' k' a' b' earlier to from =
    ordered_unique (forms p' k' a' b') (map f (forms p k a b)) (forms_ordered p' k' a' b')
    (pairs_map Earlier Earlier f (forms p k a b) (λ s t m n. earlier s t) (forms_ordered p k a b))
    (λ t m. (let r = from t (sound p' k' a' b' t m) in subst (λ (x : DigitString). Memᴰ x (map f (forms p k a b))) r.2 (Memᴰ.map f (complete p k a b r.0 r.1))))
    (λ t m. (let r = Memᴰ.of_map f (forms p k a b) m in subst (λ (x : DigitString). Memᴰ x (forms p' k' a' b')) r.2 (complete p' k' a' b' (f r.0) (to r.0 (sound p k a b r.0 r.1)))))

-- ---- twice the value
abbrev pub raised : DigitString → DigitString
raised s = nought ∷ s

pub doubled : (p k a b : ℕ) → forms (suc p) k (2 * a) (2 * b) ≡ map raised (forms p k a b)
doubled p k a b = forms_map raised p k a b (suc p) k (2 * a) (2 * b) earlier to from
  where
    above : (s t : DigitString) (e : Earlier s t) (i : ℕ) → suc e.place < i → digit_at (raised s) i ≡ digit_at (raised t) i
    above s t e zero h = absurd (omega arith)
    above s t e (suc i) h = e.same_above i (omega arith)

    earlier : (s t : DigitString) → Earlier s t → Earlier (raised s) (raised t)
    earlier s t e = record { place = suc e.place; nonzero_here = e.nonzero_here; zero_there = e.zero_there; same_above = above s t e }

    to : (s : DigitString) → Form p k a b s → Form (suc p) k (2 * a) (2 * b) (raised s)
    to s f = record { places = omega (arith, f.places); weighs = omega (arith, f.weighs); worth = omega (arith, f.worth) }

    from : (t : DigitString) → Form (suc p) k (2 * a) (2 * b) t → (s : DigitString) × Form p k a b s × (raised s ≡ t)
    from [] f = absurd (omega (arith, f.places))
    from (one ∷ s) f = absurd (omega (arith, f.worth))
    from (minus_one ∷ s) f = absurd (omega (arith, f.worth))
    from (nought ∷ s) f = (s, record { places = omega (arith, f.places); weighs = omega (arith, f.weighs); worth = omega (arith, f.worth) }, refl)

-- ---- the opposite value
pub form_negated : (p k a b : ℕ) (s : DigitString) → Form p k a b s → Form p k b a (negated s)
form_negated p k a b s f =
    let r = negated_is s in
    record { places = r.places ∙ f.places; weighs = r.weighs ∙ f.weighs; worth = omega (arith, f.worth) }

pub forms_negated : (p k a b : ℕ) → forms p k b a ≡ map negated (forms p k a b)
forms_negated p k a b =
    forms_map negated p k a b p k b a earlier (form_negated p k a b)
    (λ t f. (negated t, form_negated p k b a t f, negated_twice t))
  where
    earlier : (s t : DigitString) → Earlier s t → Earlier (negated s) (negated t)
    earlier s t e = record {
      place = e.place;
      nonzero_here = ap nonzero (negated_digit s e.place) ∙ (opposite_bits (digit_at s e.place)).2 ∙ e.nonzero_here;
      zero_there = negated_digit t e.place ∙ ap opposite e.zero_there;
      same_above = λ i h. negated_digit s i ∙ ap opposite (e.same_above i h) ∙ sym (negated_digit t i);
    }

-- the listing of a negative number has the negated strings of its magnitude
pub listing_negated : (p n : ℕ) → listing p (negsuc n) ≡ map negated (listing p (pos (suc n)))
unfolding listing
listing_negated p n =
    let c = canonical_nat (suc p) (suc n) in
    ap (λ (k : ℕ). forms p k 0 (suc n)) (negated_is c).weighs ∙ forms_negated p (weight c) (suc n) 0

-- and as many of them
pub listing_length : (p : ℕ) (n : ℤ) → length (listing p (pos (nat_abs n))) ≡ length (listing p n)
listing_length p (pos n) = refl
listing_length p (negsuc n) = sym (ap length (listing_negated p n) ∙ length-map (listing p (pos (suc n))) negated)
