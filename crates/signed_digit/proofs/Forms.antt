-- `forms p k a b` holds the strings of p places, weight k and value a - b, and no others, in the order of the listing.
use mathlib.Core.Path.{◌≡◌, refl, ap, sym, ◌∙◌, subst}
use mathlib.Core.Bool.{Bool, true, false}
use mathlib.Core.List.Memᴰ
use mathlib.Core.List.{List, [], ◌∷◌, ◌++◌, map, Memᴰ}
use mathlib.Core.List.Pairwise
use mathlib.Core.Logic.{⊎_elim}
use Prim.Native.Nat.{ℕ, zero, suc, ◌+◌, ◌*◌, ◌<◌, ◌^◌}
use native.Mathlib.Omega.{arith}
use lib.Dec.{T, eqb, eqb→eq, eqb_refl}
use lib.ListN.{length, get_or-append, get_or-eq_default}
use lib.Seq.{get_or_at}
use Rattle.signed_digit.specs.Digit.{Digit, one, nought, minus_one, nonzero}
use Rattle.signed_digit.specs.String.{DigitString, digit_at}
use Rattle.signed_digit.specs.Weight.{weight}
use Rattle.signed_digit.specs.Order.{Earlier}
use Rattle.signed_digit.specs.Listing.{Ordered}
use Rattle.signed_digit.specs.Masks.{plus_bit, minus_bit}
use Rattle.signed_digit.specs.Forms.{top, empty_if, forms}
use Rattle.signed_digit.proofs.Strings.{small, top_places, top_weight, top_mask, topped}
use Rattle.signed_digit.proofs.Minimal.{Worth}
use Rattle.signed_digit.proofs.Pairs.{before_all, pairs_map, pairs_append}

pub record Form (p k a b : ℕ) (s : DigitString) : Type 0 where
  pub places : length s ≡ p
  pub weighs : weight s ≡ k
  pub worth : Worth a b s

-- ---- with the digit d on top, and without it
module _ (d : Digit) (p k a b k' a' b' : ℕ) (ek : k ≡ nonzero d + k') (ea : a' ≡ a + 2 ^ p * minus_bit d) (eb : b' ≡ b + 2 ^ p * plus_bit d) where
  pub form_top : (s : DigitString) → Form p k' a' b' s → Form (suc p) k a b (top d s)
  form_top s f =
      let u = ap (λ (n : ℕ). 2 ^ n * plus_bit d) f.places in
      let v = ap (λ (n : ℕ). 2 ^ n * minus_bit d) f.places in
      record {
        places = omega (arith, top_places d s);
        weighs = omega (arith, top_weight d s);
        worth = omega (arith, top_mask plus_bit d s, top_mask minus_bit d s);
      }

  pub form_under : (s : DigitString) → Form (suc p) k a b (top d s) → Form p k' a' b' s
  form_under s f =
      let l : length s ≡ p = omega (arith, top_places d s) in
      let u = ap (λ (n : ℕ). 2 ^ n * plus_bit d) l in
      let v = ap (λ (n : ℕ). 2 ^ n * minus_bit d) l in
      record { places = l; weighs = omega (arith, top_weight d s); worth = omega (arith, top_mask plus_bit d s, top_mask minus_bit d s) }

  under_top : (l : List DigitString) → ((s : DigitString) → Memᴰ s l → Form p k' a' b' s)
      → (s : DigitString) → Memᴰ s (map (top d) l) → Form (suc p) k a b s
  under_top l h s m = let r = Memᴰ.of_map (top d) l m in subst (Form (suc p) k a b) r.2 (form_top r.0 (h r.0 r.1))

-- ---- every member is such a string
empty_is : (a b : ℕ) (x : Bool) (s : DigitString) → (T x → a ≡ b) → Memᴰ s (empty_if x) → Form zero zero a b s
empty_is a b true s h m = subst (Form zero zero a b) (sym (Memᴰ.eq_of_singleton m)) (record { places = refl; weighs = refl; worth = omega (arith, h tt) })
empty_is a b false s h m = absurd (Memᴰ.not-nil m)

pub sound : (p k a b : ℕ) (s : DigitString) → Memᴰ s (forms p k a b) → Form p k a b s
unfolding forms
sound zero zero a b s m = empty_is a b (eqb a b) s (eqb→eq a b) m
sound zero (suc k) a b s m = absurd (Memᴰ.not-nil m)
sound (suc p) zero a b s m = under_top nought p zero a b zero a b (omega arith) (omega arith) (omega arith) (forms p zero a b) (sound p zero a b) s m
sound (suc p) (suc k) a b s m =
    let l = forms p k a (b + 2 ^ p) in
    let j = forms p k (a + 2 ^ p) b in
    let x = under_top one p (suc k) a b k a (b + 2 ^ p) (omega arith) (omega arith) (omega arith) l (sound p k a (b + 2 ^ p)) s in
    let y = under_top minus_one p (suc k) a b k (a + 2 ^ p) b (omega arith) (omega arith) (omega arith) j (sound p k (a + 2 ^ p) b) s in
    let z = under_top nought p (suc k) a b (suc k) a b (omega arith) (omega arith) (omega arith) (forms p (suc k) a b) (sound p (suc k) a b) s in
    ⊎_elim x (λ n. ⊎_elim y z (Memᴰ.append_cases (map (top minus_one) j) n)) (Memᴰ.append_cases (map (top one) l) m)

-- ---- every such string is a member
empty_in : (x : Bool) → T x → Memᴰ [] (empty_if x)
empty_in true h = Memᴰ.head refl
empty_in false h = absurd h

eqb_of : (a b : ℕ) → a ≡ b → T (eqb a b)
eqb_of a b e = subst (λ (x : ℕ). T (eqb a x)) e (eqb_refl a)

on_top : (p k a b : ℕ) (d : Digit) (s : DigitString) → ((k a b : ℕ) → Form p k a b s → Memᴰ s (forms p k a b))
    → Form (suc p) k a b (top d s) → Memᴰ (top d s) (forms (suc p) k a b)
unfolding forms
on_top p zero a b one s h f = absurd (omega (arith, top_weight one s, f.weighs))
on_top p zero a b minus_one s h f = absurd (omega (arith, top_weight minus_one s, f.weighs))
on_top p zero a b nought s h f =
    let g = form_under nought p zero a b zero a b (omega arith) (omega arith) (omega arith) s f in
    Memᴰ.map (top nought) (h zero a b g)
on_top p (suc k) a b one s h f =
    let g = form_under one p (suc k) a b k a (b + 2 ^ p) (omega arith) (omega arith) (omega arith) s f in
    Memᴰ.append_left _ (Memᴰ.map (top one) (h k a (b + 2 ^ p) g))
on_top p (suc k) a b minus_one s h f =
    let g = form_under minus_one p (suc k) a b k (a + 2 ^ p) b (omega arith) (omega arith) (omega arith) s f in
    Memᴰ.append_right (map (top one) (forms p k a (b + 2 ^ p))) (Memᴰ.append_left _ (Memᴰ.map (top minus_one) (h k (a + 2 ^ p) b g)))
on_top p (suc k) a b nought s h f =
    let g = form_under nought p (suc k) a b (suc k) a b (omega arith) (omega arith) (omega arith) s f in
    let m = Memᴰ.append_right (map (top minus_one) (forms p k (a + 2 ^ p) b)) (Memᴰ.map (top nought) (h (suc k) a b g)) in
    Memᴰ.append_right (map (top one) (forms p k a (b + 2 ^ p))) m

pub complete : (p k a b : ℕ) (s : DigitString) → Form p k a b s → Memᴰ s (forms p k a b)
unfolding forms
complete zero zero a b [] f = empty_in (eqb a b) (eqb_of a b (omega arith))
complete zero (suc k) a b [] f = absurd (omega (arith, f.weighs))
complete zero k a b (d ∷ s) f = absurd (omega (arith, f.places))
complete (suc p) k a b [] f = absurd (omega (arith, f.places))
complete (suc p) k a b (d ∷ s) f =
    let v = topped d s in
    Memᴰ.cast v.is (on_top p k a b v.high v.rest (λ k' a' b' g. complete p k' a' b' v.rest g) (subst (Form (suc p) k a b) v.is f))

-- ---- they stand in order
earlier_top : (d : Digit) (s t : DigitString) → length s ≡ length t → Earlier s t → Earlier (top d s) (top d t)
earlier_top d s t l e =
    let i : ℕ = e.place in
    let h : i < length s = within s i e.nonzero_here in
    record {
      place = i;
      nonzero_here = ap nonzero (get_or-append s (d ∷ []) nought i h) ∙ e.nonzero_here;
      zero_there = get_or-append t (d ∷ []) nought i (omega arith) ∙ e.zero_there;
      same_above = λ j k. both s t l j (e.same_above j k);
    }
  where
    within : (s : DigitString) (i : ℕ) → nonzero (digit_at s i) ≡ 1 → i < length s
    within [] i h = absurd (omega arith)
    within (c ∷ s) zero h = omega arith
    within (c ∷ s) (suc i) h = omega (arith, within s i h)

    both : (s t : DigitString) → length s ≡ length t → (j : ℕ) → digit_at s j ≡ digit_at t j → digit_at (top d s) j ≡ digit_at (top d t) j
    both [] [] l j h = refl
    both [] (y ∷ t) l j h = absurd (omega arith)
    both (x ∷ s) [] l j h = absurd (omega arith)
    both (x ∷ s) (y ∷ t) l zero h = h
    both (x ∷ s) (y ∷ t) l (suc j) h = both s t (omega arith) j h

pub earlier_high : (d : Digit) (s t : DigitString) → nonzero d ≡ 1 → length s ≡ length t → Earlier (top d s) (top nought t)
earlier_high d s t u l = record {
  place = length s;
  nonzero_here = ap nonzero (get_or_at s d [] nought (length s) refl) ∙ u;
  zero_there = get_or_at t nought [] nought (length s) (sym l);
  same_above = λ i h. past d s i (omega arith) ∙ sym (past nought t i (omega arith));
}
  where
    past : (d : Digit) (s : DigitString) (i : ℕ) → length s < i → digit_at (top d s) i ≡ nought
    past d s i h = get_or-eq_default (top d s) nought (omega (arith, top_places d s))

empty_ordered : (x : Bool) → Ordered (empty_if x)
empty_ordered true = before_all (λ t m. absurd (Memᴰ.not-nil m)) Pairwise.nil
empty_ordered false = Pairwise.nil

module _ (p : ℕ) (d : Digit) (k a b : ℕ) where
  top_ordered : Ordered (forms p k a b) → Ordered (map (top d) (forms p k a b))
  top_ordered o = pairs_map Earlier Earlier (top d) (forms p k a b) (λ s t m n. earlier_top d s t ((sound p k a b s m).places ∙ sym (sound p k a b t n).places)) o

  -- a string with d on top and one with e
  two_tops : (e : Digit) (j x y : ℕ) → ((s t : DigitString) → Form p k a b s → Form p j x y t → Earlier (top d s) (top e t))
      → (s t : DigitString) → Memᴰ s (map (top d) (forms p k a b)) → Memᴰ t (map (top e) (forms p j x y)) → Earlier s t
  two_tops e j x y h s t m n =
      let f = Memᴰ.of_map (top d) (forms p k a b) m in
      let g = Memᴰ.of_map (top e) (forms p j x y) n in
      let q = h f.0 g.0 (sound p k a b f.0 f.1) (sound p j x y g.0 g.1) in
      subst (λ (z : DigitString). Earlier z t) f.2 (subst (Earlier (top d f.0)) g.2 q)

  over_zero : (j x y : ℕ) → nonzero d ≡ 1 → (s t : DigitString) → Form p k a b s → Form p j x y t → Earlier (top d s) (top nought t)
  over_zero j x y u s t f g = earlier_high d s t u (f.places ∙ sym g.places)

-- strings of one value do not hold 1 and -1 at the highest place
not_opposite : (p k a b : ℕ) (s t : DigitString) → Form p k a (b + 2 ^ p) s → Form p k (a + 2 ^ p) b t → ⊥
not_opposite p k a b s t f g = omega (arith, small s, small t, ap (λ (n : ℕ). 2 ^ n) f.places, ap (λ (n : ℕ). 2 ^ n) g.places)

pub forms_ordered : (p k a b : ℕ) → Ordered (forms p k a b)
unfolding forms
forms_ordered zero zero a b = empty_ordered (eqb a b)
forms_ordered zero (suc k) a b = Pairwise.nil
forms_ordered (suc p) zero a b = top_ordered p nought zero a b (forms_ordered p zero a b)
forms_ordered (suc p) (suc k) a b =
    let l = map (top one) (forms p k a (b + 2 ^ p)) in
    let m = map (top minus_one) (forms p k (a + 2 ^ p) b) in
    let n = map (top nought) (forms p (suc k) a b) in
    let x = top_ordered p one k a (b + 2 ^ p) (forms_ordered p k a (b + 2 ^ p)) in
    let y = top_ordered p minus_one k (a + 2 ^ p) b (forms_ordered p k (a + 2 ^ p) b) in
    let z = top_ordered p nought (suc k) a b (forms_ordered p (suc k) a b) in
    let lm = two_tops p one k a (b + 2 ^ p) minus_one k (a + 2 ^ p) b (λ s t f g. absurd (not_opposite p k a b s t f g)) in
    let ln = two_tops p one k a (b + 2 ^ p) nought (suc k) a b (over_zero p one k a (b + 2 ^ p) (suc k) a b refl) in
    let mn = two_tops p minus_one k (a + 2 ^ p) b nought (suc k) a b (over_zero p minus_one k (a + 2 ^ p) b (suc k) a b refl) in
    pairs_append Earlier l (m ++ n) x (pairs_append Earlier m n y z mn) (λ s t i j. ⊎_elim (lm s t i) (ln s t i) (Memᴰ.append_cases m j))
