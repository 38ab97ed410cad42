-- How many strings have a property, leading zeros aside: all lists that hold exactly those strings, once each, have the same length.
use mathlib.Core.Path.{◌≡◌, refl, ap, sym, ◌∙◌}
use mathlib.Core.List.Memᴰ
use mathlib.Core.List.Pairwise
use mathlib.Core.List.{List, [], ◌∷◌, Memᴰ}
use mathlib.Core.Logic.{◌⊎◌, inl, inr, ⊎_elim, ◌↔◌}
use Prim.Native.Nat.{suc, ◌≤◌}
use native.Mathlib.Omega.{arith}
use lib.ListN.{length}
use Rattle.signed_digit.specs.String.{DigitString}
use Rattle.signed_digit.specs.Same.{stripped, Same}
use Rattle.signed_digit.specs.Listing.{Once, StandsIn}
use Rattle.signed_digit.proofs.Pairs.{to_later}

-- a list with one member taken out
record Without (f : DigitString) (m : List DigitString) : Type 0 where
  rest : List DigitString
  less : length m ≡ suc (length rest)
  others : (g : DigitString) → Memᴰ g m → (g ≡ f) ⊎ Memᴰ g rest

without : (f : DigitString) (m : List DigitString) → Memᴰ f m → Without f m
without f [] h = absurd (Memᴰ.not-nil h)
without f (x ∷ m) h = go (Memᴰ.cases_cons h) (without f m)
  where
    go : (f ≡ x) ⊎ Memᴰ f m → (Memᴰ f m → Without f m) → Without f (x ∷ m)
    go (inl e) ih = record { rest = m; less = refl; others = λ g k. ⊎_elim (λ q. inl (q ∙ sym e)) inr (Memᴰ.cases_cons k) }
    go (inr n) ih =
        let w = ih n in
        record {
          rest = x ∷ w.rest;
          less = ap suc w.less;
          others = λ g k. ⊎_elim (λ q. inr (Memᴰ.head q)) (λ q. ⊎_elim inl (λ r. inr (Memᴰ.tail r)) (w.others g q)) (Memᴰ.cases_cons k);
        }

pub length_at_most : (l m : List DigitString) → Once l → ((s : DigitString) → Memᴰ s l → StandsIn s m) → length l ≤ length m
length_at_most [] m o h = omega arith
length_at_most (x ∷ l) m o h =
    let a = h x (Memᴰ.head refl) in
    let w = without a.0 m a.1 in
    omega (arith, length_at_most l w.rest (Pairwise.of_cons o) (λ s k. go w s a.2 (to_later o s k) (h s (Memᴰ.tail k))))
  where
    go : {f : DigitString} (w : Without f m) (s : DigitString) → Same f x → (Same x s → ⊥) → StandsIn s m → StandsIn s w.rest
    go w s e d b = ⊎_elim (λ q. absurd (d (sym e ∙ ap stripped (sym q) ∙ b.2))) (λ n. (b.0, n, b.2)) (w.others b.0 b.1)

pub same_length : (P : DigitString → Type 0) (l m : List DigitString) → Once l → Once m
    → ((s : DigitString) → StandsIn s l ↔ P s) → ((s : DigitString) → StandsIn s m ↔ P s) → length l ≡ length m
same_length P l m o u f g =
    omega (arith, length_at_most l m o (λ s k. (g s).1 ((f s).0 (s, k, refl))), length_at_most m l u (λ s k. (f s).1 ((g s).0 (s, k, refl))))
