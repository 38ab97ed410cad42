-- The strings of a list whose lowest digit is d, without that digit.
use mathlib.Core.Path.{◌≡◌, refl}
use mathlib.Core.List.Memᴰ
use mathlib.Core.List.Pairwise
use mathlib.Core.List.{List, [], ◌∷◌, Memᴰ}
use mathlib.Core.Logic.{⊎_elim}
use Prim.Native.Nat.{suc, ◌+◌, ◌≤◌}
use native.Mathlib.Omega.{arith}
use lib.ListN.{length}
use Rattle.signed_digit.specs.Digit.{Digit, one, nought, minus_one, Digit-discrete}
use Rattle.signed_digit.specs.String.{DigitString}
use Rattle.signed_digit.specs.Listing.{Once}
use Rattle.signed_digit.proofs.Pairs.{before_all, to_later}

abbrev pub keep : {A : Type 0} → Dec A → DigitString → List DigitString → List DigitString
keep (yes h) s l = s ∷ l
keep (no h) s l = l

abbrev pub tails : Digit → List DigitString → List DigitString
tails d [] = []
tails d ([] ∷ l) = tails d l
tails d ((e ∷ s) ∷ l) = keep (Digit-discrete d e) s (tails d l)

pub tails_member : (d : Digit) (l : List DigitString) (t : DigitString) → Memᴰ t (tails d l) → Memᴰ (d ∷ t) l
tails_member d [] t m = absurd (Memᴰ.not-nil m)
tails_member d ([] ∷ l) t m = Memᴰ.tail (tails_member d l t m)
tails_member d ((e ∷ s) ∷ l) t m = go (Digit-discrete d e) m (tails_member d l t)
  where
    go : (x : Dec (d ≡ e)) → Memᴰ t (keep x s (tails d l)) → (Memᴰ t (tails d l) → Memᴰ (d ∷ t) l) → Memᴰ (d ∷ t) ((e ∷ s) ∷ l)
    go (yes q) n ih = ⊎_elim (λ i. (let w : d ∷ t ≡ e ∷ s = cc in Memᴰ.head w)) (λ k. Memᴰ.tail (ih k)) (Memᴰ.cases_cons n)
    go (no q) n ih = Memᴰ.tail (ih n)

pub tails_once : (d : Digit) (l : List DigitString) → Once l → Once (tails d l)
tails_once d [] h = Pairwise.nil
tails_once d ([] ∷ l) h = tails_once d l (Pairwise.of_cons h)
tails_once d ((e ∷ s) ∷ l) h = go (Digit-discrete d e) (tails_once d l (Pairwise.of_cons h))
  where
    go : (x : Dec (d ≡ e)) → Once (tails d l) → Once (keep x s (tails d l))
    go (yes q) r = before_all (λ t m w. to_later h (d ∷ t) (tails_member d l t m) (cc)) r
    go (no q) r = r

pub tails_length : (l : List DigitString) → ((s : DigitString) → Memᴰ s l → 1 ≤ length s)
    → length l ≡ length (tails one l) + length (tails nought l) + length (tails minus_one l)
tails_length [] h = refl
tails_length ([] ∷ l) h = absurd (omega (arith, h [] (Memᴰ.head refl)))
tails_length ((one ∷ s) ∷ l) h = omega (arith, tails_length l (λ t m. h t (Memᴰ.tail m)))
tails_length ((nought ∷ s) ∷ l) h = omega (arith, tails_length l (λ t m. h t (Memᴰ.tail m)))
tails_length ((minus_one ∷ s) ∷ l) h = omega (arith, tails_length l (λ t m. h t (Memᴰ.tail m)))

abbrev pub Begins : Digit → DigitString → Type 0
Begins d [] = ⊥
Begins d (e ∷ s) = d ≡ e

pub tails_all : (d : Digit) (l : List DigitString) → ((s : DigitString) → Memᴰ s l → Begins d s) → length l ≡ length (tails d l)
tails_all d [] h = refl
tails_all d ([] ∷ l) h = absurd (h [] (Memᴰ.head refl))
tails_all d ((e ∷ s) ∷ l) h = go (Digit-discrete d e) (tails_all d l (λ t m. h t (Memᴰ.tail m)))
  where
    go : (x : Dec (d ≡ e)) → length l ≡ length (tails d l) → suc (length l) ≡ length (keep x s (tails d l))
    go (yes q) r = omega arith
    go (no q) r = absurd (q (h (e ∷ s) (Memᴰ.head refl)))
