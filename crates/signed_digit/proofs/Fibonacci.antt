-- A list that holds minimal strings of one value, once each, has at most Fibonacci(weight + 1) members.
-- The list is split by the lowest digit. An even value leaves 0. An odd one leaves the canonical digit, or its opposite; after
-- the opposite comes the opposite again, so that two digits are spent.
use mathlib.Core.Path.{◌≡◌, refl, ap, sym, ◌∙◌, subst}
use mathlib.Core.List.{List, [], ◌∷◌, Memᴰ}
use Prim.Native.Nat.{ℕ, zero, suc, ◌+◌, ◌*◌, ◌≤◌, ◌/◌, ◌%◌}
use native.Mathlib.Decide.{dec_le}
use native.Mathlib.Omega.{arith}
use lib.ListN.{length}
use Rattle.signed_digit.specs.Digit.{Digit, one, nought, minus_one, nonzero}
use Rattle.signed_digit.specs.String.{DigitString}
use Rattle.signed_digit.specs.Weight.{weight}
use Rattle.signed_digit.specs.Same.{stripped}
use Rattle.signed_digit.specs.Listing.{Once}
use Rattle.signed_digit.specs.Masks.{plus_bit, minus_bit, plus_mask, minus_mask}
use Rattle.signed_digit.specs.Fibonacci.{fibonacci}
use Rattle.signed_digit.specs.CanonicalForm.{opposite}
use Rattle.signed_digit.proofs.Strings.{bit, opposite_bits}
use Rattle.signed_digit.proofs.Minimal.{Lightest, Worth}
use Rattle.signed_digit.proofs.Forms.{Form}
use Rattle.signed_digit.proofs.Pairs.{to_later}
use Rattle.signed_digit.proofs.Tails.{tails, tails_member, tails_once, tails_length, Begins, tails_all}

fibonacci_positive : (n : ℕ) → 1 ≤ fibonacci (suc n)
fibonacci_positive zero = omega arith
fibonacci_positive (suc n) = omega (arith, fibonacci_positive n)

fibonacci_next : (n : ℕ) → fibonacci n ≤ fibonacci (suc n)
fibonacci_next zero = omega arith
fibonacci_next (suc n) = omega arith

pub fibonacci_monotone : (m n : ℕ) → m ≤ n → fibonacci m ≤ fibonacci n
fibonacci_monotone m zero h = let q : m ≡ 0 = omega arith in rw q (omega arith)
fibonacci_monotone m (suc n) h = go (dec_le m n) (fibonacci_monotone m n)
  where
    go : Dec (m ≤ n) → (m ≤ n → fibonacci m ≤ fibonacci n) → fibonacci m ≤ fibonacci (suc n)
    go (yes l) ih = omega (arith, ih l, fibonacci_next n)
    go (no l) ih = let q : m ≡ suc n = omega arith in rw q (omega arith)

-- ---- lists of minimal strings of one value
pub record MinimalForms (p k a b : ℕ) (l : List DigitString) : Type 0 where
  pub once : Once l
  pub form : (s : DigitString) → Memᴰ s l → Form p k a b s
  pub lightest : (s : DigitString) → Memᴰ s l → Lightest s

tail_worth : (d : Digit) (x y a b : ℕ) → plus_bit d + 2 * x + b ≡ minus_bit d + 2 * y + a → x + b ≡ y + (a + b + minus_bit d) / 2
tail_worth one x y a b e = omega arith
tail_worth nought x y a b e = omega arith
tail_worth minus_one x y a b e = omega arith

tails_minimal : (d : Digit) (p k n a b : ℕ) (l : List DigitString) → n ≡ nonzero d + k
    → MinimalForms (suc p) n a b l → MinimalForms p k ((a + b + minus_bit d) / 2) b (tails d l)
tails_minimal d p k n a b l q g = record {
  once = tails_once d l g.once;
  form = λ s m. (let f = g.form (d ∷ s) (tails_member d l s m) in
      record { places = omega arith; weighs = omega arith; worth = tail_worth d (plus_mask s) (minus_mask s) a b f.worth });
  lightest = λ s m t e. (let w = g.lightest (d ∷ s) (tails_member d l s m) (d ∷ t) (omega arith) in omega arith);
}

none : (l : List DigitString) → ((s : DigitString) → Memᴰ s l → ⊥) → length l ≡ 0
none [] h = refl
none (s ∷ l) h = absurd (h s (Memᴰ.head refl))

-- ---- the lowest digits of a minimal string of value a - b
parity : (d : Digit) (x y a b : ℕ) → plus_bit d + 2 * x + b ≡ minus_bit d + 2 * y + a → (a + 3 * b) % 2 ≡ nonzero d
parity one x y a b e = omega arith
parity nought x y a b e = omega arith
parity minus_one x y a b e = omega arith

residue_parity : (d : Digit) (a b : ℕ) → (a + 3 * b) % 4 ≡ plus_bit d + 3 * minus_bit d → (a + 3 * b) % 2 ≡ nonzero d
residue_parity one a b r = omega arith
residue_parity nought a b r = omega arith
residue_parity minus_one a b r = omega arith

-- -d, d is not minimal: d, 0 has its value
not_opposite_pair : (d : Digit) (s : DigitString) → nonzero d ≡ 1 → Lightest (opposite d ∷ d ∷ s) → ⊥
not_opposite_pair d s u m = let b = bit d in let o = opposite_bits d in omega (arith, m (d ∷ nought ∷ s) (omega arith))

-- after the opposite of the canonical digit d comes that opposite again
opposite_again : (d : Digit) (s : DigitString) (a b : ℕ) → nonzero d ≡ 1 → (a + 3 * b) % 4 ≡ plus_bit d + 3 * minus_bit d
    → Worth a b (opposite d ∷ s) → Lightest (opposite d ∷ s) → Begins (opposite d) s
opposite_again nought s a b u r w m = absurd (omega arith)
opposite_again one [] a b u r w m = absurd (omega arith)
opposite_again one (nought ∷ s) a b u r w m = absurd (omega arith)
opposite_again one (one ∷ s) a b u r w m = absurd (not_opposite_pair one s refl m)
opposite_again one (minus_one ∷ s) a b u r w m = refl
opposite_again minus_one [] a b u r w m = absurd (omega arith)
opposite_again minus_one (nought ∷ s) a b u r w m = absurd (omega arith)
opposite_again minus_one (minus_one ∷ s) a b u r w m = absurd (not_opposite_pair minus_one s refl m)
opposite_again minus_one (one ∷ s) a b u r w m = refl

-- ---- the bound, by the number of places
abbrev Bound : ℕ → Type 0
Bound p = (k a b : ℕ) (l : List DigitString) → MinimalForms p k a b l → length l ≤ fibonacci (suc k)

no_places : Bound zero
no_places k a b [] g = omega arith
no_places k a b (s ∷ []) g = omega (arith, fibonacci_positive k)
no_places k a b (s ∷ t ∷ l) g =
    let x = nil s (g.form s (Memᴰ.head refl)).places in
    let y = nil t (g.form t (Memᴰ.tail (Memᴰ.head refl))).places in
    absurd (to_later g.once t (Memᴰ.head refl) (ap stripped (x ∙ sym y)))
  where
    nil : (s : DigitString) → length s ≡ 0 → s ≡ []
    nil [] h = refl
    nil (d ∷ s) h = absurd (omega arith)

module _ (p : ℕ) (bound : (q : ℕ) → q ≤ p → Bound q) where
  -- where every member begins with the nonzero digit d, one digit is spent
  all_begin : (q k a b : ℕ) (l : List DigitString) (d : Digit) → q ≤ suc p → nonzero d ≡ 1 → MinimalForms q k a b l
      → ((s : DigitString) → Memᴰ s l → Begins d s) → length l ≤ fibonacci k
  all_begin zero k a b l d i u g h = omega (arith, none l (λ s m. empty s (h s m) (g.form s m).places))
    where
      empty : (s : DigitString) → Begins d s → length s ≡ 0 → ⊥
      empty [] x y = x
      empty (e ∷ s) x y = omega arith
  all_begin (suc q) zero a b l d i u g h = omega (arith, none l (λ s m. light s (h s m) (g.form s m).weighs))
    where
      light : (s : DigitString) → Begins d s → weight s ≡ 0 → ⊥
      light [] x y = x
      light (e ∷ s) x y = omega (arith, ap nonzero x)
  all_begin (suc q) (suc k) a b l d i u g h =
      let t = tails_minimal d q k (suc k) a b l (omega arith) g in
      omega (arith, tails_all d l h, bound q (omega arith) k ((a + b + minus_bit d) / 2) b (tails d l) t)

  module _ (k a b : ℕ) (l : List DigitString) (g : MinimalForms (suc p) k a b l) where
    split : length l ≡ length (tails one l) + length (tails nought l) + length (tails minus_one l)
    split = tails_length l (λ s m. omega (arith, (g.form s m).places))

    absent : (d : Digit) → ((a + 3 * b) % 2 ≡ nonzero d → ⊥) → length (tails d l) ≡ 0
    absent d h = none (tails d l) (λ s m. h (parity d (plus_mask s) (minus_mask s) a b (g.form (d ∷ s) (tails_member d l s m)).worth))

    even_bound : (a + 3 * b) % 2 ≡ 0 → length l ≤ fibonacci (suc k)
    even_bound r =
        let t = tails_minimal nought p k k a b l (omega arith) g in
        let x = absent one (λ q. omega arith) in
        let y = absent minus_one (λ q. omega arith) in
        omega (arith, split, bound p (omega arith) k ((a + b + 0) / 2) b (tails nought l) t)

    -- d is the canonical digit
    odd_bound : (d : Digit) → nonzero d ≡ 1 → (a + 3 * b) % 4 ≡ plus_bit d + 3 * minus_bit d → length l ≤ fibonacci (suc k)
    odd_bound d u r = go k refl
      where
        v : nonzero (opposite d) ≡ 1
        v = omega (arith, opposite_bits d)

        sides : (d : Digit) → nonzero d ≡ 1 → length l ≡ length (tails d l) + length (tails nought l) + length (tails (opposite d) l)
        sides one u = split
        sides nought u = absurd (omega arith)
        sides minus_one u = omega (arith, split)

        no_zero : length (tails nought l) ≡ 0
        no_zero = absent nought (λ q. omega (arith, residue_parity d a b r))

        weightless : (c : Digit) → nonzero c ≡ 1 → k ≡ 0 → length (tails c l) ≡ 0
        weightless c w q = none (tails c l) (λ s m. omega (arith, (g.form (c ∷ s) (tails_member c l s m)).weighs))

        again : (s : DigitString) → Memᴰ s (tails (opposite d) l) → Begins (opposite d) s
        again s m =
            let n = tails_member (opposite d) l s m in
            opposite_again d s a b u r (g.form (opposite d ∷ s) n).worth (g.lightest (opposite d ∷ s) n)

        go : (j : ℕ) → k ≡ j → length l ≤ fibonacci (suc k)
        go zero q = omega (arith, sides d u, no_zero, weightless d u q, weightless (opposite d) v q)
        go (suc j) q =
            let x = bound p (omega arith) j ((a + b + minus_bit d) / 2) b (tails d l) (tails_minimal d p j k a b l (omega arith) g) in
            let t = tails_minimal (opposite d) p j k a b l (omega (arith, v)) g in
            let y = all_begin p j ((a + b + minus_bit (opposite d)) / 2) b (tails (opposite d) l) (opposite d) (omega arith) v t again in
            omega (arith, sides d u, no_zero, ap (λ (i : ℕ). fibonacci (suc i)) q)

  bound_next : Bound (suc p)
  bound_next k a b l g = go ((a + 3 * b) % 4) refl
    where
      go : (r : ℕ) → (a + 3 * b) % 4 ≡ r → length l ≤ fibonacci (suc k)
      go zero q = even_bound k a b l g (omega arith)
      go (suc zero) q = odd_bound k a b l g one refl q
      go (suc (suc zero)) q = even_bound k a b l g (omega arith)
      go (suc (suc (suc zero))) q = odd_bound k a b l g minus_one refl q
      go (suc (suc (suc (suc r)))) q = absurd (omega arith)

bounds : (p q : ℕ) → q ≤ p → Bound q
bounds zero zero h = no_places
bounds zero (suc q) h = absurd (omega arith)
bounds (suc p) q h = go (dec_le q p) (bounds p)
  where
    go : Dec (q ≤ p) → ((q : ℕ) → q ≤ p → Bound q) → Bound q
    go (yes l) b = b q l
    go (no l) b = let e : suc p ≡ q = omega arith in subst Bound e (bound_next p b)

pub fibonacci_bound : (p k a b : ℕ) (l : List DigitString) → MinimalForms p k a b l → length l ≤ fibonacci (suc k)
fibonacci_bound p = bounds p p (omega arith)
