-- A walk over the canonical digits of a number m, digit by digit from the low end: where it has come, and how many forms there are of what
-- has been passed. Assumes nothing.
use mathlib.Core.Path.{◌≡◌, refl, ap, ◌∙◌}
use mathlib.Core.List.{◌∷◌}
use Prim.Native.Nat.{ℕ, zero, suc, ◌+◌, ◌*◌, ◌-◌, ◌≤◌, ◌<◌, ◌^◌, ◌/◌, ◌%◌}
use native.Mathlib.Nat.{pow-suc}
use native.Mathlib.Omega.{arith}
use lib.IntN.{pos}
use lib.ListN.{length}
use Rattle.signed_digit.specs.Digit.{Digit, one, nought, minus_one, nonzero}
use Rattle.signed_digit.specs.String.{DigitString}
use Rattle.signed_digit.specs.Masks.{plus_bit, minus_bit}
use Rattle.signed_digit.specs.CanonicalForm.{lowest_digit, canonical_nat}
use Rattle.signed_digit.specs.Forms.{listing}
use Rattle.form_links.proofs.Passed.{Passed, passed_start, passed_nought, passed_digit, more}
use Rattle.form_links.proofs.Counts.{Counts, counts_start, counts_room, counts_nought, counts_digit, counts_end}

-- Over `left` places the digits still to come are those of `rest`, and bit is the lowest of them. forms is the number of forms of what has
-- been passed; above and below are those, at the same weight, of what has been passed plus bit / 2 and minus bit / 2: a nonzero digit that
-- comes next and moves down one place leaves one of these.
pub record Spot : Type 0 where
  pub left : ℕ
  pub rest : ℕ
  pub bit : ℕ
  pub forms : ℕ
  pub above : ℕ
  pub below : ℕ

abbrev pub start_of : ℕ → ℕ → Spot
start_of p m = record { left = suc p; rest = m; bit = 1; forms = 1; above = 0; below = 0 }

-- past the next digit, and past the 0 above it where it is not 0
abbrev pub past : Digit → Spot → Spot
past one w = record { left = w.left - 2; rest = w.rest / 4; bit = w.bit * 4; forms = w.forms + w.above; above = 0; below = w.forms + w.below }
past minus_one w = record { left = w.left - 2; rest = w.rest / 4 + 1; bit = w.bit * 4; forms = w.forms + w.below; above = w.forms + w.above; below = 0 }
past nought w = record { left = w.left - 1; rest = w.rest / 2; bit = w.bit * 2; forms = w.forms; above = 0; below = 0 }

-- the digits still to come
abbrev pub coming : Spot → DigitString
coming w = canonical_nat w.left w.rest

pub record Walked (p m : ℕ) (w : Spot) : Type 0 where
  pub passed : Passed (suc p) m w.rest
  pub counts : Counts passed w.forms w.above w.below
  pub bit_is : w.bit ≡ 2 ^ passed.q
  pub left_is : passed.left ≡ w.left

unfoldable pub walked_start : (p m : ℕ) → 3 * m ≤ 2 * 2 ^ p → Walked p m (start_of p m)
unfolding passed_start
walked_start p m h = record { passed = passed_start p m h; counts = counts_start p m h; bit_is = refl; left_is = refl }

-- what the next digit says of y, the number that is left
abbrev pub Reads : Digit → ℕ → Type 0
Reads one y = y + 0 ≡ 4 * (y / 4) + 1
Reads nought y = y ≡ 2 * (y / 2)
Reads minus_one y = y + 1 ≡ 4 * (y / 4 + 1) + 0

pub next_digit : (y : ℕ) → Reads (lowest_digit (y % 4)) y
next_digit y = go (y % 4) refl
  where
    go : (r : ℕ) → y % 4 ≡ r → Reads (lowest_digit r) y
    go zero e = omega arith
    go (suc zero) e = omega arith
    go (suc (suc zero)) e = omega arith
    go (suc (suc (suc r))) e = omega arith

-- the number that is left falls, and the number of forms does not
pub past_less : (d : Digit) (w : Spot) → Reads d w.rest → 1 ≤ w.rest → ((past d w).rest < w.rest) × (w.forms ≤ (past d w).forms)
past_less one w r h = omega arith
past_less nought w r h = omega arith
past_less minus_one w r h = omega arith

-- ---- the canonical digits of an even and of an odd number
even_over : (k y : ℕ) → y ≡ 2 * (y / 2) → canonical_nat (suc k) y ≡ nought ∷ canonical_nat k (y / 2)
unfolding canonical_nat
even_over k y r = go (y % 4) refl
  where
    go : (x : ℕ) → y % 4 ≡ x → lowest_digit x ∷ canonical_nat k ((y + minus_bit (lowest_digit x)) / 2) ≡ nought ∷ canonical_nat k (y / 2)
    go zero e = let q : (y + 0) / 2 ≡ y / 2 = omega arith in ap (λ (z : ℕ). nought ∷ canonical_nat k z) q
    go (suc zero) e = absurd (omega arith)
    go (suc (suc zero)) e = let q : (y + 0) / 2 ≡ y / 2 = omega arith in ap (λ (z : ℕ). nought ∷ canonical_nat k z) q
    go (suc (suc (suc x))) e = absurd (omega arith)

even_digits : (k y : ℕ) → 2 ≤ k → y ≡ 2 * (y / 2) → canonical_nat k y ≡ nought ∷ canonical_nat (k - 1) (y / 2)
even_digits k y h r = let q : k ≡ suc (k - 1) = omega arith in ap (λ (i : ℕ). canonical_nat i y) q ∙ even_over (k - 1) y r

odd_over : (d : Digit) (k y y' : ℕ) → nonzero d ≡ 1 → y + minus_bit d ≡ 4 * y' + plus_bit d → canonical_nat (suc (suc k)) y ≡ d ∷ nought ∷ canonical_nat k y'
unfolding canonical_nat
odd_over d k y y' u r = go d (y % 4) refl u r
  where
    over : (z : ℕ) → z ≡ 2 * y' → canonical_nat (suc k) z ≡ nought ∷ canonical_nat k y'
    over z e =
        let q : z / 2 ≡ y' = omega arith in
        let r : z ≡ 2 * (z / 2) = omega arith in
        even_over k z r ∙ ap (λ (i : ℕ). nought ∷ canonical_nat k i) q

    go : (d : Digit) (x : ℕ) → y % 4 ≡ x → nonzero d ≡ 1 → y + minus_bit d ≡ 4 * y' + plus_bit d
        → lowest_digit x ∷ canonical_nat (suc k) ((y + minus_bit (lowest_digit x)) / 2) ≡ d ∷ nought ∷ canonical_nat k y'
    go one zero e u r = absurd (omega arith)
    go one (suc zero) e u r = ap (λ (s : DigitString). one ∷ s) (over ((y + 0) / 2) (omega arith))
    go one (suc (suc zero)) e u r = absurd (omega arith)
    go one (suc (suc (suc x))) e u r = absurd (omega arith)
    go nought x e u r = absurd (omega arith)
    go minus_one zero e u r = absurd (omega arith)
    go minus_one (suc zero) e u r = absurd (omega arith)
    go minus_one (suc (suc zero)) e u r = absurd (omega arith)
    go minus_one (suc (suc (suc x))) e u r = ap (λ (s : DigitString). minus_one ∷ s) (over ((y + 1) / 2) (omega arith))

odd_digits : (d : Digit) (k y y' : ℕ) → nonzero d ≡ 1 → 2 ≤ k → y + minus_bit d ≡ 4 * y' + plus_bit d → canonical_nat k y ≡ d ∷ nought ∷ canonical_nat (k - 2) y'
odd_digits d k y y' u h r = let q : k ≡ suc (suc (k - 2)) = omega arith in ap (λ (i : ℕ). canonical_nat i y) q ∙ odd_over d (k - 2) y y' u r

module _ (p m : ℕ) (w : Spot) (W : Walked p m w) where
  pub walked_end : 3 * m ≤ 2 * 2 ^ p → w.rest ≡ 0 → w.forms ≡ length (listing p (pos m))
  walked_end h z = counts_end p m h w.rest W.passed w.forms w.above w.below W.counts z

  pub walked_room : (w.forms ≤ 2 ^ suc p) × (w.above ≤ 2 ^ suc p) × (w.below ≤ 2 ^ suc p) × (w.bit ≤ 2 ^ suc p)
  walked_room =
      let r = counts_room (suc p) m w.rest W.passed w.forms w.above w.below W.counts in
      (omega arith, omega arith, omega arith, omega (arith, W.bit_is))

  module _ (h : 1 ≤ w.rest) where
    two_more : 2 ≤ w.left
    two_more = omega (arith, (more (suc p) m w.rest W.passed h).is, W.left_is)

    unfoldable pub walked_past : (d : Digit) → Reads d w.rest → Walked p m (past d w)
    unfolding passed_digit passed_nought
    walked_past one r = record {
      passed = passed_digit (suc p) m w.rest W.passed h one refl (w.rest / 4) r;
      counts = counts_digit (suc p) m w.rest W.passed w.forms w.above w.below W.counts h one refl (w.rest / 4) r;
      bit_is = omega (arith, W.bit_is, pow-suc 2 W.passed.q, pow-suc 2 (suc W.passed.q));
      left_is = omega (arith, W.left_is, (more (suc p) m w.rest W.passed h).is);
    }
    walked_past nought r = record {
      passed = passed_nought (suc p) m w.rest W.passed h (w.rest / 2) r;
      counts = counts_nought (suc p) m w.rest W.passed w.forms w.above w.below W.counts h (w.rest / 2) r;
      bit_is = omega (arith, W.bit_is, pow-suc 2 W.passed.q);
      left_is = omega (arith, W.left_is, (more (suc p) m w.rest W.passed h).is);
    }
    walked_past minus_one r = record {
      passed = passed_digit (suc p) m w.rest W.passed h minus_one refl (w.rest / 4 + 1) r;
      counts = counts_digit (suc p) m w.rest W.passed w.forms w.above w.below W.counts h minus_one refl (w.rest / 4 + 1) r;
      bit_is = omega (arith, W.bit_is, pow-suc 2 W.passed.q, pow-suc 2 (suc W.passed.q));
      left_is = omega (arith, W.left_is, (more (suc p) m w.rest W.passed h).is);
    }

    -- the digits to come are this digit, a 0 where it is not 0, and those that come after
    pub coming_nought : Reads nought w.rest → coming w ≡ nought ∷ coming (past nought w)
    coming_nought r = even_digits w.left w.rest two_more r

    pub coming_digit : (d : Digit) → nonzero d ≡ 1 → Reads d w.rest → coming w ≡ d ∷ nought ∷ coming (past d w)
    coming_digit one u r = odd_digits one w.left w.rest (w.rest / 4) u two_more r
    coming_digit nought u r = absurd (omega arith)
    coming_digit minus_one u r = odd_digits minus_one w.left w.rest (w.rest / 4 + 1) u two_more r

-- on the walk there are never more forms than at its end
pub walked_most : (p m : ℕ) → 3 * m ≤ 2 * 2 ^ p → (w : Spot) → Walked p m w → w.forms ≤ length (listing p (pos m))
walked_most p m h w W = from w.rest w W (omega arith)
  where
    from : (i : ℕ) (w : Spot) → Walked p m w → w.rest ≤ i → w.forms ≤ length (listing p (pos m))
    from zero w W l = omega (arith, walked_end p m w W h (omega arith))
    from (suc i) w W l = go w.rest refl (from i)
      where
        go : (y : ℕ) → w.rest ≡ y → ((w : Spot) → Walked p m w → w.rest ≤ i → w.forms ≤ length (listing p (pos m))) → w.forms ≤ length (listing p (pos m))
        go zero e ih = omega (arith, walked_end p m w W h e)
        go (suc y) e ih =
            let d = lowest_digit (w.rest % 4) in
            let r = next_digit w.rest in
            let f = past_less d w r (omega arith) in
            omega (arith, ih (past d w) (walked_past p m w W (omega arith) d r) (omega arith))
