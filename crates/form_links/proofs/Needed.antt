-- At a spot of the walk: which of the two sides can have forms, by the last digit passed, and whether some form of the whole number takes
-- the link from that digit to the next, so that the forms beside are needed. Assumes nothing.
use mathlib.Core.Path.{◌≡◌, refl, ap, sym, ◌∙◌}
use mathlib.Core.List.{◌∷◌}
use mathlib.Core.Logic.{◌⊎◌, inl, inr, ⊎_elim}
use Prim.Native.Nat.{ℕ, zero, suc, ◌+◌, ◌*◌, ◌≤◌, ◌^◌, ◌%◌}
use native.Mathlib.Omega.{arith}
use lib.IntN.{pos}
use lib.ListN.{length}
use Rattle.signed_digit.specs.Digit.{Digit, one, nought, minus_one, nonzero}
use Rattle.signed_digit.specs.String.{DigitString}
use Rattle.signed_digit.specs.CanonicalForm.{lowest_digit, opposite, canonical_nat}
use Rattle.signed_digit.specs.Forms.{listing}
use Rattle.form_links.specs.Inner.{opposed, joined, takes}
use Rattle.form_links.proofs.Counts.{of_side}
use Rattle.form_links.proofs.LinkMasks.{joined_nought}
use Rattle.form_links.proofs.Spots.{Spot, Walked, Reads, past, coming, next_digit, past_less, walked_past, walked_most, coming_nought, coming_digit}

-- the digit two places below the walk, 0 where there is none: the forms beside lie on its other side
abbrev pub Sided : Digit → Spot → Type 0
Sided one w = w.above ≡ 0
Sided nought w = (w.above ≡ 0) × (w.below ≡ 0)
Sided minus_one w = w.below ≡ 0

pub sided_past : (d : Digit) (w : Spot) → Sided d (past d w)
sided_past one w = refl
sided_past nought w = (refl, refl)
sided_past minus_one w = refl

-- 1 where some form takes the link from the digit d, just passed, to the next
abbrev pub needed : Digit → Spot → ℕ
needed d w = takes d (nought ∷ coming w)

-- ---- what is beside, by the last digit d and the next digit f; x says of f what `needed` says of d
module _ (w : Spot) (d : Digit) (S : Sided d w) where
  -- the link is not taken: the digit leaves the number of forms as it is
  pub quiet_forms : (f : Digit) (x : ℕ) → nonzero f ≡ 1 → joined d f x ≡ 0 → (past f w).forms ≡ w.forms
  quiet_forms f x u j = go d f S u j
    where
      go : (d f : Digit) → Sided d w → nonzero f ≡ 1 → joined d f x ≡ 0 → (past f w).forms ≡ w.forms
      go one one S u j = omega arith
      go one minus_one S u j = absurd (omega arith)
      go nought one S u j = omega (arith, S.0)
      go nought minus_one S u j = omega (arith, S.1)
      go minus_one one S u j = absurd (omega arith)
      go minus_one minus_one S u j = omega arith
      go d nought S u j = absurd (omega arith)

  -- and where the next link is taken, it is the first of its run
  pub quiet_sides : (f : Digit) → nonzero f ≡ 1 → joined d f 1 ≡ 0 → (past f w).above + (past f w).below ≡ w.forms
  quiet_sides f u j = go d f S u j
    where
      go : (d f : Digit) → Sided d w → nonzero f ≡ 1 → joined d f 1 ≡ 0 → (past f w).above + (past f w).below ≡ w.forms
      go one one S u j = absurd (omega arith)
      go one minus_one S u j = absurd (omega arith)
      go nought one S u j = omega (arith, S.1)
      go nought minus_one S u j = omega (arith, S.0)
      go minus_one one S u j = absurd (omega arith)
      go minus_one minus_one S u j = absurd (omega arith)
      go d nought S u j = absurd (omega arith)

  -- forms on the side of f join those of what has been passed: the digits are opposite
  pub met_own : (f : Digit) (x : ℕ) → nonzero f ≡ 1 → 1 ≤ of_side f w.above w.below → joined d f x ≡ 1
  met_own f x u h = go d f S u h
    where
      go : (d f : Digit) → Sided d w → nonzero f ≡ 1 → 1 ≤ of_side f w.above w.below → joined d f x ≡ 1
      go one one S u h = absurd (omega arith)
      go one minus_one S u h = refl
      go nought one S u h = absurd (omega (arith, S.0))
      go nought minus_one S u h = absurd (omega (arith, S.1))
      go minus_one one S u h = refl
      go minus_one minus_one S u h = absurd (omega arith)
      go d nought S u h = absurd (omega arith)

  -- forms on its other side stay beside: the digits are equal
  pub met_other : (f : Digit) → nonzero f ≡ 1 → 1 ≤ of_side (opposite f) w.above w.below → joined d f 1 ≡ 1
  met_other f u h = go d f S u h
    where
      go : (d f : Digit) → Sided d w → nonzero f ≡ 1 → 1 ≤ of_side (opposite f) w.above w.below → joined d f 1 ≡ 1
      go one one S u h = refl
      go one minus_one S u h = refl
      go nought one S u h = absurd (omega (arith, S.1))
      go nought minus_one S u h = absurd (omega (arith, S.0))
      go minus_one one S u h = refl
      go minus_one minus_one S u h = refl
      go d nought S u h = absurd (omega arith)

  -- at a link that is taken, by its kind: the forms beside join those of what has been passed, and these are then beside; or both are beside
  abbrev pub OppositeLink : Digit → Type 0
  OppositeLink f = (opposed d f ≡ 1) × ((past f w).forms ≡ w.forms + (w.above + w.below)) × ((past f w).above + (past f w).below ≡ w.forms)

  abbrev pub EqualLink : Digit → ℕ → Type 0
  EqualLink f x = (opposed d f ≡ 0) × ((past f w).forms ≡ w.forms) × ((past f w).above + (past f w).below ≡ w.forms + (w.above + w.below)) × (x ≡ 1)

  pub link_step : (f : Digit) (x : ℕ) → nonzero f ≡ 1 → joined d f x ≡ 1 → OppositeLink f ⊎ EqualLink f x
  link_step f x u j = go d f S u j
    where
      go : (d f : Digit) → Sided d w → nonzero f ≡ 1 → joined d f x ≡ 1
          → ((opposed d f ≡ 1) × ((past f w).forms ≡ w.forms + (w.above + w.below)) × ((past f w).above + (past f w).below ≡ w.forms))
          ⊎ ((opposed d f ≡ 0) × ((past f w).forms ≡ w.forms) × ((past f w).above + (past f w).below ≡ w.forms + (w.above + w.below)) × (x ≡ 1))
      go one one S u j = inr (refl, omega arith, omega arith, j)
      go one minus_one S u j = inl (refl, omega arith, omega arith)
      go nought one S u j = absurd (omega arith)
      go nought minus_one S u j = absurd (omega arith)
      go minus_one one S u j = inl (refl, omega arith, omega arith)
      go minus_one minus_one S u j = inr (refl, omega arith, omega arith, j)
      go d nought S u j = absurd (omega arith)

-- ---- a digit at a time
module _ (p m : ℕ) (w : Spot) (W : Walked p m w) (h : 1 ≤ w.rest) (d : Digit) where
  pub needed_nought : Reads nought w.rest → needed d w ≡ 0
  needed_nought r = ap (λ (s : DigitString). takes d (nought ∷ s)) (coming_nought p m w W h r) ∙ joined_nought d (takes nought (coming (past nought w)))

  pub needed_digit : (f : Digit) → nonzero f ≡ 1 → Reads f w.rest → needed d w ≡ joined d f (needed f (past f w))
  needed_digit f u r = ap (λ (s : DigitString). takes d (nought ∷ s)) (coming_digit p m w W h f u r)

-- past the last digit nothing is needed
no_digits : (k : ℕ) (d : Digit) → takes d (nought ∷ canonical_nat k 0) ≡ 0
unfolding canonical_nat
no_digits zero d = refl
no_digits (suc k) d = joined_nought d (takes nought (canonical_nat k 0))

pub needed_end : (d : Digit) (w : Spot) → w.rest ≡ 0 → needed d w ≡ 0
needed_end d w z = ap (λ (n : ℕ). takes d (nought ∷ canonical_nat w.left n)) z ∙ no_digits w.left d

-- ---- what is needed fits into the listing
module _ (p m : ℕ) (hm : 3 * m ≤ 2 * 2 ^ p) where
  abbrev Fits : Digit → Spot → Type 0
  Fits d w = needed d w ≡ 1 → w.forms + (w.above + w.below) ≤ length (listing p (pos m))

  fits_digit : (w : Spot) (W : Walked p m w) (d : Digit) → Sided d w → (h : 1 ≤ w.rest) (f : Digit) → nonzero f ≡ 1 → Reads f w.rest → Fits f (past f w) → Fits d w
  fits_digit w W d S h f u r ih n =
      let W' = walked_past p m w W h f r in
      ⊎_elim (λ e. omega (arith, e.1, walked_most p m hm (past f w) W')) (λ e. omega (arith, e.2, ih e.3))
      (link_step w d S f (needed f (past f w)) u (sym (needed_digit p m w W h d f u r) ∙ n))

  digit_fits : (w : Spot) (W : Walked p m w) (d : Digit) → Sided d w → (h : 1 ≤ w.rest) (f : Digit) → Reads f w.rest → (nonzero f ≡ 1 → Fits f (past f w)) → Fits d w
  digit_fits w W d S h nought r ih n = absurd (omega (arith, needed_nought p m w W h d r))
  digit_fits w W d S h one r ih n = fits_digit w W d S h one refl r (ih refl) n
  digit_fits w W d S h minus_one r ih n = fits_digit w W d S h minus_one refl r (ih refl) n

  pub needed_fits : (d : Digit) (w : Spot) → Walked p m w → Sided d w → Fits d w
  needed_fits d w W S = from w.rest d w W S (omega arith)
    where
      from : (i : ℕ) (d : Digit) (w : Spot) → Walked p m w → Sided d w → w.rest ≤ i → Fits d w
      from zero d w W S l = λ n. absurd (omega (arith, needed_end d w (omega arith)))
      from (suc i) d w W S l = go w.rest refl (from i)
        where
          go : (y : ℕ) → w.rest ≡ y → ((d : Digit) (w : Spot) → Walked p m w → Sided d w → w.rest ≤ i → Fits d w) → Fits d w
          go zero e ih = λ n. absurd (omega (arith, needed_end d w e))
          go (suc y) e ih =
              let h : 1 ≤ w.rest = omega arith in
              let f = lowest_digit (w.rest % 4) in
              let r = next_digit w.rest in
              digit_fits w W d S h f r (λ u. ih f (past f w) (walked_past p m w W h f r) (sided_past f w) (omega (arith, past_less f w r h)))
