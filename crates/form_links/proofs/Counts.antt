-- The numbers of forms on the walk: of what has been passed, and beside it above and below. Assumes nothing.
use mathlib.Core.Path.{◌≡◌, refl, ap, ap₂, sym, ◌∙◌}
use mathlib.Core.List.{List, map}
use mathlib.Core.Logic.{◌⊎◌, inl, inr}
use Prim.Native.Nat.{ℕ, suc, ◌+◌, ◌*◌, ◌≤◌, ◌^◌, ◌/◌}
use native.Mathlib.Nat.{pow-suc}
use native.Mathlib.Omega.{arith}
use lib.IntN.{pos}
use lib.ListN.{length, length-append, length-map}
use lib.Pow.{pow_mono}
use Rattle.signed_digit.specs.Digit.{Digit, one, nought, minus_one, nonzero}
use Rattle.signed_digit.specs.String.{DigitString}
use Rattle.signed_digit.specs.Weight.{weight}
use Rattle.signed_digit.specs.Masks.{plus_bit, minus_bit}
use Rattle.signed_digit.specs.CanonicalForm.{opposite, canonical_nat}
use Rattle.signed_digit.specs.Forms.{top, forms, listing}
use Rattle.signed_digit.proofs.Listing.{listing_forms}
use Rattle.form_links.proofs.Lists.{raised}
use Rattle.form_links.proofs.Steps.{two}
use Rattle.form_links.proofs.Passed.{Passed, here, side, passed_start, passed_nought, passed_digit, here_nought, side_nought, here_digit, side_same, side_opposite, here_all}

pub two_length : (d : Digit) (l m : List DigitString) → length (two d l m) ≡ length l + length m
two_length d l m =
    length-append (map (top d) (map (top nought) l)) (map (top nought) (map (top d) m))
    ∙ ap₂ (λ (x y : ℕ). x + y) (length-map (map (top nought) l) (top d) ∙ length-map l (top nought)) (length-map (map (top d) m) (top nought) ∙ length-map m (top d))

-- above the value for 1, below it for -1
abbrev pub of_side : {A : Type 0} → Digit → A → A → A
of_side one above below = above
of_side nought above below = above
of_side minus_one above below = below

-- the counts; one of the two sides is empty, and where the other is not, two digits have been passed
pub record Counts {n m y : ℕ} (w : Passed n m y) (l above below : ℕ) : Type 0 where
  pub flat : l ≡ length (here w)
  pub sides : (d : Digit) → nonzero d ≡ 1 → of_side d above below ≡ length (side d w)
  pub most : (l ≤ 2 ^ w.q) × (above ≤ 2 ^ w.q) × (below ≤ 2 ^ w.q)
  pub alone : (above ≡ 0) ⊎ (below ≡ 0)
  pub quarter : 1 ≤ above + below → 2 ^ w.q ≡ 4 * (2 ^ w.q / 4)

pub counts_start : (p m : ℕ) (h : 3 * m ≤ 2 * 2 ^ p) → Counts (passed_start p m h) 1 0 0
unfolding passed_start forms
counts_start p m h = record {
  flat = refl;
  sides = none;
  most = (omega arith, omega arith, omega arith);
  alone = inl refl;
  quarter = λ i. absurd (omega arith);
}
  where
    none : (d : Digit) → nonzero d ≡ 1 → of_side d 0 0 ≡ length (side d (passed_start p m h))
    none one u = refl
    none nought u = absurd (omega arith)
    none minus_one u = refl

module _ (n m y : ℕ) (w : Passed n m y) (l above below : ℕ) (c : Counts w l above below) where
  pub counts_room : (l ≤ 2 ^ n) × (above ≤ 2 ^ n) × (below ≤ 2 ^ n) × (3 * y ≤ 2 ^ n) × (2 ^ w.q ≤ 2 ^ n)
  counts_room =
      let g : w.q ≤ n = omega (arith, w.all) in
      let i : 2 ^ w.q ≤ 2 ^ n = pow_mono g in
      let g' : w.left ≤ n = omega (arith, w.all) in
      let j : 2 ^ w.left ≤ 2 ^ n = pow_mono g' in
      (omega (arith, c.most.0), omega (arith, c.most.1), omega (arith, c.most.2), omega (arith, w.fits), i)

  module _ (h : 1 ≤ y) where
    pub counts_nought : (y' : ℕ) (e : y ≡ 2 * y') → Counts (passed_nought n m y w h y' e) l 0 0
    unfolding passed_nought
    counts_nought y' e = record {
      flat = c.flat ∙ sym (ap length (here_nought n m y w h y' e) ∙ length-map (here w) (top nought));
      sides = none;
      most = (omega (arith, c.most.0, pow-suc 2 w.q), omega arith, omega arith);
      alone = inl refl;
      quarter = λ i. absurd (omega arith);
    }
      where
        none : (d : Digit) → nonzero d ≡ 1 → of_side d 0 0 ≡ length (side d (passed_nought n m y w h y' e))
        none one u = sym (ap length (side_nought n m y w h y' e one u))
        none nought u = absurd (omega arith)
        none minus_one u = sym (ap length (side_nought n m y w h y' e minus_one u))

    -- a nonzero digit d: the side of d joins the forms, and they join the other side
    module _ (d : Digit) (u : nonzero d ≡ 1) (y' : ℕ) (e : y + minus_bit d ≡ 4 * y' + plus_bit d) where
      flat_digit : l + of_side d above below ≡ length (here (passed_digit n m y w h d u y' e))
      flat_digit = sym (ap length (here_digit n m y w h d u y' e) ∙ two_length d (here w) (side d w) ∙ ap₂ (λ (i j : ℕ). i + j) (sym c.flat) (sym (c.sides d u)))

      same_digit : 0 ≡ length (side d (passed_digit n m y w h d u y' e))
      same_digit = sym (ap length (side_same n m y w h d u y' e))

      opposite_digit : nonzero (opposite d) ≡ 1 → l + of_side (opposite d) above below ≡ length (side (opposite d) (passed_digit n m y w h d u y' e))
      opposite_digit v =
          sym (ap length (side_opposite n m y w h d u y' e)
          ∙ two_length (opposite d) (here w) (side (opposite d) w)
          ∙ ap₂ (λ (i j : ℕ). i + j) (sym c.flat) (sym (c.sides (opposite d) v)))

    pub counts_digit : (d : Digit) (u : nonzero d ≡ 1) (y' : ℕ) (e : y + minus_bit d ≡ 4 * y' + plus_bit d)
        → Counts (passed_digit n m y w h d u y' e) (l + of_side d above below) (of_side d 0 (l + above)) (of_side d (l + below) 0)
    unfolding passed_digit
    counts_digit d u y' e =
        let q : 2 ^ suc (suc w.q) ≡ 4 * 2 ^ w.q = omega (arith, pow-suc 2 w.q, pow-suc 2 (suc w.q)) in
        let b = bound d (2 ^ w.q) c.most.0 c.most.1 c.most.2 in
        record {
          flat = flat_digit d u y' e;
          sides = both d u y' e;
          most = (omega arith, omega arith, omega arith);
          alone = one_empty d;
          quarter = λ i. omega arith;
        }
      where
        both : (d : Digit) (u : nonzero d ≡ 1) (y' : ℕ) (e : y + minus_bit d ≡ 4 * y' + plus_bit d) (s : Digit) → nonzero s ≡ 1
            → of_side s (of_side d 0 (l + above)) (of_side d (l + below) 0) ≡ length (side s (passed_digit n m y w h d u y' e))
        both one u y' e one v = same_digit one u y' e
        both one u y' e minus_one v = opposite_digit one u y' e refl
        both minus_one u y' e one v = opposite_digit minus_one u y' e refl
        both minus_one u y' e minus_one v = same_digit minus_one u y' e
        both nought u y' e s v = absurd (omega arith)
        both one u y' e nought v = absurd (omega arith)
        both minus_one u y' e nought v = absurd (omega arith)

        bound : (d : Digit) (x : ℕ) → l ≤ x → above ≤ x → below ≤ x
            → (l + of_side d above below ≤ 4 * x) × (of_side d 0 (l + above) ≤ 4 * x) × (of_side d (l + below) 0 ≤ 4 * x)
        bound one x i j k = omega arith
        bound nought x i j k = omega arith
        bound minus_one x i j k = omega arith

        one_empty : (d : Digit) → (of_side d 0 (l + above) ≡ 0) ⊎ (of_side d (l + below) 0 ≡ 0)
        one_empty one = inl refl
        one_empty nought = inl refl
        one_empty minus_one = inr refl

pub counts_end : (p m : ℕ) (h : 3 * m ≤ 2 * 2 ^ p) (y : ℕ) (w : Passed (suc p) m y) (l above below : ℕ) → Counts w l above below → y ≡ 0 → l ≡ length (listing p (pos m))
counts_end p m h y w l above below c z =
    let f = forms p (weight (canonical_nat p m)) m 0 in
    let g : DigitString → ℕ = λ s. 0 in
    c.flat
    ∙ sym (length-map (here w) g)
    ∙ ap length (here_all p m h y w z g (λ s. refl))
    ∙ length-map (map raised f) g
    ∙ length-map f raised
    ∙ sym (ap length (listing_forms p (pos m) h))
