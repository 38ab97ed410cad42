-- The walk of src/lib.rt over links, beside the walk digit by digit: it stands at a spot, goes on from link to link, and ends with the number
-- of forms. Assumes nothing.
use mathlib.Core.Path.{◌≡◌, refl, ap, sym, ◌∙◌, subst}
use mathlib.Core.Bool.{Bool, true, false, cond}
use mathlib.Core.Logic.{◌≢◌, ◌⊎◌, ⊎_elim}
use mathlib.Core.List.{◌∷◌}
use Prim.Native.Nat.{ℕ, zero, suc, ◌+◌, ◌*◌, ◌≤◌, ◌<◌, ◌/◌, ◌%◌, ◌^◌}
use native.Mathlib.Nat.{le_refl, mul-le-mul_left}
use native.Mathlib.Omega.{arith}
use borrow.Author.Tests.{eq-eqb, ne_eqb}
use lib.Count.{count_trailing_zeros}
use lib.Dec.{eqb}
use lib.ListN.{length}
use lib.Pow.{pow_mono, pow-add, shl-shr}
use Rattle.word.proofs.LowZeros.{product_above, zeros_are}
use Rattle.signed_digit.specs.Digit.{Digit, one, nought, minus_one, nonzero}
use Rattle.signed_digit.specs.CanonicalForm.{lowest_digit, canonical_nat}
use Rattle.signed_digit.proofs.CanonicalForm.{canonical_nat_places}
use Rattle.form_links.proofs.LinkMasks.{takes_small, taken_small}
use Rattle.form_links.proofs.Spots.{Spot, Walked, Reads, past, coming, next_digit, walked_room}
use Rattle.form_links.proofs.Spots as Spots
use Rattle.form_links.proofs.Needed.{Sided, needed, needed_nought, needed_digit, needed_end, link_step}
use Rattle.form_links.proofs.Found.{links_at, opposed_at, takes_nought, links_first, links_digit, links_start, past_bit, Found, Ended, find}
use Rattle.form_walk.specs.declared.Walk.{Walk}
use Rattle.form_walk.specs.Inner.{start_of, skip_of, next_of}

-- the walk w stands at the spot s, d being the digit two places below
pub record Stands (d : Digit) (s : Spot) (w : Walk) : Type 0 where
  pub links : w.links ≡ links_at d s
  pub opposite : w.opposite ≡ opposed_at d s
  pub bit : w.bit ≡ s.bit
  pub forms : w.forms ≡ s.forms
  pub moved : needed d s ≡ 1 → w.moved ≡ s.above + s.below

-- ---- no number is too large
module _ (m : ℕ) (d : Digit) (s : Spot) (W : Walked 32 m s) (w : Walk) (S : Stands d s w) where
  places : length (d ∷ nought ∷ coming s) ≡ 2 + W.passed.left
  places = omega (arith, canonical_nat_places s.left s.rest, W.left_is)

  links_small : w.links < 2 ^ (2 + W.passed.left)
  links_small = omega (arith, S.links, taken_small (d ∷ nought ∷ coming s), ap (λ (i : ℕ). 2 ^ i) places)

  pub few_links : w.links ≤ 2 ^ 35
  few_links =
      let i : 2 + W.passed.left ≤ 35 = omega (arith, W.passed.all) in
      let j : 2 ^ (2 + W.passed.left) ≤ 2 ^ 35 = pow_mono i in
      omega (arith, links_small)

  pub whole : w.bit * w.links ≤ 2 ^ 35
  whole =
      let q = W.passed.q in
      let l = W.passed.left in
      let i : 2 ^ q * w.links ≤ 2 ^ q * 2 ^ (2 + l) = mul-le-mul_left (2 ^ q) (omega (arith, links_small)) in
      let j : q + (2 + l) ≡ 35 = omega (arith, W.passed.all) in
      omega (arith, i, ap (λ (b : ℕ). b * w.links) (S.bit ∙ W.bit_is), pow-add 2 q (2 + l), ap (λ (n : ℕ). 2 ^ n) j)

-- ---- before the first link
pub stands_start : (m : ℕ) → 3 * m ≤ 2 * 2 ^ 32 → Stands nought (Spots.start_of 32 m) (start_of (canonical_nat 32 m))
stands_start m h = record {
  links = (links_start 32 m h).0;
  opposite = (links_start 32 m h).1;
  bit = refl;
  forms = refl;
  moved = λ n. absurd (omega (arith, takes_nought (nought ∷ coming (Spots.start_of 32 m))));
}

-- ---- from link to link
-- the walk z places on
skip_by : ℕ → Walk → Walk
skip_by z w = record {
  links = w.links / 2 ^ z;
  opposite = w.opposite / 2 ^ z;
  bit = w.bit * 2 ^ z;
  forms = w.forms;
  moved = cond (eqb z 0) w.moved w.forms;
}

module _ (m : ℕ) (G : Digit → Spot → Type 0) (on : (d : Digit) (s : Spot) → G d s → Walked 32 m s × Sided d s)
    (over_nought : (d : Digit) (s : Spot) → G d s → 1 ≤ s.rest → Reads nought s.rest → G nought (past nought s))
    (over_digit : (d : Digit) (s : Spot) → G d s → 1 ≤ s.rest → (f : Digit) → nonzero f ≡ 1 → Reads f s.rest → needed d s ≡ 0 → G f (past f s)) where
  pub record At (w : Walk) : Type 0 where
    pub last : Digit
    pub spot : Spot
    pub known : G last spot
    pub stands : Stands last spot w

  -- at a link that some form takes
  pub record AtLink (w : Walk) : Type 0 where
    pub last : Digit
    pub spot : Spot
    pub known : G last spot
    pub stands : Stands last spot w
    pub is_taken : needed last spot ≡ 1

  pub record AtEnd (w : Walk) : Type 0 where
    pub last : Digit
    pub spot : Spot
    pub known : G last spot
    pub none_left : spot.rest ≡ 0
    pub forms : w.forms ≡ spot.forms

  odd_links : (d : Digit) (s : Spot) → needed d s ≡ 1 → links_at d s % 2 ≡ 1
  odd_links d s n = omega (arith, links_first d s)

  module _ (w : Walk) (A : At w) where
    abbrev Next : Type 0
    Next = Found 32 m G on over_nought over_digit A.last A.spot

    abbrev None : Type 0
    None = Ended 32 m G on over_nought over_digit A.last A.spot

    way : Next ⊎ None
    way = find 32 m G on over_nought over_digit A.spot.rest A.last A.spot A.known (le_refl A.spot.rest)

    small : w.links ≤ 2 ^ 35
    small = few_links m A.last A.spot (on A.last A.spot A.known).0 w A.stands

    pub skip_fits : w.links ≢ 0 → (w.links ≢ 0) × (w.links ≤ 2 ^ 35) × (w.bit * w.links ≤ 2 ^ 35)
    skip_fits h = (h, small, whole m A.last A.spot (on A.last A.spot A.known).0 w A.stands)

    module _ (f : Next) where
      is_links : w.links ≡ links_at f.last f.spot * 2 ^ f.z
      is_links = A.stands.links ∙ f.links

      is_opposite : w.opposite ≡ opposed_at f.last f.spot * 2 ^ f.z
      is_opposite = A.stands.opposite ∙ f.opposites

      zeros : count_trailing_zeros 64 w.links ≡ f.z
      zeros = zeros_are 64 w.links (omega (arith, small)) (links_at f.last f.spot) f.z (odd_links f.last f.spot f.is_taken) is_links

      beside : (z : ℕ) → z ≡ f.z → cond (eqb z 0) w.moved w.forms ≡ f.spot.above + f.spot.below
      beside zero e =
          let n : needed A.last A.spot ≡ 1 = omega (
            arith,
            f.links,
            ap (λ (x : ℕ). links_at f.last f.spot * 2 ^ x) e,
            odd_links f.last f.spot f.is_taken,
            links_first A.last A.spot,
            takes_small A.last (nought ∷ coming A.spot),
          ) in
          A.stands.moved n ∙ sym (f.near (sym e))
      beside (suc z) e = ap (λ (b : Bool). cond b w.moved w.forms) (ne_eqb (suc z) 0 (λ q. omega arith)) ∙ A.stands.forms ∙ sym (f.far (omega arith))

      there : Stands f.last f.spot (skip_by f.z w)
      unfolding skip_by
      there = record {
        links = ap (λ (x : ℕ). x / 2 ^ f.z) is_links ∙ shl-shr (links_at f.last f.spot) f.z;
        opposite = ap (λ (x : ℕ). x / 2 ^ f.z) is_opposite ∙ shl-shr (opposed_at f.last f.spot) f.z;
        bit = ap (λ (x : ℕ). x * 2 ^ f.z) A.stands.bit ∙ sym f.bit;
        forms = A.stands.forms ∙ sym f.forms;
        moved = λ n. beside f.z refl;
      }

      skipped : (v : Walk) → v ≡ skip_of w → AtLink v
      unfolding skip_by
      skipped v e = record {
        last = f.last;
        spot = f.spot;
        known = f.known;
        stands = subst (Stands f.last f.spot) (sym (e ∙ ap (λ (z : ℕ). skip_by z w) zeros)) there;
        is_taken = f.is_taken;
      }

    pub at_link : w.links ≢ 0 → (v : Walk) → v ≡ skip_of w → AtLink v
    at_link h v e = ⊎_elim (λ f. skipped f v e) (λ n. absurd (h (A.stands.links ∙ n.none))) way

    pub at_end_lem : w.links ≡ 0 → AtEnd w
    at_end_lem z = ⊎_elim (λ f. absurd (omega (arith, is_links f, product_above (links_at f.last f.spot) f.z (omega (arith, odd_links f.last f.spot f.is_taken)))))
        (λ n. record { last = n.last; spot = n.spot; known = n.known; none_left = n.rest; forms = A.stands.forms ∙ sym n.forms }) way

  -- ---- at a link: which digit comes next, and where the walk stands past it
  module _ (w : Walk) (A : AtLink w) where
    abbrev pub Digits : Type 0
    Digits = Walked 32 m A.spot × Sided A.last A.spot

    on_way : Digits
    on_way = on A.last A.spot A.known

    pub some_left : 1 ≤ A.spot.rest
    some_left = go A.spot.rest refl
      where
        go : (y : ℕ) → A.spot.rest ≡ y → 1 ≤ A.spot.rest
        go zero e = absurd (omega (arith, A.is_taken, needed_end A.last A.spot e))
        go (suc y) e = omega arith

    pub next_fits : (w.forms ≤ 2 ^ 34) × (w.moved ≤ 2 ^ 34) × (w.bit ≤ 2 ^ 33)
    next_fits =
        let r = walked_room 32 m A.spot on_way.0 in
        (omega (arith, A.stands.forms), omega (arith, A.stands.moved A.is_taken), omega (arith, A.stands.bit))

    abbrev pub digit : Digit
    digit = lowest_digit (A.spot.rest % 4)

    pub digit_read : Reads digit A.spot.rest
    digit_read = next_digit A.spot.rest

    pub digit_nonzero : nonzero digit ≡ 1
    digit_nonzero = go digit digit_read
      where
        go : (f : Digit) → Reads f A.spot.rest → nonzero f ≡ 1
        go one r = refl
        go nought r = absurd (omega (arith, A.is_taken, needed_nought 32 m A.spot on_way.0 some_left A.last r))
        go minus_one r = refl

    pub stands_next : (u : Walk) → u ≡ next_of w → Stands digit (past digit A.spot) u
    stands_next u e =
        let f = digit in
        let s = A.spot in
        let l = links_digit 32 m s on_way.0 some_left A.last f digit_nonzero digit_read in
        let n = needed_digit 32 m s on_way.0 some_left A.last f digit_nonzero digit_read in
        let k = link_step s A.last on_way.1 f (needed f (past f s)) digit_nonzero (sym n ∙ A.is_taken) in
        let o = A.stands.opposite ∙ l.1 in
        subst (Stands f (past f s)) (sym e) (record {
          links = omega (arith, A.stands.links, l.0, A.is_taken);
          opposite = ⊎_elim (λ x. omega (arith, o, x.0)) (λ x. omega (arith, o, x.0)) k;
          bit = ap (λ (b : ℕ). b * 4) A.stands.bit ∙ sym (past_bit f s digit_nonzero);
          forms = ⊎_elim (λ x. chosen true (eq-eqb (w.opposite % 2) 1 (omega (arith, o, x.0))) (w.forms + w.moved) w.forms ∙ omega (arith, A.stands.forms, A.stands.moved A.is_taken, x.1))
              (λ x. chosen false (ne_eqb (w.opposite % 2) 1 (λ q. omega (arith, o, x.0))) (w.forms + w.moved) w.forms ∙ omega (arith, A.stands.forms, x.1)) k;
          moved = λ i. ⊎_elim (λ x. chosen true (eq-eqb (w.opposite % 2) 1 (omega (arith, o, x.0))) w.forms (w.forms + w.moved) ∙ omega (arith, A.stands.forms, x.2))
              (λ x. chosen false (ne_eqb (w.opposite % 2) 1 (λ q. omega (arith, o, x.0))) w.forms (w.forms + w.moved) ∙ omega (arith, A.stands.forms, A.stands.moved A.is_taken, x.2)) k;
        })
      where
        chosen : (b : Bool) → eqb (w.opposite % 2) 1 ≡ b → (x y : ℕ) → cond (eqb (w.opposite % 2) 1) x y ≡ cond b x y
        chosen b q x y = ap (λ (c : Bool). cond c x y) q
