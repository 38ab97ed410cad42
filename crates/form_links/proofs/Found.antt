-- The next link that some form takes, by the masks of the links from the walk's spot on; where none is left, the walk's end. What is passed on
-- the way leaves the number of forms as it is. Assumes nothing.
use mathlib.Core.Path.{◌≡◌, refl, ap, sym, ◌∙◌}
use mathlib.Core.List.{[], ◌∷◌}
use mathlib.Core.Logic.{◌⊎◌, inl, inr, ⊎_elim}
use Prim.Native.Nat.{ℕ, zero, suc, ◌+◌, ◌*◌, ◌≤◌, ◌^◌, ◌%◌}
use native.Mathlib.Nat.{pow-suc}
use native.Mathlib.Omega.{arith}
use Rattle.signed_digit.specs.Digit.{Digit, one, nought, minus_one, nonzero}
use Rattle.signed_digit.specs.String.{DigitString}
use Rattle.signed_digit.specs.Masks.{plus_bit, minus_bit}
use Rattle.signed_digit.specs.CanonicalForm.{lowest_digit, canonical_nat}
use Rattle.signed_digit.specs.Forms.{top}
use Rattle.signed_digit.proofs.Strings.{pad, pad_places, pad_mask}
use Rattle.signed_digit.proofs.Same.{same_equal}
use Rattle.signed_digit.proofs.Value.{values_eq}
use Rattle.signed_digit.proofs.Canonical.{canonical_pad, canonical_unique}
use Rattle.signed_digit.proofs.CanonicalForm.{canonical_nat_worth, canonical_nat_places, canonical_nat_canonical}
use Rattle.form_links.specs.Inner.{opposed, links_of, joined, takes, taken_links}
use Rattle.form_links.proofs.LinkMasks.{takes_small, taken_top, opposed_top}
use Rattle.form_links.proofs.Spots.{Spot, Walked, Reads, start_of, past, coming, next_digit, past_less, coming_nought, coming_digit}
use Rattle.form_links.proofs.Needed.{Sided, needed, needed_nought, needed_digit, needed_end, quiet_forms, quiet_sides}

-- the links from the digit d, two places below the walk, on: all that some form takes, and those between opposite digits
abbrev pub links_at : Digit → Spot → ℕ
links_at d w = taken_links (d ∷ nought ∷ coming w)

abbrev pub opposed_at : Digit → Spot → ℕ
opposed_at d w = links_of opposed (d ∷ nought ∷ coming w)

-- ---- the masks, a digit at a time
pub takes_nought : (s : DigitString) → takes nought s ≡ 0
takes_nought [] = refl
takes_nought (e ∷ []) = refl
takes_nought (e ∷ f ∷ s) = refl

opposed_nought : (d : Digit) → opposed d nought ≡ 0
opposed_nought one = refl
opposed_nought nought = refl
opposed_nought minus_one = refl

pub links_first : (d : Digit) (w : Spot) → links_at d w ≡ needed d w + 4 * taken_links (coming w)
links_first d w = omega (arith, takes_nought (coming w))

no_links : (k : ℕ) → taken_links (canonical_nat k 0) ≡ 0
unfolding canonical_nat
no_links zero = refl
no_links (suc k) = omega (arith, takes_nought (canonical_nat k 0), no_links k)

module _ (p m : ℕ) (w : Spot) (W : Walked p m w) (h : 1 ≤ w.rest) (d : Digit) where
  links_nought : Reads nought w.rest → (links_at d w ≡ 2 * links_at nought (past nought w)) × (opposed_at d w ≡ 2 * opposed_at nought (past nought w))
  links_nought r =
      let c = coming (past nought w) in
      let e = coming_nought p m w W h r in (
        omega (
          arith,
          links_first d w,
          needed_nought p m w W h d r,
          ap taken_links e,
          takes_nought c,
          links_first nought (past nought w),
          takes_nought (nought ∷ c),
        ),
        ap (λ (s : DigitString). links_of opposed (d ∷ nought ∷ s)) e ∙ double (links_of opposed c),
      )
    where
      double : (x : ℕ) → opposed d nought + 2 * (0 + 2 * (0 + 2 * x)) ≡ 2 * (0 + 2 * (0 + 2 * x))
      double x = omega (arith, opposed_nought d)

  pub links_digit : (f : Digit) → nonzero f ≡ 1 → Reads f w.rest → (links_at d w ≡ needed d w + 4 * links_at f (past f w)) × (opposed_at d w ≡ opposed d f + 4 * opposed_at f (past f w))
  links_digit f u r =
      let e = coming_digit p m w W h f u r in (
        omega (arith, links_first d w, ap taken_links e),
        ap (λ (s : DigitString). links_of opposed (d ∷ nought ∷ s)) e ∙ quadruple (opposed d f) (opposed_at f (past f w)),
      )
    where
      quadruple : (i x : ℕ) → i + 2 * (0 + 2 * x) ≡ i + 4 * x
      quadruple i x = omega arith

not_opposed : (d f : Digit) (x : ℕ) → joined d f x ≡ 0 → opposed d f ≡ 0
not_opposed one one x j = refl
not_opposed one nought x j = refl
not_opposed one minus_one x j = absurd (omega arith)
not_opposed nought f x j = refl
not_opposed minus_one one x j = absurd (omega arith)
not_opposed minus_one nought x j = refl
not_opposed minus_one minus_one x j = refl

pub past_bit : (f : Digit) (w : Spot) → nonzero f ≡ 1 → (past f w).bit ≡ w.bit * 4
past_bit one w u = refl
past_bit nought w u = absurd (omega arith)
past_bit minus_one w u = refl

-- ---- before the first digit
-- one place more for the digits of m is a 0 on top
one_more : (p m : ℕ) → 3 * m ≤ 2 * 2 ^ p → canonical_nat (suc p) m ≡ top nought (canonical_nat p m)
one_more p m h =
    let l = canonical_nat (suc p) m in
    let s = canonical_nat p m in
    let c = canonical_nat_canonical p m in
    let w = (values_eq l (pad 1 s)).1
    (omega (arith, canonical_nat_worth (suc p) m (omega (arith, pow-suc 2 p)), canonical_nat_worth p m h, pad_mask plus_bit refl 1 s, pad_mask minus_bit refl 1 s)) in
    same_equal l (pad 1 s) (omega (arith, canonical_nat_places (suc p) m, canonical_nat_places p m, pad_places 1 s))
    (canonical_unique l (pad 1 s) (canonical_nat_canonical (suc p) m) (canonical_pad 1 s c) w)

pub links_start : (p m : ℕ) → 3 * m ≤ 2 * 2 ^ p
    → (taken_links (canonical_nat p m) * 4 ≡ links_at nought (start_of p m)) × (links_of opposed (canonical_nat p m) * 4 ≡ opposed_at nought (start_of p m))
links_start p m h =
    let s = canonical_nat p m in
    let e = one_more p m h in (
      omega (arith, takes_nought (nought ∷ canonical_nat (suc p) m), takes_nought (canonical_nat (suc p) m), ap taken_links e, taken_top s),
      omega (arith, ap (links_of opposed) e, opposed_top s),
    )

-- G is what is known at a spot, d being the digit two places below. It stays known past zeros, and past digits whose link no form takes.
module _ (p m : ℕ) (G : Digit → Spot → Type 0) (on : (d : Digit) (w : Spot) → G d w → Walked p m w × Sided d w)
    (over_nought : (d : Digit) (w : Spot) → G d w → 1 ≤ w.rest → Reads nought w.rest → G nought (past nought w))
    (over_digit : (d : Digit) (w : Spot) → G d w → 1 ≤ w.rest → (f : Digit) → nonzero f ≡ 1 → Reads f w.rest → needed d w ≡ 0 → G f (past f w)) where
  -- z places above d there is a link that some form takes
  pub record Found (d : Digit) (w : Spot) : Type 0 where
    pub z : ℕ
    pub last : Digit
    pub spot : Spot
    pub known : G last spot
    pub is_taken : needed last spot ≡ 1
    pub links : links_at d w ≡ links_at last spot * 2 ^ z
    pub opposites : opposed_at d w ≡ opposed_at last spot * 2 ^ z
    pub bit : spot.bit ≡ w.bit * 2 ^ z
    pub forms : spot.forms ≡ w.forms
    pub near : z ≡ 0 → spot.above + spot.below ≡ w.above + w.below
    pub far : 1 ≤ z → spot.above + spot.below ≡ w.forms

  -- there is none, and this is the walk's end
  pub record Ended (d : Digit) (w : Spot) : Type 0 where
    pub last : Digit
    pub spot : Spot
    pub known : G last spot
    pub none : links_at d w ≡ 0
    pub rest : spot.rest ≡ 0
    pub forms : spot.forms ≡ w.forms

  module _ (d : Digit) (w : Spot) (g : G d w) where
    at_once : needed d w ≡ 1 → Found d w
    at_once n = record {
      z = 0;
      last = d;
      spot = w;
      known = g;
      is_taken = n;
      links = omega arith;
      opposites = omega arith;
      bit = omega arith;
      forms = refl;
      near = λ e. refl;
      far = λ e. absurd (omega arith);
    }

    at_the_end : w.rest ≡ 0 → Ended d w
    at_the_end e = record {
      last = d;
      spot = w;
      known = g;
      none = omega (arith, links_first d w, needed_end d w e, ap (λ (n : ℕ). taken_links (canonical_nat w.left n)) e, no_links w.left);
      rest = e;
      forms = refl;
    }

    module _ (h : 1 ≤ w.rest) where
      past_nought : Reads nought w.rest → Found nought (past nought w) → Found d w
      past_nought r s =
          let l = links_nought p m w (on d w g).0 h d r in
          let t = pow-suc 2 s.z in
          record {
            z = suc s.z;
            last = s.last;
            spot = s.spot;
            known = s.known;
            is_taken = s.is_taken;
            links = omega (arith, l.0, s.links, ap (λ (x : ℕ). links_at s.last s.spot * x) t);
            opposites = omega (arith, l.1, s.opposites, ap (λ (x : ℕ). opposed_at s.last s.spot * x) t);
            bit = omega (arith, s.bit, ap (λ (x : ℕ). w.bit * x) t);
            forms = s.forms;
            near = λ e. absurd (omega arith);
            far = λ e. s.far (some s.z refl);
          }
        where
          -- from a 0 no link starts
          some : (z : ℕ) → z ≡ s.z → 1 ≤ s.z
          some zero e =
              absurd
              (omega (
                arith,
                s.links,
                ap (λ (x : ℕ). links_at s.last s.spot * 2 ^ x) e,
                links_first s.last s.spot,
                s.is_taken,
                links_first nought (past nought w),
                takes_nought (nought ∷ coming (past nought w)),
              ))
          some (suc z) e = omega arith

      past_digit : (f : Digit) → nonzero f ≡ 1 → Reads f w.rest → needed d w ≡ 0 → Found f (past f w) → Found d w
      past_digit f u r n s =
          let o = on d w g in
          let l = links_digit p m w o.0 h d f u r in
          let j = sym (needed_digit p m w o.0 h d f u r) ∙ n in
          let q = quiet_forms w d o.1 f (needed f (past f w)) u j in
          let t = pow-suc 2 s.z in
          let t' = pow-suc 2 (suc s.z) in
          let v = not_opposed d f (needed f (past f w)) j in
          record {
            z = suc (suc s.z);
            last = s.last;
            spot = s.spot;
            known = s.known;
            is_taken = s.is_taken;
            links = omega (arith, l.0, s.links, ap (λ (x : ℕ). links_at s.last s.spot * x) t, ap (λ (x : ℕ). links_at s.last s.spot * x) t');
            opposites = omega (arith, l.1, v, s.opposites, ap (λ (x : ℕ). opposed_at s.last s.spot * x) t, ap (λ (x : ℕ). opposed_at s.last s.spot * x) t');
            bit = s.bit ∙ ap (λ (b : ℕ). b * 2 ^ s.z) (past_bit f w u) ∙ omega (arith, ap (λ (x : ℕ). w.bit * x) t, ap (λ (x : ℕ). w.bit * x) t');
            forms = s.forms ∙ q;
            near = λ e. absurd (omega arith);
            far = λ e. beside s.z refl j q;
          }
        where
          beside : (z : ℕ) → z ≡ s.z → joined d f (needed f (past f w)) ≡ 0 → (past f w).forms ≡ w.forms → s.spot.above + s.spot.below ≡ w.forms
          beside zero e j q =
              let x : needed f (past f w) ≡ 1 = omega (
                arith,
                s.links,
                ap (λ (x : ℕ). links_at s.last s.spot * 2 ^ x) e,
                links_first s.last s.spot,
                s.is_taken,
                links_first f (past f w),
                takes_small f (nought ∷ coming (past f w)),
              ) in
              s.near (sym e) ∙ quiet_sides w d (on d w g).1 f u (sym (ap (joined d f) x) ∙ j)
          beside (suc z) e j q = s.far (omega arith) ∙ q

      end_nought : Reads nought w.rest → Ended nought (past nought w) → Ended d w
      end_nought r s = record {
        last = s.last;
        spot = s.spot;
        known = s.known;
        none = omega (arith, (links_nought p m w (on d w g).0 h d r).0, s.none);
        rest = s.rest;
        forms = s.forms;
      }

      end_digit : (f : Digit) → nonzero f ≡ 1 → Reads f w.rest → needed d w ≡ 0 → Ended f (past f w) → Ended d w
      end_digit f u r n s =
          let o = on d w g in
          let j = sym (needed_digit p m w o.0 h d f u r) ∙ n in
          record {
            last = s.last;
            spot = s.spot;
            known = s.known;
            none = omega (arith, (links_digit p m w o.0 h d f u r).0, s.none, n);
            rest = s.rest;
            forms = s.forms ∙ quiet_forms w d o.1 f (needed f (past f w)) u j;
          }

      abbrev Onward : ℕ → Type 0
      Onward i = (d : Digit) (w : Spot) → G d w → w.rest ≤ i → Found d w ⊎ Ended d w

      nonzero_digit : (i : ℕ) → w.rest ≤ suc i → Onward i → (f : Digit) → nonzero f ≡ 1 → Reads f w.rest → (x : ℕ) → needed d w ≡ x → Found d w ⊎ Ended d w
      nonzero_digit i l ih f u r zero n =
          ⊎_elim (λ s. inl (past_digit f u r n s)) (λ s. inr (end_digit f u r n s)) (ih f (past f w) (over_digit d w g h f u r n) (omega (arith, past_less f w r h)))
      nonzero_digit i l ih f u r (suc zero) n = inl (at_once n)
      nonzero_digit i l ih f u r (suc (suc x)) n = absurd (omega (arith, takes_small d (nought ∷ coming w)))

      by_digit : (i : ℕ) → w.rest ≤ suc i → Onward i → (f : Digit) → Reads f w.rest → Found d w ⊎ Ended d w
      by_digit i l ih nought r =
          ⊎_elim (λ s. inl (past_nought r s)) (λ s. inr (end_nought r s)) (ih nought (past nought w) (over_nought d w g h r) (omega (arith, past_less nought w r h)))
      by_digit i l ih one r = nonzero_digit i l ih one refl r (needed d w) refl
      by_digit i l ih minus_one r = nonzero_digit i l ih minus_one refl r (needed d w) refl

  pub find : (i : ℕ) (d : Digit) (w : Spot) → G d w → w.rest ≤ i → Found d w ⊎ Ended d w
  find zero d w g l = inr (at_the_end d w g (omega arith))
  find (suc i) d w g l = go w.rest refl (find i)
    where
      go : (y : ℕ) → w.rest ≡ y → ((d : Digit) (w : Spot) → G d w → w.rest ≤ i → Found d w ⊎ Ended d w) → Found d w ⊎ Ended d w
      go zero e ih = inr (at_the_end d w g e)
      go (suc y) e ih = by_digit d w g (omega arith) i l ih (lowest_digit (w.rest % 4)) (next_digit w.rest)
