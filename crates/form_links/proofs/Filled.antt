-- The two mask tables on the walk, and at its end: the listing in front, and the rest as it was. Assumes nothing.
use mathlib.Core.Path.{◌≡◌, refl, ap, ap₂, sym, ◌∙◌}
use mathlib.Core.Bool.{Bool, true}
use mathlib.Core.List.{List, [], ◌∷◌, ◌++◌, map}
use Prim.Native.Nat.{ℕ, suc, ◌+◌, ◌*◌, ◌-◌, ◌≤◌, ◌<◌, ◌^◌, ◌/◌, ◌%◌}
use native.Mathlib.Omega.{arith}
use lib.IntN.{pos}
use lib.ListN.{length, take, drop, take-append-drop}
use lib.Pow.{pow_mono}
use Rattle.signed_digit.specs.Digit.{Digit, one, nought, minus_one, nonzero}
use Rattle.signed_digit.specs.Masks.{mask, plus_bit, minus_bit, plus_mask, minus_mask}
use Rattle.signed_digit.specs.CanonicalForm.{opposite, canonical_nat}
use Rattle.signed_digit.specs.Forms.{listing}
use Rattle.signed_digit.proofs.Strings.{small}
use Rattle.signed_digit.proofs.CanonicalForm.{canonical_nat_places}
use Rattle.form_links.specs.Inner.{joined}
use Rattle.form_links.proofs.Passed.{passed_digit, more}
use Rattle.form_links.proofs.Counts.{of_side}
use Rattle.form_links.proofs.Growth.{grown_if, if_rest}
use Rattle.form_links.proofs.SignMasks.{bit_of}
use Rattle.form_links.proofs.Columns.{Column, column_start, column_nought, column_own, column_other, column_end}
use Rattle.form_links.proofs.Spots.{Spot, Walked, Reads, start_of, past, walked_start, walked_past, walked_end}
use Rattle.form_links.proofs.Needed.{Sided, sided_past, needed, needed_digit, met_own, met_other, needed_fits}

-- past the first count elements a table is as it was
pub record Kept (count : ℕ) (old new : List ℕ) : Type 0 where
  pub long : length new ≡ length old
  pub rest : drop count new ≡ drop count old

-- the offset at a spot: the masks of the forms in which the next digit moves down are a quarter of the bit less than those of the forms beside
abbrev pub offset : Spot → ℕ
offset w = (2 ^ 32 - w.bit / 4) % 2 ^ 32

-- a mask table in which the forms beside have been copied behind those of what has been passed, or have not
abbrev pub widened : Bool → Spot → List ℕ → List ℕ
widened copied w t = grown_if copied t w.forms (w.above + w.below) (offset w)

widened_kept : (copied : Bool) (count : ℕ) (w : Spot) (old t : List ℕ) → count ≤ length t → (copied ≡ true → w.forms + (w.above + w.below) ≤ count)
    → Kept count old t → Kept count old (widened copied w t)
widened_kept copied count w old t h fit k =
    let r = if_rest t w.forms (w.above + w.below) (offset w) copied count h fit in
    record { long = r.1 ∙ k.long; rest = r.0 ∙ k.rest }

-- ---- both tables on the walk, d being the digit two places below; the canonical form's masks stood in front at its start
pub record Filled (p m count : ℕ) (first : Digit → ℕ) (d : Digit) (w : Spot) (up down up' down' : List ℕ) : Type 0 where
  pub walked : Walked p m w
  pub sided : Sided d w
  pub columns : (s : Digit) → nonzero s ≡ 1 → Column s walked.passed (needed d w ≡ 1) (first s) (of_side s up' down')
  pub up_kept : Kept count up up'
  pub down_kept : Kept count down down'

-- the masks of the canonical form
abbrev pub first_of : ℕ → ℕ → Digit → ℕ
first_of p m s = mask (bit_of s) (canonical_nat p m)

first_small : (p m : ℕ) → p ≤ 32 → (s : Digit) → first_of p m s < 2 ^ 32
first_small p m h s = go s
  where
    both : plus_mask (canonical_nat p m) + minus_mask (canonical_nat p m) < 2 ^ 32
    both = let i : 2 ^ p ≤ 2 ^ 32 = pow_mono h in omega (arith, small (canonical_nat p m), ap (λ (n : ℕ). 2 ^ n) (canonical_nat_places p m))

    go : (s : Digit) → mask (bit_of s) (canonical_nat p m) < 2 ^ 32
    go one = omega (arith, both)
    go nought = omega (arith, both)
    go minus_one = omega (arith, both)

module _ (p m count : ℕ) (hp : p ≤ 32) (hm : 3 * m ≤ 2 * 2 ^ p) (hc : count ≡ length (listing p (pos m))) (up down : List ℕ)
    (ru : count ≤ length up) (rd : count ≤ length down) where
  pub filled_start : take 1 up ≡ first_of p m one ∷ [] → take 1 down ≡ first_of p m minus_one ∷ [] → Filled p m count (first_of p m) nought (start_of p m) up down up down
  unfolding walked_start
  filled_start i j = record {
    walked = walked_start p m hm;
    sided = (refl, refl);
    columns = both;
    up_kept = record { long = refl; rest = refl };
    down_kept = record { long = refl; rest = refl };
  }
    where
      both : (s : Digit) → nonzero s ≡ 1 → Column s (walked_start p m hm).passed (needed nought (start_of p m) ≡ 1) (first_of p m s) (of_side s up down)
      both one u = column_start one u p m hm _ (first_of p m one) up i (first_small p m hp one)
      both nought u = absurd (omega arith)
      both minus_one u = column_start minus_one u p m hm _ (first_of p m minus_one) down j (first_small p m hp minus_one)

  module _ (d : Digit) (w : Spot) (up' down' : List ℕ) (F : Filled p m count (first_of p m) d w up down up' down') where
    pub filled_fits : needed d w ≡ 1 → w.forms + (w.above + w.below) ≤ count
    filled_fits n = omega (arith, needed_fits p m hm d w F.walked F.sided n)

    pub filled_room : (count ≤ length up') × (count ≤ length down')
    filled_room = (omega (arith, F.up_kept.long), omega (arith, F.down_kept.long))

    module _ (h : 1 ≤ w.rest) where
      -- two places are left, so the bit is small
      low : 2 ^ F.walked.passed.q ≤ 2 ^ 32
      low =
          let t = more (suc p) m w.rest F.walked.passed h in
          let i : F.walked.passed.q ≤ 32 = omega (arith, t.is, F.walked.passed.all) in
          pow_mono i

      back : (offset w + 2 ^ F.walked.passed.q / 4) % 2 ^ 32 ≡ 0
      back = omega (arith, low, F.walked.bit_is)

      -- a zero passed leaves the tables as they are
      pub filled_nought : Reads nought w.rest → Filled p m count (first_of p m) nought (past nought w) up down up' down'
      unfolding walked_past
      filled_nought r = record {
        walked = walked_past p m w F.walked h nought r;
        sided = sided_past nought w;
        columns = both;
        up_kept = F.up_kept;
        down_kept = F.down_kept;
      }
        where
          both : (s : Digit) → nonzero s ≡ 1 → Column s (walked_past p m w F.walked h nought r).passed (needed nought (past nought w) ≡ 1) (first_of p m s) (of_side s up' down')
          both one u = column_nought one u (suc p) m w.rest F.walked.passed _ (first_of p m one) up' (F.columns one u) h _ (w.rest / 2) r
          both nought u = absurd (omega arith)
          both minus_one u = column_nought minus_one u (suc p) m w.rest F.walked.passed _ (first_of p m minus_one) down' (F.columns minus_one u) h _ (w.rest / 2) r

      -- a nonzero digit, at which the forms beside are copied where they are needed
      module _ (copied : Bool) (yes : needed d w ≡ 1 → copied ≡ true) (only : copied ≡ true → needed d w ≡ 1) where
        room : (t : List ℕ) → count ≤ length t → copied ≡ true → w.forms + (w.above + w.below) ≤ length t
        room t l c = omega (arith, filled_fits (only c))

        module _ (f : Digit) (u : nonzero f ≡ 1) (r : Reads f w.rest) where
          met : 1 ≤ of_side f w.above w.below → (copied ≡ true) × (needed d w ≡ 1)
          met i =
              let n : needed d w ≡ 1 = needed_digit p m w F.walked h d f u r ∙ met_own w d F.sided f (needed f (past f w)) u i in
              (yes n, n)

          met_later : needed f (past f w) ≡ 1 → 1 ≤ of_side (opposite f) w.above w.below → (copied ≡ true) × (needed d w ≡ 1)
          met_later x i =
              let n : needed d w ≡ 1 = needed_digit p m w F.walked h d f u r ∙ ap (joined d f) x ∙ met_other w d F.sided f u i in
              (yes n, n)

        pub filled_digit : (f : Digit) → nonzero f ≡ 1 → Reads f w.rest → Filled p m count (first_of p m) f (past f w) up down (widened copied w up') (widened copied w down')
        unfolding walked_past
        filled_digit f u r = record {
          walked = walked_past p m w F.walked h f r;
          sided = sided_past f w;
          columns = both f u r;
          up_kept = widened_kept copied count w up up' filled_room.0 (λ c. filled_fits (only c)) F.up_kept;
          down_kept = widened_kept copied count w down down' filled_room.1 (λ c. filled_fits (only c)) F.down_kept;
        }
          where
            own : (s : Digit) (v : nonzero s ≡ 1) (t : List ℕ) → count ≤ length t → Column s F.walked.passed (needed d w ≡ 1) (first_of p m s) t
                → (r : Reads s w.rest) (y' : ℕ) (e : w.rest + minus_bit s ≡ 4 * y' + plus_bit s)
                → Column s (passed_digit (suc p) m w.rest F.walked.passed h s v y' e) (needed s (past s w) ≡ 1) (first_of p m s) (widened copied w t)
            own s v t l C r y' e =
                column_own s v (suc p) m w.rest F.walked.passed _ (first_of p m s) t C h _ w.forms w.above w.below F.walked.counts low (offset w) back
                copied (room t l) y' e (met s v r) (met_later s v r)

            other : (s : Digit) (v : nonzero s ≡ 1) (t : List ℕ) → count ≤ length t → Column s F.walked.passed (needed d w ≡ 1) (first_of p m s) t
                → (u : nonzero (opposite s) ≡ 1) (r : Reads (opposite s) w.rest) (y' : ℕ) (e : w.rest + minus_bit (opposite s) ≡ 4 * y' + plus_bit (opposite s))
                → (needed (opposite s) (past (opposite s) w) ≡ 1 → 1 ≤ of_side s w.above w.below → (copied ≡ true) × (needed d w ≡ 1))
                → Column s (passed_digit (suc p) m w.rest F.walked.passed h (opposite s) u y' e) (needed (opposite s) (past (opposite s) w) ≡ 1) (first_of p m s) (widened copied w t)
            other s v t l C u r y' e later =
                column_other s v (suc p) m w.rest F.walked.passed _ (first_of p m s) t C h _ w.forms w.above w.below F.walked.counts low (offset w) back
                copied (room t l) u y' e (met (opposite s) u r) later

            both : (f : Digit) (u : nonzero f ≡ 1) (r : Reads f w.rest) (s : Digit) → nonzero s ≡ 1
                → Column s (walked_past p m w F.walked h f r).passed (needed f (past f w) ≡ 1) (first_of p m s) (of_side s (widened copied w up') (widened copied w down'))
            both one u r one v = own one refl up' filled_room.0 (F.columns one v) r (w.rest / 4) r
            both one u r minus_one v = other minus_one v down' filled_room.1 (F.columns minus_one v) refl r (w.rest / 4) r (met_later one refl r)
            both minus_one u r one v = other one v up' filled_room.0 (F.columns one v) refl r (w.rest / 4 + 1) r (met_later minus_one refl r)
            both minus_one u r minus_one v = own minus_one refl down' filled_room.1 (F.columns minus_one v) r (w.rest / 4 + 1) r
            both nought u r s v = absurd (omega arith)
            both one u r nought v = absurd (omega arith)
            both minus_one u r nought v = absurd (omega arith)

    -- ---- the end
    front : w.rest ≡ 0 → (s : Digit) (u : nonzero s ≡ 1) (t : List ℕ) → Column s F.walked.passed (needed d w ≡ 1) (first_of p m s) t
        → take count t ≡ map (mask (bit_of s)) (listing p (pos m))
    front z s u t C =
        column_end p m hp hm s w.rest F.walked.passed z _ count (first_of p m s) t C refl (first_small p m hp s)
        (hc ∙ sym (walked_end p m w F.walked hm z) ∙ F.walked.counts.flat)

    pub filled_end : w.rest ≡ 0 → (up' ≡ map plus_mask (listing p (pos m)) ++ drop count up) × (down' ≡ map minus_mask (listing p (pos m)) ++ drop count down)
    filled_end z = (
      sym (take-append-drop count up') ∙ ap₂ (λ (x y : List ℕ). x ++ y) (front z one refl up' (F.columns one refl)) F.up_kept.rest,
      sym (take-append-drop count down') ∙ ap₂ (λ (x y : List ℕ). x ++ y) (front z minus_one refl down' (F.columns minus_one refl)) F.down_kept.rest,
    )
