-- The walk of `form_count`: it counts the forms of the magnitude of n, which are as many as those of n. Assumes nothing.
use mathlib.Core.Path.{◌≡◌, refl, ap, sym, ◌∙◌, subst}
use mathlib.Core.Logic.{◌≢◌}
use Prim.Native.Nat.{ℕ, ◌*◌, ◌≤◌, ◌<◌, ◌^◌}
use native.Mathlib.Nat.{div-le_self}
use native.Mathlib.Omega.{arith}
use lib.Count.{count_trailing_zeros}
use lib.IntN.{ℤ, pos, nat_abs}
use lib.ListN.{length}
use Rattle.signed_digit.specs.Digit.{Digit, nought, nonzero}
use Rattle.signed_digit.specs.CanonicalForm.{canonical_nat, canonical}
use Rattle.signed_digit.specs.Forms.{listing}
use Rattle.signed_digit.proofs.Coefficients.{canonical_32}
use Rattle.form_masks.specs.declared.Form.{Form}
use Rattle.form_masks.specs.Form.{form_of}
use Rattle.form_links.proofs.Lists.{listing_length}
use Rattle.form_links.proofs.Spots.{Spot, Walked, Reads, past, walked_start, walked_past, walked_end}
use Rattle.form_links.proofs.Spots as Spots
use Rattle.form_links.proofs.Needed.{Sided, sided_past, needed}
use Rattle.form_walk.specs.declared.Walk.{Walk}
use Rattle.form_walk.specs.Inner.{IsStart, start_of, skip_of, next_of}
use Rattle.form_walk.proofs.Parts.{start_same}
use Rattle.form_walk.proofs.Stands.{At, AtLink, stands_start, at_end_lem, digit, digit_read, some_left, stands_next}

module _ (m : ℕ) where
  abbrev pub OnWay : Digit → Spot → Type 0
  OnWay d s = Walked 32 m s × Sided d s

  pub itself : (d : Digit) (s : Spot) → OnWay d s → Walked 32 m s × Sided d s
  itself d s o = o

  pub over_nought : (d : Digit) (s : Spot) → OnWay d s → 1 ≤ s.rest → Reads nought s.rest → OnWay nought (past nought s)
  over_nought d s o h r = (walked_past 32 m s o.0 h nought r, sided_past nought s)

  pub over_digit : (d : Digit) (s : Spot) → OnWay d s → 1 ≤ s.rest → (f : Digit) → nonzero f ≡ 1 → Reads f s.rest → needed d s ≡ 0 → OnWay f (past f s)
  over_digit d s o h f u r n = (walked_past 32 m s o.0 h f r, sided_past f s)

  abbrev pub Counting : Walk → Type 0
  Counting w = At m OnWay itself over_nought over_digit w

  abbrev pub CountingLink : Walk → Type 0
  CountingLink w = AtLink m OnWay itself over_nought over_digit w

  pub counting_start : 3 * m ≤ 2 * 2 ^ 32 → Counting (start_of (canonical_nat 32 m))
  counting_start h = record {
    last = nought;
    spot = Spots.start_of 32 m;
    known = (walked_start 32 m h, (refl, refl));
    stands = stands_start m h;
  }

  pub counting_next : (w u : Walk) → CountingLink w → u ≡ next_of w → Counting u
  counting_next w u A e =
      let o = A.known in
      let f = digit m OnWay itself over_nought over_digit w A in
      let r = digit_read m OnWay itself over_nought over_digit w A in
      record {
        last = f;
        spot = past f A.spot;
        known = (walked_past 32 m A.spot o.0 (some_left m OnWay itself over_nought over_digit w A) f r, sided_past f A.spot);
        stands = stands_next m OnWay itself over_nought over_digit w A u e;
      }

  pub counting_end : 3 * m ≤ 2 * 2 ^ 32 → (w : Walk) → Counting w → w.links ≡ 0 → w.forms ≡ length (listing 32 (pos m))
  counting_end h w A z =
      let e = at_end_lem m OnWay itself over_nought over_digit w A z in
      e.forms ∙ walked_end 32 m e.spot e.known.0 h e.none_left

-- ---- by the number n itself
module _ (n : ℤ) (bounded : nat_abs n ≤ 2 ^ 31) where
  pub small_enough : 3 * nat_abs n ≤ 2 * 2 ^ 32
  small_enough = omega arith

  -- the walk that `start` gives for the canonical form of n
  pub started : (form : Form) → form ≡ form_of (canonical 32 n) → (w : Walk) → IsStart form w → w ≡ start_of (canonical_nat 32 (nat_abs n))
  started form e w i = i (canonical 32 n) (canonical_32 n bounded).places e ∙ start_same n

  pub count_start : (form : Form) → form ≡ form_of (canonical 32 n) → (w : Walk) → IsStart form w → Counting (nat_abs n) w
  count_start form e w i = subst (Counting (nat_abs n)) (sym (started form e w i)) (counting_start (nat_abs n) small_enough)

  pub count_end : (w : Walk) → Counting (nat_abs n) w → w.links ≡ 0 → w.forms ≡ length (listing 32 n)
  count_end w A z = counting_end (nat_abs n) small_enough w A z ∙ listing_length 32 n

-- from link to link fewer are left
pub fewer : (w v u : Walk) → w.links ≢ 0 → v ≡ skip_of w → u ≡ next_of v → u.links < w.links
fewer w v u h e f =
    omega (arith, ap (λ (x : Walk). x.links) e, ap (λ (x : Walk). x.links) f, div-le_self w.links (2 ^ count_trailing_zeros 64 w.links))
