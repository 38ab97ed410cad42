-- The claims of specs/Claims.antt, proved. Assumes nothing.
use mathlib.Core.Path.{◌≡◌, sym, ap, ◌∙◌, subst}
use Prim.Native.Nat.{ℕ, ◌+◌, ◌^◌}
use native.Mathlib.Omega.{arith}
use lib.Count.{ones}
use lib.IntN.{ℤ, pos, ◌-ℤ◌}
use lib.ListN.{length}
use Rattle.word.specs.Bounds.{Coefficient}
use Rattle.word.proofs.Bounds.{coefficient_magnitude}
use Rattle.refusal.specs.Answer.{Answer, given, refused, refuse_at, Place}
use Rattle.signed_digit.specs.String.{DigitString}
use Rattle.signed_digit.specs.Value.{value}
use Rattle.signed_digit.specs.Weight.{weight}
use Rattle.signed_digit.specs.Same.{Same}
use Rattle.signed_digit.specs.Minimal.{Minimal}
use Rattle.signed_digit.specs.Canonical.{Canonical}
use Rattle.signed_digit.specs.CanonicalForm.{canonical}
use Rattle.signed_digit.proofs.Strings.{small}
use Rattle.signed_digit.proofs.Masks.{masks_disjoint}
use Rattle.signed_digit.proofs.Coefficients.{canonical_32}
use Rattle.form_masks.specs.declared.Form.{Form}
use Rattle.form_masks.specs.Form.{form_of, string_of, TwoMasks, LowestOverlap}
use Rattle.form_masks.specs.Value.{value_of, FormValued}
use Rattle.form_masks.specs.Weight.{weight_of, FormWeighed}
use Rattle.form_masks.specs.Claims.{CanonicalOf, FormMaskClaims}
use Rattle.form_masks.proofs.Overlap.{overlap_lowest}
use Rattle.form_masks.proofs.Forms.{disjoint, form_string, string_value, string_weight, string_form, form_value, form_weight}
use Rattle.form_masks.proofs.Figures.{form_mask_figures}

module _ (form : Form) (m : TwoMasks form) where
  masks_valued : (answer : Answer ℤ) → FormValued form answer → answer ≡ given (pos form.plus -ℤ pos form.minus)
  unfolding value_of
  masks_valued answer v =
      v.valued
      ∙ sym (disjoint form.plus form.minus (given (value (string_of form))) m.no_place_in_both)
      ∙ ap given (string_value form m.plus_32 m.minus_32 m.no_place_in_both)

  masks_weighed : (answer : Answer ℕ) → FormWeighed form answer → answer ≡ given (ones form.plus + ones form.minus)
  unfolding weight_of
  masks_weighed answer w =
      w.weighed
      ∙ sym (disjoint form.plus form.minus (given (weight (string_of form))) m.no_place_in_both)
      ∙ ap given (string_weight form m.plus_32 m.minus_32 m.no_place_in_both)

-- ---- masks that overlap
module _ (form : Form) (place : ℕ) (o : LowestOverlap form place) where
  value_refused : (answer : Answer ℤ) → FormValued form answer → answer ≡ refused 8 place
  unfolding value_of
  value_refused answer v = v.valued ∙ ap (λ (p : Place). refuse_at p 8 (given (value (string_of form)))) (overlap_lowest form.plus form.minus 32 place o.within o.in_both o.none_lower)

  weight_refused : (answer : Answer ℕ) → FormWeighed form answer → answer ≡ refused 8 place
  unfolding weight_of
  weight_refused answer w = w.weighed ∙ ap (λ (p : Place). refuse_at p 8 (given (weight (string_of form)))) (overlap_lowest form.plus form.minus 32 place o.within o.in_both o.none_lower)

-- ---- the canonical form
two_masks : (s : DigitString) → length s ≡ 32 → TwoMasks (form_of s)
two_masks s l =
    let h = ap (λ (p : ℕ). 2 ^ p) l in
    record { plus_32 = omega (arith, small s); minus_32 = omega (arith, small s); no_place_in_both = masks_disjoint s }

canonical_form : (n : ℤ) → Coefficient n → CanonicalOf n (form_of (canonical 32 n))
canonical_form n c =
    let k = canonical_32 n (coefficient_magnitude n c) in
    let e = sym (string_form (canonical 32 n) k.places) in
    record {
      two_masks = two_masks (canonical 32 n) k.places;
      is_canonical = subst Canonical e k.is_canonical;
      minimal = subst (Minimal n) e k.minimal;
      only = λ s h v. subst (Same s) e (k.only s h v);
      read_back = λ answer v. v.valued ∙ form_value (canonical 32 n) k.places ∙ ap given k.minimal.has_value;
      weighs = λ answer w. w.weighed ∙ form_weight (canonical 32 n) k.places ∙ ap (λ (s : DigitString). given (weight s)) e;
    }

pub form_mask_claims : FormMaskClaims
form_mask_claims = record {
  string_form = string_form;
  form_string = λ form m. form_string form m.plus_32 m.minus_32 m.no_place_in_both;
  masks_valued = masks_valued;
  string_valued = λ s l answer v. v.valued ∙ form_value s l;
  masks_weighed = masks_weighed;
  string_weighed = λ s l answer w. w.weighed ∙ form_weight s l;
  value_refused = value_refused;
  weight_refused = weight_refused;
  canonical_of = λ n c form f. subst (CanonicalOf n) (sym f.masks) (canonical_form n c);
  worked_forms = form_mask_figures;
}
