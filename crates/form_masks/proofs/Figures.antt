-- The figures of specs/Figures.antt, proved. Assumes nothing.
use mathlib.Core.Path.{◌≡◌, refl}
use mathlib.Core.Bool.{false, ◌&&◌}
use Prim.Native.Nat.{ℕ, zero, suc, ◌<◌}
use native.Mathlib.Omega.{arith}
use Rattle.refusal.specs.Answer.{lowest_from}
use Rattle.signed_digit.specs.Value.{value}
use Rattle.signed_digit.specs.Masks.{holds}
use Rattle.signed_digit.specs.CanonicalForm.{canonical_nat}
use Rattle.form_masks.specs.Form.{string_of, overlap_in}
use Rattle.form_masks.specs.Value.{value_of}
use Rattle.form_masks.specs.Weight.{weight_of}
use Rattle.form_masks.specs.Figures.{FormMaskFigures}

none_below_2 : (k : ℕ) → k < 2 → (holds 21 k && holds 20 k) ≡ false
none_below_2 zero h = refl
none_below_2 (suc zero) h = refl
none_below_2 (suc (suc k)) h = absurd (omega arith)

pub form_mask_figures : FormMaskFigures
unfolding value_of weight_of string_of overlap_in lowest_from value canonical_nat
form_mask_figures =
    record {
      masks_45 = record { plus_32 = omega arith; minus_32 = omega arith; no_place_in_both = refl };
      value_45 = record { valued = refl };
      weight_45 = record { weighed = refl };
      place_2 = record { within = omega arith; in_both = refl; none_lower = none_below_2 };
      overlapping = record { valued = refl };
      canonical_45 = record { masks = refl };
      canonical_least = record { masks = refl };
    }
