-- The claims of specs/Claims.antt, proved.
use Rattle.word.proofs.Bounds.{coefficient_magnitude}
use Rattle.signed_digit.specs.Claims.{DigitClaims}
use Rattle.signed_digit.proofs.Same.{same_digits, digits_same}
use Rattle.signed_digit.proofs.Masks.{masks_bits, masks_disjoint, masks_string, masks_weight, from_masks_plus, from_masks_minus}
use Rattle.signed_digit.proofs.Value.{value_masks}
use Rattle.signed_digit.proofs.Order.{never_opposite, comparable}
use Rattle.signed_digit.proofs.Listing.{listing_is, listing_unique, listing_first, canonical_form}
use Rattle.signed_digit.proofs.Coefficients.{canonical_32, bound_32, at_most_1597}
use Rattle.signed_digit.proofs.Demand.{listing_complete}
use Rattle.signed_digit.proofs.Written.{minimal_forms_written, minimal_forms_refused, form_count_held}
use Rattle.signed_digit.proofs.Reduction.{reduction, reduction_only, zero_irreducible}

pub digit_claims : DigitClaims
digit_claims = record {
  same_digits = λ s t. (same_digits s t, digits_same s t);
  masks_bits = masks_bits;
  masks_disjoint = masks_disjoint;
  masks_string = masks_string;
  string_masks = λ p x y h k e. (from_masks_plus p x y h, from_masks_minus p x y k e);
  value_masks = value_masks;
  masks_weight = masks_weight;
  canonical_form = canonical_form;
  canonical_32 = λ n c. canonical_32 n (coefficient_magnitude n c);
  listing_is = listing_is;
  listing_unique = listing_unique;
  listing_complete = listing_complete;
  never_opposite = never_opposite;
  comparable = comparable;
  listing_first = listing_first;
  bound = λ n c. bound_32 n (coefficient_magnitude n c);
  at_most_1597 = λ n c. at_most_1597 n (coefficient_magnitude n c);
  minimal_forms_written = minimal_forms_written;
  minimal_forms_refused = minimal_forms_refused;
  form_count_held = form_count_held;
  reduction = reduction;
  reduction_only = reduction_only;
  zero_irreducible = zero_irreducible;
}
