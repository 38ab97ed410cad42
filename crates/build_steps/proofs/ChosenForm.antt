-- The form that is chosen for an odd part: a minimal string of it over 32 places, of weight at most 16, whose chain ends at the odd part.
-- Assumes nothing.
use mathlib.Core.Path.{◌≡◌}
use mathlib.Core.List.{[], reverse}
use Prim.Native.Nat.{ℕ, ◌%◌, ◌^◌, ◌≤◌, ◌<◌}
use native.Mathlib.Omega.{arith}
use lib.IntN.{pos}
use lib.ListN.{length, get_or}
use Rattle.sequence.proofs.Members.{member}
use Rattle.signed_digit.specs.String.{DigitString}
use Rattle.signed_digit.specs.Weight.{weight}
use Rattle.signed_digit.specs.Minimal.{Minimal}
use Rattle.signed_digit.specs.CanonicalForm.{canonical}
use Rattle.signed_digit.specs.Forms.{listing}
use Rattle.signed_digit.proofs.Value.{value_eq}
use Rattle.signed_digit.proofs.Listing.{listing_is}
use Rattle.signed_digit.proofs.Coefficients.{canonical_32, weight_32}
use Rattle.build_steps.specs.Parts.{least_weight_of}
use Rattle.build_steps.specs.Chain.{chosen_form_of, chain_end}
use Rattle.build_steps.specs.CanBuild.{Chosen}
use Rattle.build_steps.proofs.ChainValue.{chain_ends, leading_one, weight_reverse}

-- ---- "by least weight": no string of the value is lighter
pub least_weight_lem : (v : ℕ) → v ≤ 2 ^ 31 → (s : DigitString) → Minimal (pos v) s → weight s ≡ least_weight_of v
unfolding least_weight_of
least_weight_lem v h s m =
    let c = (canonical_32 (pos v) h).minimal in
    omega (arith, m.least (canonical 32 (pos v)) c.has_value, c.least s m.has_value)

-- ---- the chosen form
pub chosen_form_lem : (v choice : ℕ) → v < 2 ^ 31 → choice < length (listing 32 (pos v)) → Chosen v (chosen_form_of v choice)
unfolding chosen_form_of
chosen_form_lem v choice h l =
    let form : DigitString = get_or (listing 32 (pos v)) choice [] in
    let m = member [] (listing 32 (pos v)) choice l in
    let o = (listing_is 32 (pos v)).only form m in
    let w : weight form ≤ 16 = omega (arith, weight_32 (pos v) (omega arith), o.1.least (canonical 32 (pos v)) (canonical_32 (pos v) (omega arith)).minimal.has_value) in
    let end : v % 2 ≡ 1 → chain_end (reverse form) ≡ v = λ odd. chain_ends v form odd (omega (arith, (value_eq form (pos v)).0 o.1.has_value)) in
    record {
      listed = m;
      minimal = o.1;
      places = o.0;
      light = w;
      ends = end;
      leads = λ odd. leading_one (reverse form) (omega (arith, end odd));
      light_down = omega (arith, weight_reverse form);
    }
