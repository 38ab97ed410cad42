-- The coefficients of a set of taps that is accepted are 1 to 256, each within the bounds. Assumes nothing.
use borrow.Author.Tests.{ltb-false, eqb-false, not-false}
use mathlib.Core.Path.{◌≡◌, refl, sym, ap, subst, ◌∙◌}
use mathlib.Core.Bool.{false, not, ◌&&◌}
use mathlib.Core.List.{List}
use Prim.Native.Nat.{ℕ, ◌*◌, ◌^◌}
use native.Mathlib.Nat.{pos_of_ne-zero}
use native.Mathlib.Omega.{arith}
use lib.Dec.{eqb, ltb}
use lib.Ieee.{Float, nan, inf, fin, up, down}
use lib.IntN.{pos}
use lib.ListN.{length, get_or, get_or-map, length-map}
use Rattle.refusal.specs.Answer.{given, lowest}
use Rattle.refusal.proofs.Checks.{given_if, given_at, lowest_none_at}
use Rattle.word.specs.Bounds.{Coefficient, within_bounds}
use Rattle.word.proofs.Bounds.{bounds_within}
use Rattle.tap.specs.Rounding.{finite, signed, size_of, outside, result_of, whole_of}
use Rattle.tap.proofs.Theorems.{whole_is}
use Rattle.tap_normalise.specs.Normalised.{infinite, divisor_of}
use Rattle.tap_set.specs.declared.Report.{Report}
use Rattle.tap_set.proofs.Rounds.{whole, none_whole}
use Rattle.tap_set.specs.Set.{bounded, report_of, rounded_taps, coefficients_of}
use Rattle.sheet_text.specs.Inner.{Coefficients}

-- ---- one tap
whole_within : (F : ℕ) (x : Float) → outside F x ≡ false → Coefficient (whole_of (result_of F x))
unfolding result_of outside
whole_within F nan h = bounds_within (pos 0) refl
whole_within F (inf s) h = bounds_within (pos 0) refl
whole_within F (fin s m e) h =
    let n = size_of F (fin s m e) in
    subst Coefficient (sym (whole_is s (m * up e * 2 ^ F) (down e) n)) (bounds_within (signed s n) (not-false (within_bounds (signed s n)) h))

-- ---- a set
whole_at : (F : ℕ) (taps : List Float) (i : ℕ) → get_or (coefficients_of F taps) i (pos 0) ≡ whole F (get_or taps i nan)
whole_at F taps i = ap (get_or (coefficients_of F taps) i) (sym (none_whole F)) ∙ get_or-map (whole F) taps i nan

pub accepted_coefficients : (F : ℕ) (taps : List Float) (room : ℕ) (r : Report) → rounded_taps F false taps room ≡ given r → Coefficients (coefficients_of F taps)
unfolding rounded_taps bounded
accepted_coefficients F taps room r h =
    let c1 = given_if (eqb (length taps) 0) 1 _ r h in
    let c2 = given_if (ltb 256 (length taps)) 2 _ r c1.1 in
    let c3 = given_if (ltb room (length taps)) 3 _ r c2.1 in
    let c4 = given_if (ltb 31 F) 4 _ r c3.1 in
    let c5 = given_at (lowest (λ (x : Float). not (finite x)) taps) 5 _ r c4.1 in
    let c7 = given_at (lowest (λ (q : Float). false && infinite q) taps) 7 (bounded F (divisor_of false taps) taps) r c5.1 in
    let c6 = given_at (lowest (outside F) taps) 6 (given (report_of F (divisor_of false taps) taps)) r c7.1 in
    let l = length-map taps (whole F) in
    record {
      some = omega (arith, l, pos_of_ne-zero (eqb-false (length taps) 0 c1.0));
      few = omega (arith, l, ltb-false 256 (length taps) c2.0);
      bounds = λ i b. subst Coefficient (sym (whole_at F taps i)) (whole_within F (get_or taps i nan) (lowest_none_at nan (outside F) 0 taps i c6.0 (omega (arith, l))));
    }
