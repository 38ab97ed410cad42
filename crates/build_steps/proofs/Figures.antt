-- The figures of specs/Figures.antt: `building_figures`. Networks are built by computation. Assumes nothing.
use mathlib.Core.Path.{◌≡◌, refl, sym, ap, ap₂, ◌∙◌, subst}
use mathlib.Core.Bool.{false, not, cond}
use mathlib.Core.List.{List, [], ◌∷◌, flat_map}
use Prim.Native.Nat.{ℕ, zero, suc, ◌+◌, ◌*◌, ◌-◌, ◌^◌, ◌≤◌, ◌<◌}
use native.Mathlib.Omega.{arith}
use borrow.Author.Tests.{lt-ltb}
use lib.Count.{count_trailing_zeros}
use lib.Dec.{ltb}
use lib.IntN.{pos}
use lib.ListN.{length, get_or, drop}
use Rattle.refusal.specs.Answer.{Answer, given, refused, at_place, filled, lowest_from}
use Rattle.sequence.specs.UpTo.{up_to}
use Rattle.sequence.specs.Count.{how_many}
use Rattle.signed_digit.specs.String.{DigitString}
use Rattle.signed_digit.specs.CanonicalForm.{canonical_nat}
use Rattle.signed_digit.specs.Forms.{listing}
use Rattle.signed_digit.proofs.Figures.{figures}
use Rattle.coefficient.specs.Parts.{parts_of, odd_part_of, shift_of}
use Rattle.network.specs.Rows.{Network, plus, minus, row_words, row_table, tap_words, tap_table, words_of_rows, words_of_tap_rows, first_row_of}
use Rattle.network.specs.Coefficients.{coefficient_of}
use Rattle.network.specs.Adders.{adders}
use Rattle.network.specs.Figures.{sheet_rows, sheet_tap_rows, sheet_coefficients}
use Rattle.network.proofs.Figures.{sheet_within}
use Rattle.build_steps.specs.Parts.{least_weight_of, comes_before, insert, insert_tap, taken_from, parts_to_build}
use Rattle.build_steps.specs.Search.{row_with, fit, or_else, first_over, row_over, tried, fit_at_shift, fit_at_left, first_fit_of}
use Rattle.build_steps.specs.Steps.{searched, looked_up, step, steps, built_rows}
use Rattle.build_steps.specs.TapRows.{tap_row_of, built}
use Rattle.build_steps.specs.Answer.{choices_of, no_such_form, missing_form, build_answer, row_count_of}
use Rattle.build_steps.specs.PartOrder.{PartsInOrder}
use Rattle.build_steps.specs.RowSteps.{FirstFit, Lawful}
use Rattle.build_steps.specs.CanBuild.{CanBuild}
use Rattle.build_steps.specs.Built.{BuiltInto}
use Rattle.build_steps.specs.Digits.{nonzero_digits}
use Rattle.build_steps.specs.Figures.{sheet_choices, row_then, sheet_network, part, BuildingFigures}
use Rattle.build_steps.proofs.PartsInOrder.{parts_in_order}
use Rattle.build_steps.proofs.FirstFit.{fit_is_first}
use Rattle.build_steps.proofs.Passes.{rows_built}
use Rattle.build_steps.proofs.Answers.{no_form_lem, not_short}
use Rattle.build_steps.proofs.BuiltTables.{can_give}

-- document 01's 3, -6, 45, 0
pub example : built sheet_coefficients sheet_choices ≡ sheet_network
unfolding built built_rows steps step looked_up searched taken_from insert_tap insert comes_before least_weight_of parts_of odd_part_of shift_of count_trailing_zeros row_with lowest_from first_fit_of fit_at_left fit_at_shift first_over or_else tried row_over up_to tap_row_of canonical_nat
example = refl

-- 53 is 4·17 - 15 and 121 - 4·17: `-` comes before `r`
pub minus_before_reversed : built_rows (pos 53 ∷ pos 121 ∷ pos 17 ∷ pos 15 ∷ []) sheet_choices
    ≡ first_row_of ∷ row_then 0 4 minus 0 15 (row_then 0 1 plus 1 17 (row_then 1 3 plus 0 121 (row_then 2 2 minus 1 53 [])))
unfolding built_rows steps step looked_up searched taken_from insert_tap insert comes_before least_weight_of parts_of odd_part_of shift_of count_trailing_zeros row_with lowest_from first_fit_of fit_at_left fit_at_shift first_over or_else tried row_over up_to canonical_nat
minus_before_reversed = refl

-- 11 is 4 + 7 and 15 - 4: `+` comes before `r`
pub plus_before_reversed : built_rows (pos 15 ∷ pos 11 ∷ pos 7 ∷ []) (0 ∷ 0 ∷ 0 ∷ []) ≡ first_row_of ∷ row_then 0 3 minus 0 7 (row_then 0 3 plus 1 15 (row_then 0 2 plus 1 11 []))
unfolding built_rows steps step looked_up searched taken_from insert_tap insert comes_before least_weight_of parts_of odd_part_of shift_of count_trailing_zeros row_with lowest_from first_fit_of fit_at_left fit_at_shift first_over or_else tried row_over up_to canonical_nat
plus_before_reversed = refl

-- 2^31 - 5 is 2^30·3 - (2^30 + 5): 2^s·left is above 2^31
pub above_2_to_31 : first_fit_of (first_row_of ∷ row_then 0 1 plus 0 3 (row_then 0 28 plus 0 (2 ^ 28 + 1) (row_then 2 2 plus 0 (2 ^ 30 + 5) []))) (2 ^ 31 - 5)
    ≡ fit (record { left = 1; right = 3; shift = 30; sign = minus; value = 2 ^ 31 - 5 })
unfolding lowest_from first_fit_of fit_at_left fit_at_shift first_over or_else tried row_over up_to
above_2_to_31 = refl

sheet_digits : nonzero_digits sheet_coefficients ≡ 2 + 2 + 4
unfolding nonzero_digits canonical_nat
sheet_digits = refl

nothing_shared : adders (built (pos 3 ∷ pos 1 ∷ []) (0 ∷ 0 ∷ [])) ≡ nonzero_digits (pos 3 ∷ pos 1 ∷ []) - 1
unfolding built built_rows steps step looked_up searched taken_from insert_tap insert comes_before least_weight_of parts_of odd_part_of shift_of count_trailing_zeros row_with lowest_from first_fit_of fit_at_left fit_at_shift first_over or_else tried row_over up_to tap_row_of canonical_nat coefficient_of how_many nonzero_digits
nothing_shared = refl

-- ---- what the claims take holds of the sheet's taps

listed : (v : ℕ) → 0 < length (listing 32 (pos v)) → not (ltb 0 (length (listing 32 (pos v)))) ≡ false
listed v h = ap not (lt-ltb 0 (length (listing 32 (pos v))) h)

of_3 : 0 < length (listing 32 (pos 3))
of_3 = omega (arith, ap length figures.of_3)

of_45 : 0 < length (listing 32 (pos 45))
of_45 = omega (arith, ap length figures.of_45)

forms : (i : ℕ) → i < length sheet_coefficients → no_such_form (parts_of (get_or sheet_coefficients i (pos 0))) (get_or sheet_choices i 0) ≡ false
unfolding no_such_form parts_of odd_part_of shift_of count_trailing_zeros
forms zero h = listed 3 of_3
forms (suc zero) h = listed 3 of_3
forms (suc (suc zero)) h = listed 45 of_45
forms (suc (suc (suc zero))) h = refl
forms (suc (suc (suc (suc i)))) h = absurd (omega arith)

can_build : CanBuild sheet_coefficients sheet_choices
can_build = record { few = omega arith; enough = omega arith; bounds = sheet_within; forms = forms }

parts_are : parts_to_build sheet_coefficients sheet_choices ≡ part 3 ∷ part 45 ∷ []
unfolding taken_from insert_tap insert comes_before least_weight_of parts_of odd_part_of shift_of count_trailing_zeros canonical_nat
parts_are = refl

lawful : Lawful sheet_network.rows
unfolding built
lawful = subst Lawful (ap (λ (net : Network). net.rows) example) (rows_built sheet_coefficients sheet_choices can_build).lawful

first_fit_lem : FirstFit (first_row_of ∷ []) 3 (record { left = 0; right = 0; shift = 1; sign = plus; value = 3 })
unfolding lowest_from first_fit_of fit_at_left fit_at_shift first_over or_else tried row_over up_to
first_fit_lem = fit_is_first (first_row_of ∷ []) 3 refl (omega arith) (record { left = 0; right = 0; shift = 1; sign = plus; value = 3 }) refl

into : (rows taps : List ℕ) → row_table ≤ length rows → tap_table ≤ length taps
    → BuiltInto sheet_coefficients sheet_choices rows taps (given 3) (sheet_rows (drop (3 * row_words) rows)) (sheet_tap_rows (drop (4 * tap_words) taps))
unfolding flat_map
into rows taps r t =
    let e = can_give sheet_coefficients sheet_choices rows taps (record { some = omega arith; can_build = can_build; rows_long = r; taps_long = t }) in
    record {
      answer = sym (ap row_count_of e ∙ ap (λ (net : Network). given (length net.rows)) example);
      rows_left = sym (ap₂ (λ (a : Answer Network) (net : Network). filled a (words_of_rows net.rows) rows) e example);
      taps_left = sym (ap₂ (λ (a : Answer Network) (net : Network). filled a (words_of_tap_rows net.taps) taps) e example);
    }

missing : missing_form (pos 3 ∷ pos 3 ∷ pos 0 ∷ []) (0 ∷ 2 ∷ 1 ∷ []) ≡ at_place 1
unfolding lowest_from choices_of no_such_form parts_of odd_part_of shift_of count_trailing_zeros
missing = ap (λ (forms : List DigitString). cond (not (ltb 0 (length forms))) (at_place 0) (cond (not (ltb 2 (length forms))) (at_place 1) (at_place 2))) figures.of_3

no_third_form : (rows taps : List ℕ) → row_table ≤ length rows → tap_table ≤ length taps
    → BuiltInto (pos 3 ∷ pos 3 ∷ pos 0 ∷ []) (0 ∷ 2 ∷ 1 ∷ []) rows taps (refused 9 1) rows taps
no_third_form rows taps r t =
    let cs = pos 3 ∷ pos 3 ∷ pos 0 ∷ [] in
    let ks : List ℕ = 0 ∷ 2 ∷ 1 ∷ [] in
    let e = no_form_lem cs ks rows taps (omega arith) (omega arith) 1 (not_short cs ks rows taps (omega arith) r t) missing in
    record {
      answer = sym (ap row_count_of e);
      rows_left = sym (ap (λ (a : Answer Network). filled a (words_of_rows (built cs ks).rows) rows) e);
      taps_left = sym (ap (λ (a : Answer Network). filled a (words_of_tap_rows (built cs ks).taps) taps) e);
    }

no_taps : (rows taps : List ℕ) → BuiltInto [] [] rows taps (refused 1 0) rows taps
unfolding build_answer
no_taps rows taps = record { answer = refl; rows_left = refl; taps_left = refl }

pub building_figures : BuildingFigures
building_figures = record {
  sheet_network_lem = example;
  minus_before_reversed = minus_before_reversed;
  plus_before_reversed = plus_before_reversed;
  above_2_to_31 = above_2_to_31;
  sheet_digits = sheet_digits;
  nothing_shared = nothing_shared;
  sheet_can_build = can_build;
  sheet_parts = subst (PartsInOrder sheet_coefficients sheet_choices) parts_are (parts_in_order sheet_coefficients sheet_choices (omega arith));
  sheet_buildable = record { odd = refl; below = omega arith; choice = of_45 };
  sheet_lawful = lawful;
  sheet_first_fit = first_fit_lem;
  sheet_into = into;
  no_third_form = no_third_form;
  no_taps = no_taps;
}
