-- What a refusal of building means: `built_refusals`. Assumes nothing.
use mathlib.Core.Path.{◌≡◌, sym, ap, ◌∙◌}
use mathlib.Core.Bool.{Bool, true, false, not, ◌||◌}
use mathlib.Core.List.{List}
use Prim.Native.Nat.{ℕ, ◌≤◌, ◌<◌}
use native.Mathlib.Nat.{pos_of_ne-zero}
use native.Mathlib.Omega.{arith}
use borrow.Author.Tests.{eqb-true, eqb-false, ltb-true, ltb-false, eq-eqb, lt-ltb, not-false}
use lib.Dec.{eqb, ltb}
use lib.IntN.{ℤ, pos}
use lib.ListN.{length, get_or}
use Rattle.refusal.specs.Answer.{Answer, given, refused, at_place}
use Rattle.refusal.proofs.Checks.{given_refused, neither, either, refused_if, refused_at}
use Rattle.refusal.proofs.Lowest.{lowest_is}
use Rattle.signed_digit.specs.Forms.{listing}
use Rattle.coefficient.specs.Parts.{Parts, no_odd_part, parts, parts_of}
use Rattle.network.specs.Rows.{Network, row_table, tap_table}
use Rattle.network.specs.Check.{short_tables}
use Rattle.network.specs.Claims.{UnderLength, rows_short, taps_short, another_short, TablesFit}
use Rattle.network.proofs.Refusals.{not_both}
use Rattle.build_steps.specs.Answer.{Choice, choices_of, no_such_form, missing_form, build_answer, row_count_of}
use Rattle.build_steps.specs.CanBuild.{Listed}
use Rattle.build_steps.specs.Claims.{LowestChoice, few_choices, BuildRefusals, no_coefficients, too_many_coefficients, table_short, no_such_form_lem}
use Rattle.build_steps.proofs.Answers.{length_choices, choice_at}

-- a choice that is listed is one of the forms, and no other is
pub has_form : (p : Parts) (choice : ℕ) → Listed p choice → no_such_form p choice ≡ false
unfolding no_such_form
has_form no_odd_part choice l = ap not (eq-eqb choice 0 l)
has_form (parts sign odd_part shift) choice l = ap not (lt-ltb choice (length (listing 32 (pos odd_part))) l)

is_listed : (p : Parts) (choice : ℕ) → no_such_form p choice ≡ false → Listed p choice
unfolding no_such_form
is_listed no_odd_part choice e = eqb-true choice 0 (not-false _ e)
is_listed (parts sign odd_part shift) choice e = ltb-true choice (length (listing 32 (pos odd_part))) (not-false _ e)

module _ (cs : List ℤ) (ks rows taps : List ℕ) where
  lowest_choice : (k : ℕ) → length cs ≤ length ks → missing_form cs ks ≡ at_place k → LowestChoice cs ks k
  lowest_choice k l e =
      let none : Choice = record { tap = parts_of (pos 0); number = 0 } in
      let breaks : Choice → Bool = λ (c : Choice). no_such_form c.tap c.number in
      let w = lowest_is none breaks (choices_of cs ks) k e in
      let h : k < length cs = omega (arith, w.within, length_choices cs ks l) in
      record {
        within = h;
        unlisted = λ q. not_both _ (ap breaks (sym (choice_at none cs ks k l h)) ∙ w.holds) (has_form (parts_of (get_or cs k (pos 0))) (get_or ks k 0) q);
        listed = λ i m. is_listed (parts_of (get_or cs i (pos 0))) (get_or ks i 0) (ap breaks (sym (choice_at none cs ks i l (omega arith))) ∙ w.not_before i m);
      }

  under_length : (few_choices cs ks || short_tables rows taps) ≡ true → UnderLength (few_choices cs ks) rows taps
  under_length e =
      either (few_choices cs ks) (short_tables rows taps) e another_short
      (λ f. either (ltb (length rows) row_table) (ltb (length taps) tap_table) f (λ r. rows_short (ltb-true _ _ r)) (λ t. taps_short (ltb-true _ _ t)))

  tables_fit : 1 ≤ length cs → length cs ≤ 256 → (few_choices cs ks || short_tables rows taps) ≡ false → TablesFit (few_choices cs ks) rows taps (length cs)
  tables_fit from to e =
      let s = neither (few_choices cs ks) (short_tables rows taps) e in
      let t = neither (ltb (length rows) row_table) (ltb (length taps) tap_table) s.1 in
      record { taps_from = from; taps_to = to; rows_long = ltb-false _ _ t.0; taps_long = ltb-false _ _ t.1; others_long = s.0 }

  module _ (number place : ℕ) where
    meant : build_answer cs ks rows taps ≡ refused number place → BuildRefusals cs ks rows taps number place
    unfolding build_answer
    meant e =
        refused_if (eqb (length cs) 0) 1 _ number place e
        (λ b q p. no_coefficients q p (eqb-true _ _ b))
        (λ b e.
        let from = pos_of_ne-zero (eqb-false _ _ b) in
        refused_if (ltb 256 (length cs)) 2 _ number place e
        (λ b q p. too_many_coefficients q p (ltb-true _ _ b))
        (λ b e.
        let to = ltb-false 256 (length cs) b in
        refused_if (few_choices cs ks || short_tables rows taps) 3 _ number place e
        (λ b q p. table_short q p from to (under_length b))
        (λ b e.
        let fits = tables_fit from to b in
        refused_at (missing_form cs ks) 9 _ number place e
        (λ w q. no_such_form_lem q fits (lowest_choice place (ltb-false (length ks) (length cs) fits.others_long) w))
        (λ w e. given_refused _ number place e))))

    pub built_refusals : refused number place ≡ row_count_of (build_answer cs ks rows taps) → BuildRefusals cs ks rows taps number place
    built_refusals e = meant (same (build_answer cs ks rows taps) e)
      where
        same : (a : Answer Network) → refused number place ≡ row_count_of a → a ≡ refused number place
        same (given net) e = absurd (let z : ◌≡◌ {A = ℕ} 0 1 = cc in omega arith)
        same (refused n p) e = cc
