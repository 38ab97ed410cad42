-- What building answers, case by case in the table's order, for an entry's proof; and what an answer that is given tells. Assumes nothing.
use mathlib.Core.Path.{◌≡◌, refl, sym, ap, ◌∙◌}
use mathlib.Core.Bool.{Bool, true, false, ◌||◌}
use mathlib.Core.List.{List, [], ◌∷◌}
use Prim.Native.Nat.{ℕ, zero, suc, ◌≤◌, ◌<◌}
use native.Mathlib.Nat.{not-suc-le-zero, le_of_suc-le-suc, pos_of_ne-zero}
use native.Mathlib.Omega.{arith}
use borrow.Author.Tests.{eq-eqb, ne_eqb, lt-ltb, le-ltb, eqb-false, ltb-false}
use lib.Dec.{eqb, ltb}
use lib.IntN.{ℤ, pos}
use lib.ListN.{length, get_or}
use Rattle.word.specs.Bounds.{Coefficient}
use Rattle.refusal.specs.Answer.{given, refused, refuse_if, refuse_at, Place, nowhere, at_place}
use Rattle.refusal.proofs.Checks.{given_same, neither, check_applies, check_passes, given_if, given_at, lowest_none_at}
use Rattle.refusal.proofs.Lowest.{is_nowhere}
use Rattle.coefficient.specs.Parts.{parts_of}
use Rattle.network.specs.Rows.{Network, row_table, tap_table}
use Rattle.network.specs.Check.{short_tables}
use Rattle.build_steps.specs.TapRows.{built}
use Rattle.build_steps.specs.Answer.{Choice, choices_of, no_such_form, build_answer, missing_form}
use Rattle.build_steps.specs.CanBuild.{CanBuild}

-- ---- the taps with their choices, by number
pub length_choices : (cs : List ℤ) (ks : List ℕ) → length cs ≤ length ks → length (choices_of cs ks) ≡ length cs
unfolding choices_of
length_choices [] ks l = refl
length_choices (n ∷ cs) [] l = absurd (not-suc-le-zero l)
length_choices (n ∷ cs) (k ∷ ks) l = ap suc (length_choices cs ks (le_of_suc-le-suc l))

pub choice_at : (c : Choice) (cs : List ℤ) (ks : List ℕ) (i : ℕ) → length cs ≤ length ks → i < length cs
    → get_or (choices_of cs ks) i c ≡ record { tap = parts_of (get_or cs i (pos 0)); number = get_or ks i 0 }
unfolding choices_of
choice_at c [] ks i l h = absurd (not-suc-le-zero h)
choice_at c (n ∷ cs) [] i l h = absurd (not-suc-le-zero l)
choice_at c (n ∷ cs) (k ∷ ks) zero l h = refl
choice_at c (n ∷ cs) (k ∷ ks) (suc i) l h = choice_at c cs ks i (le_of_suc-le-suc l) (le_of_suc-le-suc h)

module _ (cs : List ℤ) (ks : List ℕ) (l : length cs ≤ length ks) where
  none_chosen : Choice
  none_chosen = record { tap = parts_of (pos 0); number = 0 }

  pub forms_exist : missing_form cs ks ≡ nowhere → (i : ℕ) → i < length cs → no_such_form (parts_of (get_or cs i (pos 0))) (get_or ks i 0) ≡ false
  forms_exist e i h =
      ap (λ (c : Choice). no_such_form c.tap c.number) (sym (choice_at none_chosen cs ks i l h))
      ∙ lowest_none_at none_chosen (λ (c : Choice). no_such_form c.tap c.number) 0 (choices_of cs ks) i e (omega (arith, length_choices cs ks l))

  pub exist_forms : ((i : ℕ) → i < length cs → no_such_form (parts_of (get_or cs i (pos 0))) (get_or ks i 0) ≡ false) → missing_form cs ks ≡ nowhere
  exist_forms f =
      is_nowhere none_chosen (λ (c : Choice). no_such_form c.tap c.number) (choices_of cs ks) 0
      (λ i h.
      let b : i < length cs = omega (arith, length_choices cs ks l) in
      ap (λ (c : Choice). no_such_form c.tap c.number) (choice_at none_chosen cs ks i l b) ∙ f i b)

-- ---- the answer, check by check
module _ (cs : List ℤ) (ks rows taps : List ℕ) where
  -- check 3
  abbrev pub short : Bool
  short = ltb (length ks) (length cs) || short_tables rows taps

  answer_is : build_answer cs ks rows taps
      ≡ refuse_if (eqb (length cs) 0) 1 (refuse_if (ltb 256 (length cs)) 2 (refuse_if short 3 (refuse_at (missing_form cs ks) 9 (given (built cs ks)))))
  unfolding build_answer
  answer_is = refl

  pub no_taps : length cs ≡ 0 → build_answer cs ks rows taps ≡ refused 1 0
  no_taps e = answer_is ∙ check_applies (eqb (length cs) 0) 1 _ (eq-eqb (length cs) 0 e)

  -- from here on there are taps
  some_taps : (length cs ≡ 0 → ⊥) → build_answer cs ks rows taps ≡ refuse_if (ltb 256 (length cs)) 2 (refuse_if short 3 (refuse_at (missing_form cs ks) 9 (given (built cs ks))))
  some_taps n = answer_is ∙ check_passes (eqb (length cs) 0) 1 _ (ne_eqb (length cs) 0 n)

  pub too_many : 256 < length cs → build_answer cs ks rows taps ≡ refused 2 0
  too_many l = some_taps (λ e. omega arith) ∙ check_applies (ltb 256 (length cs)) 2 _ (lt-ltb 256 (length cs) l)

  -- from here on they are 1 to 256
  module _ (from : 1 ≤ length cs) (to : length cs ≤ 256) where
    fit_taps : build_answer cs ks rows taps ≡ refuse_if short 3 (refuse_at (missing_form cs ks) 9 (given (built cs ks)))
    fit_taps = some_taps (λ e. omega arith) ∙ check_passes (ltb 256 (length cs)) 2 _ (le-ltb 256 (length cs) to)

    pub too_short : short ≡ true → build_answer cs ks rows taps ≡ refused 3 0
    too_short e = fit_taps ∙ check_applies short 3 _ e

    pub no_form_lem : (i : ℕ) → short ≡ false → missing_form cs ks ≡ at_place i → build_answer cs ks rows taps ≡ refused 9 i
    no_form_lem i e f = fit_taps ∙ check_passes short 3 _ e ∙ ap (λ (p : Place). refuse_at p 9 (given (built cs ks))) f

    pub network_given : short ≡ false → missing_form cs ks ≡ nowhere → build_answer cs ks rows taps ≡ given (built cs ks)
    network_given e f = fit_taps ∙ check_passes short 3 _ e ∙ ap (λ (p : Place). refuse_at p 9 (given (built cs ks))) f

  -- ---- what an answer that is given tells
  pub record Given (net : Network) : Type 0 where
    pub taps_from : 1 ≤ length cs
    pub taps_to : length cs ≤ 256
    pub choices_long : length cs ≤ length ks
    pub rows_long : row_table ≤ length rows
    pub taps_long : tap_table ≤ length taps
    pub forms : missing_form cs ks ≡ nowhere
    pub network : net ≡ built cs ks

  pub given_tells : (net : Network) → build_answer cs ks rows taps ≡ given net → Given net
  given_tells net e =
      let a = given_if (eqb (length cs) 0) 1 _ net (sym answer_is ∙ e) in
      let b = given_if (ltb 256 (length cs)) 2 _ net a.1 in
      let c = given_if short 3 _ net b.1 in
      let d = given_at (missing_form cs ks) 9 _ net c.1 in
      let s = neither (ltb (length ks) (length cs)) (short_tables rows taps) c.0 in
      let t = neither (ltb (length rows) row_table) (ltb (length taps) tap_table) s.1 in
      record {
        taps_from = pos_of_ne-zero (eqb-false (length cs) 0 a.0);
        taps_to = ltb-false 256 (length cs) b.0;
        choices_long = ltb-false (length ks) (length cs) s.0;
        rows_long = ltb-false (length rows) row_table t.0;
        taps_long = ltb-false (length taps) tap_table t.1;
        forms = d.0;
        network = given_same net (built cs ks) (sym d.1);
      }

  -- "a lent table is under its length": none is
  pub not_short : length cs ≤ length ks → row_table ≤ length rows → tap_table ≤ length taps → short ≡ false
  not_short a b c = rw (le-ltb (length ks) (length cs) a, le-ltb (length rows) row_table b, le-ltb (length taps) tap_table c)

  -- the coefficients and choices that a network is given for can be built
  pub given_can_build : (net : Network) → Given net → ((i : ℕ) → i < length cs → Coefficient (get_or cs i (pos 0))) → CanBuild cs ks
  given_can_build net g b = record { few = g.taps_to; enough = g.choices_long; bounds = b; forms = forms_exist cs ks g.choices_long g.forms }
