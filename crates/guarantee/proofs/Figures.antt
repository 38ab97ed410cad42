-- The proved figures, one list.
use mathlib.Core.Path.{◌≡◌, refl, sym, ap, ap₂, ◌∙◌, subst}
use mathlib.Core.List.{List, ◌∷◌, ◌++◌, flat_map}
use Prim.Native.Nat.{ℕ, zero, suc, ◌+◌, ◌*◌, ◌-◌, ◌<◌, ◌≤◌}
use native.Mathlib.Omega.{arith}
use lib.Count.{count_trailing_zeros}
use lib.IntN.{ℤ, pos}
use lib.ListN.{length, drop, replicate, get_or, length-drop, length-replicate}
use Rattle.refusal.specs.Answer.{Answer, given, filled}
use Rattle.signed_digit.proofs.Figures.{figures}
use Rattle.coefficient.specs.Parts.{parts_of, odd_part_of, shift_of}
use Rattle.tap.proofs.Figures.{tap_figures}
use Rattle.network.specs.Rows.{Network, row_words, row_table, tap_words, tap_table, words_of_rows, words_of_tap_rows}
use Rattle.network.proofs.Figures.{sheet_within}
use Rattle.build_steps.specs.TapRows.{built}
use Rattle.build_steps.specs.Answer.{build_answer, row_count_of}
use Rattle.build_steps.specs.CanBuild.{Listed}
use Rattle.build_steps.proofs.Figures.{example}
use Rattle.build_steps.specs.Built.{BuiltInto}
use Rattle.network.specs.Check.{outcome}
use Rattle.sequence.specs.UpTo.{up_to}
use Rattle.run_calls.specs.Run.{Ran, run_answer, run_outputs}
use Rattle.run_calls.specs.Memory.{cleared}
use Rattle.run_calls.specs.Demand.{Calls}
use Rattle.guarantee.proofs.SheetCalls as Called
use Rattle.guarantee.proofs.SheetFilter as Running
use Rattle.guarantee.specs.Demand3.{Taken}
use Rattle.network.specs.Figures.{sheet_rows, sheet_tap_rows, sheet_coefficients}
use Rattle.build_steps.specs.Figures.{sheet_choices}
use Rattle.guarantee.specs.Sheet.{sheet_samples, stored_network, four_calls}
use Rattle.guarantee.specs.Figures.{SheetFilter, SheetBuilt, SheetCalls, ProvedFigures}
use Rattle.guarantee.proofs.Demand3.{can_build, demand_3}

-- the sheet's taps and choices are such as demand 3 speaks of
choices : (tap : ℕ) → tap < length sheet_coefficients → Listed (parts_of (get_or sheet_coefficients tap (pos 0))) (get_or sheet_choices tap 0)
unfolding parts_of odd_part_of shift_of count_trailing_zeros
choices zero h = omega (arith, ap length figures.of_3)
choices (suc zero) h = omega (arith, ap length figures.of_3)
choices (suc (suc zero)) h = omega (arith, ap length figures.of_45)
choices (suc (suc (suc zero))) h = refl
choices (suc (suc (suc (suc tap)))) h = absurd (omega arith)

taken : Taken sheet_coefficients sheet_choices
taken = record { from_1 = omega arith; to_256 = omega arith; within_bounds_lem = sheet_within; one_per_tap = omega arith; listed = choices }

abbrev rows_left_of : List ℕ → List ℕ → List ℕ
rows_left_of rows taps = filled (build_answer sheet_coefficients sheet_choices rows taps) (words_of_rows (built sheet_coefficients sheet_choices).rows) rows

abbrev taps_left_of : List ℕ → List ℕ → List ℕ
taps_left_of rows taps = filled (build_answer sheet_coefficients sheet_choices rows taps) (words_of_tap_rows (built sheet_coefficients sheet_choices).taps) taps

-- there are tables that `build` leaves
pub building : (cs : List ℤ) (ks rows taps : List ℕ) → BuiltInto cs ks rows taps (row_count_of (build_answer cs ks rows taps))
    (filled (build_answer cs ks rows taps) (words_of_rows (built cs ks).rows) rows) (filled (build_answer cs ks rows taps) (words_of_tap_rows (built cs ks).taps) taps)
building cs ks rows taps = record { answer = refl; rows_left = refl; taps_left = refl }

module _ (rows taps : List ℕ) (lr : row_table ≤ length rows) (lt : tap_table ≤ length taps) where
  accepted : build_answer sheet_coefficients sheet_choices rows taps ≡ given (built sheet_coefficients sheet_choices)
  accepted = can_build sheet_coefficients sheet_choices rows taps taken lr lt

  -- the words in front of the tables
  rows_left : rows_left_of rows taps ≡ sheet_rows (drop (3 * row_words) rows)
  unfolding flat_map
  rows_left =
      ap₂ (λ (a : Answer Network) (net : Network). filled a (words_of_rows net.rows) rows) accepted example

  taps_left : taps_left_of rows taps ≡ sheet_tap_rows (drop (4 * tap_words) taps)
  unfolding flat_map
  taps_left =
      ap₂ (λ (a : Answer Network) (net : Network). filled a (words_of_tap_rows net.taps) taps) accepted example

  three_rows : row_count_of (build_answer sheet_coefficients sheet_choices rows taps) ≡ given 3
  three_rows = ap row_count_of accepted ∙ ap (λ (net : Network). given (length net.rows)) example

  module _ (beyond : List ℕ) (a b c : ℤ) (rest : List ℤ) (n : ℕ) (rows' taps' : List ℕ) (left : BuiltInto sheet_coefficients sheet_choices rows taps (given n) rows' taps')
      (answer : Answer (Unit {0})) (r' : List ℕ) (o' : List ℤ) (ran : Ran rows' n taps' 4 sheet_samples (replicate 256 0 ++ beyond) (a ∷ b ∷ c ∷ rest) answer r' o') where
    count_is : n ≡ 3
    count_is = let e = left.answer ∙ three_rows in cc

    answered : run_answer rows' n taps' 4 sheet_samples (length (replicate 256 0 ++ beyond)) (length (a ∷ b ∷ c ∷ rest)) ≡ given sheet_coefficients
    answered =
        ap (λ (k : ℕ). run_answer rows' k taps' 4 sheet_samples (length (replicate 256 0 ++ beyond)) (length (a ∷ b ∷ c ∷ rest))) count_is
        ∙ ap₂ (λ (u v : List ℕ). run_answer u 3 v 4 sheet_samples (length (replicate 256 0 ++ beyond)) (length (a ∷ b ∷ c ∷ rest)))
        (left.rows_left ∙ rows_left) (left.taps_left ∙ taps_left)
        ∙ (Running.sheet_filter (drop (3 * row_words) rows) (drop (4 * tap_words) taps) beyond a b c rest (omega (arith, length-drop (3 * row_words) rows)) (omega (arith, length-drop (4 * tap_words) taps))).answer

    sheet_filter : SheetFilter rest answer o'
    sheet_filter = record {
      accepted = ran.answer ∙ ap outcome answered;
      given_outputs =
          ran.outputs ∙ ap (λ (x : Answer (List ℤ)). run_outputs x sheet_samples (replicate 256 0 ++ beyond) (a ∷ b ∷ c ∷ rest)) answered
          ∙ (Running.sheet_filter (drop (3 * row_words) rows) (drop (4 * tap_words) taps) beyond a b c rest (omega (arith, length-drop (3 * row_words) rows)) (omega (arith, length-drop (4 * tap_words) taps))).outputs;
    }

long_rows : row_table ≤ length (replicate {A = ℕ} row_table 0)
long_rows = omega (arith, length-replicate {A = ℕ} row_table 0)

long_taps : tap_table ≤ length (replicate {A = ℕ} tap_table 0)
long_taps = omega (arith, length-replicate {A = ℕ} tap_table 0)

sheet_built : SheetBuilt
sheet_built = record {
  rows' = rows_left_of (replicate row_table 0) (replicate tap_table 0);
  taps' = taps_left_of (replicate row_table 0) (replicate tap_table 0);
  taken = taken;
  into = subst (λ (a : Answer ℕ). BuiltInto sheet_coefficients sheet_choices (replicate row_table 0) (replicate tap_table 0) a (rows_left_of (replicate row_table 0) (replicate tap_table 0)) (taps_left_of (replicate row_table 0) (replicate tap_table 0)))
      (three_rows (replicate row_table 0) (replicate tap_table 0) long_rows long_taps) (building sheet_coefficients sheet_choices (replicate row_table 0) (replicate tap_table 0));
}

same_network : (r t : List ℕ) → stored_network r t ≡ built sheet_coefficients sheet_choices
unfolding up_to
same_network r t = sym example

rest_of_rows : row_table ≤ 3 * row_words + length (replicate {A = ℕ} (row_table - 3 * row_words) 0)
rest_of_rows = omega (arith, length-replicate {A = ℕ} (row_table - 3 * row_words) 0)

rest_of_taps : tap_table ≤ 4 * tap_words + length (replicate {A = ℕ} (tap_table - 4 * tap_words) 0)
rest_of_taps = omega (arith, length-replicate {A = ℕ} (tap_table - 4 * tap_words) 0)

sheet_calls : SheetCalls
sheet_calls =
    let r : List ℕ = replicate (row_table - 3 * row_words) 0 in
    let t : List ℕ = replicate (tap_table - 4 * tap_words) 0 in
    let calls = subst (λ (net : Network). Calls net (Called.steps r t rest_of_rows rest_of_taps)) (same_network r t) (Called.calls r t rest_of_rows rest_of_taps) in
    record {
      steps = Called.steps r t rest_of_rows rest_of_taps;
      lendings = Called.same_lendings cleared (four_calls r t);
      calls = calls;
      demand = (demand_3.networks sheet_coefficients sheet_choices (replicate row_table 0) (replicate tap_table 0) (given 3) sheet_built.rows' sheet_built.taps' taken long_rows long_taps sheet_built.into).sums
          (Called.steps r t rest_of_rows rest_of_taps) calls;
      answers = Called.answers r t rest_of_rows rest_of_taps;
      outputs = Called.outputs r t rest_of_rows rest_of_taps;
      full_length = record { rows = rest_of_rows; taps = rest_of_taps; registers = omega arith; outputs = omega arith };
    }

pub proved_figures : ProvedFigures
proved_figures = record {
  forms = figures;
  taps = tap_figures;
  rows_of_the_sheet = example;
  sheet_filter = λ rows taps beyond a b c rest lr lt. sheet_filter rows taps lr lt beyond a b c rest;
  sheet_built = sheet_built;
  sheet_calls = sheet_calls;
}
