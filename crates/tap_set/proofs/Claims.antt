-- The claims of specs/Claims.antt. Assumes nothing.
use mathlib.Core.Path.{◌≡◌, refl, sym, ap, ◌∙◌, subst}
use mathlib.Core.Logic.{◌⊎◌, inl, inr}
use mathlib.Core.Bool.{Bool, true, false}
use mathlib.Core.List.{List, ◌++◌}
use Prim.Native.Nat.{ℕ, zero, suc, ◌+◌, ◌-◌, ◌≤◌, ◌<◌}
use native.Mathlib.Omega.{arith}
use native.Mathlib.Nat.{zero-lt-suc, not-suc-le-zero, lt_of_lt_of_le, le_trans, le_of_lt, le_of_eq}
use lib.IntN.{ℤ, pos}
use lib.ListN.{length, get_or, drop, length-append, length-drop, get_or-append, get_or-map, length-map}
use lib.Seq.{get_or-append-add, get_or-drop}
use lib.Ieee.{Float, nan}
use Rattle.refusal.specs.Answer.{given, refused, filled}
use Rattle.tap.specs.Rounding.{exact, finite, result_of, left_of}
use Rattle.tap.proofs.Value.{nought}
use Rattle.tap.proofs.Theorems.{finite_number, left_finite}
use Rattle.tap_normalise.specs.Normalised.{used}
use Rattle.tap_set.specs.declared.Report.{Report}
use Rattle.tap_set.specs.Set.{coefficients_of, TapsRounded}
use Rattle.tap_set.specs.Figures.{three}
use Rattle.tap_set.specs.Claims.{Binary64, Rounds, leftover_at, EarliestTap, LargestLeftover, SetAccepted, SetClaims}
use Rattle.tap_set.proofs.Largest.{AtMost, First, Best, smaller_test, at_most_test}
use Rattle.tap_set.proofs.Rounds.{whole, none_whole}
use Rattle.tap_set.proofs.Figures.{set_figures, three_binary64}
use Rattle.tap_set.proofs.Refusals.{length_used, is_accepted, accepts_only, refusals}
use Rattle.tap_set.proofs.Theorems.{left_at, Accepted, accepted, divisor_is, best_leftover, report_finite, rounds_at, used_fit, fits_at, exact_of}

module _ (F : ℕ) (normalised : Bool) (taps : List Float) (table : List ℤ) (r : Report) (table' : List ℤ) (t : TapsRounded F normalised taps table (given r) table') where
  abbrev xs : List Float
  xs = used normalised taps

  pub passed : Accepted F normalised taps (length table) r
  passed = accepted F normalised taps (length table) r (sym t.answer)

  written : table' ≡ coefficients_of F xs ++ drop (length (coefficients_of F xs)) table
  written = t.written ∙ ap (λ a. filled a (coefficients_of F xs) table) (sym t.answer)

  pub each : (i : ℕ) → i < length taps → Rounds F (used normalised taps) table' i
  each i h =
      let k : i < length xs = lt_of_lt_of_le h (le_of_eq (sym (length_used normalised taps))) in
      record {
        result = result_of F (get_or xs i nan);
        rounded = record { answer = sym (rounds_at F normalised taps (length table) r passed i k) };
        held = ap (λ (l : List ℤ). get_or l i (pos 0)) written
            ∙ get_or-append (coefficients_of F xs) (drop (length (coefficients_of F xs)) table) (pos 0) i (lt_of_lt_of_le k (le_of_eq (sym (length-map xs (whole F)))))
            ∙ ap (get_or (coefficients_of F xs) i) (sym (none_whole F))
            ∙ get_or-map (whole F) xs i nan;
      }

  count : length (coefficients_of F xs) ≡ length taps
  count = length-map xs (whole F) ∙ length_used normalised taps

  pub past : (length table' ≡ length table) × ((i : ℕ) → length taps ≤ i → get_or table' i (pos 0) ≡ get_or table i (pos 0))
  past = (
    ap length written ∙ length-append (coefficients_of F xs) _ ∙ room,
    λ i h. ap (λ (l : List ℤ). get_or l i (pos 0)) written ∙ later i (le_trans (le_of_eq count) h),
  )
    where
      room : length (coefficients_of F xs) + length (drop (length (coefficients_of F xs)) table) ≡ length table
      room = ap (λ (k : ℕ). length (coefficients_of F xs) + k) (length-drop (length (coefficients_of F xs)) table) ∙ whole_room (length (coefficients_of F xs)) (length table) (le_trans (le_of_eq count) passed.room_for)
        where
          whole_room : (n m : ℕ) → n ≤ m → n + (m - n) ≡ m
          whole_room n m h = omega arith

      later : (i : ℕ) → length (coefficients_of F xs) ≤ i → get_or (coefficients_of F xs ++ drop (length (coefficients_of F xs)) table) i (pos 0) ≡ get_or table i (pos 0)
      later i h =
          let n = length (coefficients_of F xs) in
          ap (λ (k : ℕ). get_or (coefficients_of F xs ++ drop n table) k (pos 0)) (split n i h)
          ∙ get_or-append-add (coefficients_of F xs) (drop n table) (i - n) (pos 0)
          ∙ get_or-drop n table (i - n) (pos 0)
          ∙ ap (λ (k : ℕ). get_or table k (pos 0)) (sym (split n i h))
        where
          split : (n i : ℕ) → n ≤ i → i ≡ n + (i - n)
          split n i h = omega arith

  -- ---- the leftover
  best : Best (left_at F) nought xs r.leftover
  best = best_leftover F normalised taps (length table) r passed

  left_number : (i : ℕ) → i < length xs → finite (leftover_at F xs i) ≡ true
  left_number i h = left_finite F (get_or xs i nan) (result_of F (get_or xs i nan)) (rounds_at F normalised taps (length table) r passed i h)

  module _ (b : Binary64 taps) where
    -- where no leftover is larger than +0, all are exact
    exact_at : r.leftover ≡ nought → (i : ℕ) → i < length xs → (N : ℤ) × (result_of F (get_or xs i nan) ≡ exact N)
    exact_at z i h =
        exact_of F (get_or xs i nan) (result_of F (get_or xs i nan)) (fits_at xs i (used_fit normalised taps b)) (rounds_at F normalised taps (length table) r passed i h)
        (subst (AtMost (leftover_at F xs i)) z (best.none_larger i h))

    some_number : 0 < length xs
    some_number = go (length xs) refl
      where
        go : (n : ℕ) → length xs ≡ n → 0 < n
        go zero e = absurd (passed.some_taps (sym (length_used normalised taps) ∙ e))
        go (suc n) e = zero-lt-suc n

    earliest : (r.leftover ≡ nought) ⊎ First (left_at F) nought xs r.leftover → EarliestTap F xs r.leftover
    earliest (inl z) = record {
      place = 0;
      within = some_number;
      taken = z ∙ sym (ap left_of (exact_at z 0 some_number).1);
      earlier = λ j h. absurd (not-suc-le-zero h);
    }
    earliest (inr v) = record {
      place = v.place;
      within = v.within;
      taken = v.taken;
      earlier = λ j h. smaller_test (leftover_at F xs j) r.leftover (left_number j (lt_trans' h v.within)) best.number (v.earlier j h);
    }
      where
        lt_trans' : {i j k : ℕ} → i < j → j < k → i < k
        lt_trans' h k = lt_of_lt_of_le h (le_of_lt k)

    none_left : ((i : ℕ) → i < length xs → (N : ℤ) × (result_of F (get_or xs i nan) ≡ exact N)) → (r.leftover ≡ nought) ⊎ First (left_at F) nought xs r.leftover → r.leftover ≡ nought
    none_left h (inl z) = z
    none_left h (inr v) = v.taken ∙ ap left_of (h v.place v.within).1

    pub largest : LargestLeftover F (used normalised taps) r.leftover
    largest = record {
      none_larger = λ i h. at_most_test r.leftover (leftover_at F xs i) best.number (left_number i h) (best.none_larger i h);
      earliest = earliest best.which;
      all_exact = (exact_at, λ h. none_left h best.which);
    }

kept : (F : ℕ) (normalised : Bool) (taps : List Float) (table : List ℤ) (number place : ℕ) (table' : List ℤ) → TapsRounded F normalised taps table (refused number place) table' → table' ≡ table
kept F normalised taps table number place table' t = t.written ∙ ap (λ a. filled a (coefficients_of F (used normalised taps)) table) (sym t.answer)

only : (F : ℕ) (normalised : Bool) (taps : List Float) (table : List ℤ) (r : Report) (table' : List ℤ) → TapsRounded F normalised taps table (given r) table' → SetAccepted F normalised taps (length table)
only F normalised taps table r table' t = accepts_only F normalised taps (length table) r (passed F normalised taps table r table' t)

pub set_claims : SetClaims
set_claims = record {
  set_accepted = λ F normalised taps table a table' t w. (_, t.answer ∙ is_accepted F normalised taps (length table) w);
  set_accepts_only = only;
  set_refusals = λ F normalised taps table a table' t. refusals F normalised taps (length table) a t.answer;
  each_rounds = each;
  past_untouched = past;
  refused_unchanged = kept;
  divisor = λ F normalised taps table r table' t. divisor_is F normalised taps (length table) r (passed F normalised taps table r table' t);
  largest_leftover = λ F normalised taps table r table' b t. largest F normalised taps table r table' t b;
  report_finite = λ F normalised taps table r table' t. report_finite F normalised taps (length table) r (passed F normalised taps table r table' t);
  never_nan = λ F normalised taps table r table' t.
      let w = report_finite F normalised taps (length table) r (passed F normalised taps table r table' t) in
      (finite_number r.divisor w.divisor, finite_number r.leftover w.leftover);
  figures = set_figures;
  three_binary64 = three_binary64;
  three_accepted = only 2 false three _ _ _ set_figures.earliest;
}
