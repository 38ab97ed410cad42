-- What an accepted set has passed, and its report. Assumes nothing.
use mathlib.Core.Path.{◌≡◌, refl, sym, ap, ◌∙◌, subst}
use mathlib.Core.Bool.{Bool, true, false, ◌&&◌, ◌||◌, beq, or-true, true≢false, false≢true}
use mathlib.Core.List.{List, [], ◌∷◌}
use Prim.Native.Nat.{ℕ, zero, suc, ◌*◌, ◌≤◌, ◌<◌}
use native.Mathlib.Nat.{zero-mul}
use native.Mathlib.Omega.{arith}
use lib.IntN.{ℤ}
use lib.Dec.{T, ltb, eqb}
use lib.ListN.{length, get_or}
use lib.Ieee.{Float, nan, inf, fin, binary64, up, down, eq, fits}
use lib.Ieee.Fits.{div-fits, nan-fits}
use borrow.Author.Tests.{not-false, ltb-false, eqb-false, eq-eqb}
use Rattle.refusal.specs.Answer.{given, refuse_at, nowhere, lowest_from, lowest}
use Rattle.refusal.proofs.Checks.{given_same, check_passes, given_if, given_at, lowest_all, lowest_none_at}
use Rattle.tap.specs.Rounding.{TapResult, exact, rounded, finite, outside, result_of, rounded_tap, left_of}
use Rattle.tap.proofs.Value.{nought}
use Rattle.tap.proofs.Answer.{of_finite}
use Rattle.tap.proofs.Theorems.{left_finite, leftover_of}
use Rattle.tap_set.specs.declared.Report.{Report}
use Rattle.tap_normalise.specs.Normalised.{sum_of, unusable, infinite, quotients, used, divisor_of}
use Rattle.tap_set.specs.Set.{larger_of, reported, report_from, report_of, bounded, rounded_taps}
use Rattle.tap_set.specs.Claims.{Binary64, Finite}
use Rattle.tap_set.proofs.Largest.{AtMost, best, AllFinite, Best, best_is}
use Rattle.tap_set.proofs.Rounds.{not_finite_at, all_finite, report_one, report_none}
use Rattle.tap_set.proofs.Settled.{most_taps, all_is, settled_open, infinite_quotients, usable_number}

-- the leftover of a number
abbrev pub left_at : ℕ → Float → Float
left_at F x = left_of (result_of F x)

reported_divisor : (r : Report) (c : TapResult) → (reported r c).divisor ≡ r.divisor
unfolding reported
reported_divisor r c = refl

reported_leftover : (r : Report) (c : TapResult) → (reported r c).leftover ≡ larger_of r.leftover (left_of c)
unfolding reported
reported_leftover r c = refl

pub bounded_is : (F : ℕ) (d : Float) (xs : List Float) → bounded F d xs ≡ refuse_at (lowest (outside F) xs) 6 (given (report_of F d xs))
unfolding bounded
bounded_is F d xs = refl

divisor_kept : (F : ℕ) (r : Report) (xs : List Float) → (report_from F r xs).divisor ≡ r.divisor
divisor_kept F r [] = ap (λ (q : Report). q.divisor) (report_none F r)
divisor_kept F r (x ∷ xs) = ap (λ (q : Report). q.divisor) (report_one F r x xs) ∙ divisor_kept F (reported r (result_of F x)) xs ∙ reported_divisor r (result_of F x)

-- the leftover is the best of those of the numbers
pub leftover_best : (F : ℕ) (r : Report) (xs : List Float) → (report_from F r xs).leftover ≡ best (left_at F) r.leftover xs
unfolding best
leftover_best F r [] = ap (λ (q : Report). q.leftover) (report_none F r)
leftover_best F r (x ∷ xs) =
    ap (λ (q : Report). q.leftover) (report_one F r x xs)
    ∙ leftover_best F (reported r (result_of F x)) xs
    ∙ ap (λ (l : Float). best (left_at F) l xs) (reported_leftover r (result_of F x))

quotients_fit : (y : Float) (xs : List Float) → Binary64 (quotients y xs)
quotients_fit y [] = tt
quotients_fit y (x ∷ xs) = (div-fits binary64 x y, quotients_fit y xs)

-- the numbers that are rounded are finite, and the divisor is
pub used_finite : (normalised : Bool) (taps : List Float) → lowest not_finite_at taps ≡ nowhere → normalised && unusable (sum_of taps) ≡ false → lowest (λ (q : Float). normalised && infinite q) (used normalised taps) ≡ nowhere
    → (lowest not_finite_at (used normalised taps) ≡ nowhere) × (finite (divisor_of normalised taps) ≡ true)
used_finite false taps n u q = (n, refl)
used_finite true taps n u q = (infinite_quotients (sum_of taps) 0 0 taps u n ∙ q, usable_number (sum_of taps) u)

pub used_fit : (normalised : Bool) (taps : List Float) → Binary64 taps → Binary64 (used normalised taps)
used_fit false taps b = b
used_fit true taps b = quotients_fit (sum_of taps) taps

-- ---- what an accepted set has passed
pub record Accepted (F : ℕ) (normalised : Bool) (taps : List Float) (room : ℕ) (r : Report) : Type 0 where
  pub few_bits : F ≤ 31
  pub some_taps : length taps ≡ 0 → ⊥
  pub few_taps : length taps ≤ most_taps
  pub room_for : length taps ≤ room
  pub taps_finite : lowest not_finite_at taps ≡ nowhere
  pub usable : normalised && unusable (sum_of taps) ≡ false
  pub none_infinite : lowest (λ (q : Float). normalised && infinite q) (used normalised taps) ≡ nowhere
  pub numbers : lowest not_finite_at (used normalised taps) ≡ nowhere
  pub divisor : finite (divisor_of normalised taps) ≡ true
  pub inside : lowest (outside F) (used normalised taps) ≡ nowhere
  pub report : report_of F (divisor_of normalised taps) (used normalised taps) ≡ r

pub accepted : (F : ℕ) (normalised : Bool) (taps : List Float) (room : ℕ) (r : Report) → rounded_taps F normalised taps room ≡ given r → Accepted F normalised taps room r
accepted F normalised taps room r h =
    let c1 = given_if (eqb (length taps) 0) 1 _ r (sym (all_is F normalised taps room) ∙ h) in
    let c2 = given_if (ltb most_taps (length taps)) 2 _ r c1.1 in
    let c3 = given_if (ltb room (length taps)) 3 _ r c2.1 in
    let c4 = given_if (ltb 31 F) 4 _ r c3.1 in
    let c5 = given_at (lowest not_finite_at taps) 5 _ r (sym (settled_open F normalised taps) ∙ c4.1) in
    let c7 = given_if (normalised && unusable (sum_of taps)) 7 _ r c5.1 in
    let d7 = given_at (lowest (λ (q : Float). normalised && infinite q) (used normalised taps)) 7 _ r c7.1 in
    let c6 = given_at (lowest (outside F) (used normalised taps)) 6 _ r (sym (bounded_is F (divisor_of normalised taps) (used normalised taps)) ∙ d7.1) in
    let u = used_finite normalised taps c5.0 c7.0 d7.0 in
    record {
      few_bits = ltb-false 31 F c4.0;
      some_taps = eqb-false (length taps) 0 c1.0;
      few_taps = ltb-false most_taps (length taps) c2.0;
      room_for = ltb-false room (length taps) c3.0;
      taps_finite = c5.0;
      usable = c7.0;
      none_infinite = d7.0;
      numbers = u.0;
      divisor = u.1;
      inside = c6.0;
      report = given_same (report_of F (divisor_of normalised taps) (used normalised taps)) r c6.1;
    }

-- a number that is finite and within the bounds is rounded
pub rounds : (F : ℕ) (x : Float) → F ≤ 31 → finite x ≡ true → outside F x ≡ false → rounded_tap F x ≡ given (result_of F x)
rounds F x f n o = of_finite F x f n ∙ check_passes (outside F x) 6 _ o

lefts_finite : (F : ℕ) (f : F ≤ 31) (k : ℕ) (xs : List Float) → lowest_from k not_finite_at xs ≡ nowhere → lowest_from k (outside F) xs ≡ nowhere → AllFinite (left_at F) xs
lefts_finite F f k [] n o = tt
lefts_finite F f k (x ∷ xs) n o =
    let w = lowest_all not_finite_at k x xs n in
    let v = lowest_all (outside F) k x xs o in
    (left_finite F x (result_of F x) (rounds F x f (not-false (finite x) w.0) v.0), lefts_finite F f (suc k) xs w.1 v.1)

module _ (F : ℕ) (normalised : Bool) (taps : List Float) (room : ℕ) (r : Report) (w : Accepted F normalised taps room r) where
  abbrev xs : List Float
  xs = used normalised taps

  pub divisor_is : r.divisor ≡ divisor_of normalised taps
  divisor_is = ap (λ (q : Report). q.divisor) (sym w.report) ∙ divisor_kept F (record { divisor = divisor_of normalised taps; leftover = nought }) xs

  leftover_is : best (left_at F) nought xs ≡ r.leftover
  leftover_is = sym (leftover_best F (record { divisor = divisor_of normalised taps; leftover = nought }) xs) ∙ ap (λ (q : Report). q.leftover) w.report

  pub best_leftover : Best (left_at F) nought xs r.leftover
  best_leftover = subst (Best (left_at F) nought xs) leftover_is (best_is (left_at F) nought xs refl (lefts_finite F w.few_bits 0 xs w.numbers w.inside))

  pub report_finite : Finite r
  report_finite = record { divisor = ap finite divisor_is ∙ w.divisor; leftover = best_leftover.number }

  pub rounds_at : (i : ℕ) → i < length (used normalised taps) → rounded_tap F (get_or (used normalised taps) i nan) ≡ given (result_of F (get_or (used normalised taps) i nan))
  rounds_at i h = rounds F (get_or xs i nan) w.few_bits (all_finite xs w.numbers i h) (lowest_none_at nan (outside F) 0 xs i w.inside h)

-- ---- a leftover of no magnitude is that of an exact tap
pub fits_at : (xs : List Float) (i : ℕ) → Binary64 xs → T (fits binary64 (get_or xs i nan))
fits_at [] i b = nan-fits binary64
fits_at (x ∷ xs) zero b = b.0
fits_at (x ∷ xs) (suc i) b = fits_at xs i b.1

zero_eq : (l : Float) → finite l ≡ true → AtMost l nought → eq l nought ≡ true
unfolding eq
zero_eq nan h z = absurd (false≢true h)
zero_eq (inf s) h z = absurd (false≢true h)
zero_eq (fin s m e) h z =
    let k : m * up e * 1 ≡ 0 * 1 * down e = same (m * up e * 1) (0 * 1 * down e) (zero-mul (down e)) z.up_to in
    ap (λ (b : Bool). b && (beq s false || eqb (m * up e * 1) 0)) (eq-eqb (m * up e * 1) (0 * 1 * down e) k)
    ∙ ap (λ (b : Bool). beq s false || b) (eq-eqb (m * up e * 1) 0 (k ∙ zero-mul (down e)))
    ∙ or-true (beq s false)
  where
    same : (a b : ℕ) → b ≡ 0 → a ≤ b → a ≡ b
    same a b e h = omega arith

pub exact_of : (F : ℕ) (x : Float) (c : TapResult) → T (fits binary64 x) → rounded_tap F x ≡ given c → AtMost (left_of c) nought → (N : ℤ) × (c ≡ exact N)
exact_of F x (exact N) t h z = (N, refl)
exact_of F x (rounded N l) t h z = let w = leftover_of F x N l t h in absurd (true≢false (sym (zero_eq l w.is_finite_lem z) ∙ w.nonzero))
