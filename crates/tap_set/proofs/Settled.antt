-- The answers of `round_quotients` and `round_taps`, by the checks that led to them. Assumes nothing.
use mathlib.Core.Path.{◌≡◌, refl, sym, ap, ◌∙◌}
use mathlib.Core.Bool.{Bool, true, false, not, ◌&&◌, cond, true≢false, false≢true}
use mathlib.Core.List.{List, [], ◌∷◌}
use Prim.Native.Nat.{ℕ, zero, suc, ◌-◌, ◌*◌, ◌/◌, ◌%◌, ◌^◌, ◌≤◌, ◌<◌, compare}
use lib.IntN.{pos}
use lib.Dec.{ltb, eqb}
use lib.ListN.{length}
use lib.Ieee.{Float, nan, inf, fin, binary64, round, nearest, size, units, odd, add, div, is_nan, up, down, unlike}
use borrow.Author.Tests.{not-false, lt-ltb, le-ltb, eq-eqb, ne_eqb}
use Rattle.refusal.specs.Answer.{refused, refuse_if, refuse_at, Place, nowhere, at_place, lowest_from, lowest}
use Rattle.refusal.proofs.Checks.{check_applies, check_passes, lowest_all, lowest_alike}
use Rattle.tap.specs.Rounding.{finite}
use Rattle.tap_normalise.specs.Normalised.{sum_from, sum_of, unusable, infinite, quotients, used, divisor_of}
use Rattle.tap_set.specs.Set.{bounded, rounded_taps}
use Rattle.tap_set.specs.Inner.{checked, settled}
use Rattle.tap_set.proofs.Rounds.{not_finite_at, checked_is}

-- ---- a quotient of finite numbers is a number: it is infinite where it is not finite
odd_number : (d : ℕ) (s : Bool) (q k l : ℕ) → is_nan (odd d s q k l) ≡ false
unfolding odd is_nan
odd_number d s zero k l = refl
odd_number d s (suc q) k l = refl

units_number : (s : Bool) (q k : ℕ) → is_nan (units binary64 s q k) ≡ false
unfolding units is_nan
units_number s q k = go (ltb (q * 2 ^ k) (2 ^ 2098)) (odd_number 54 s q k 1074)
  where
    go : (b : Bool) → is_nan (odd 54 s q k 1074) ≡ false → is_nan (cond b (odd 54 s q k 1074) (inf s)) ≡ false
    go true h = h
    go false h = refl

round_number : (s : Bool) (a b : ℕ) → is_nan (round binary64 s a b) ≡ false
unfolding round
round_number s a b =
    let n = a * 2 ^ 1074 in
    let k = size (n / b) - 53 in
    let u = b * 2 ^ k in
    units_number s (nearest (n / u) (compare (n % u * 2) u)) k

div_number : (x y : Float) → finite x ≡ true → unusable y ≡ false → is_nan (div binary64 x y) ≡ false
unfolding div
div_number nan y h u = absurd (false≢true h)
div_number (inf s) y h u = absurd (false≢true h)
div_number (fin s m e) nan h u = absurd (true≢false u)
div_number (fin s m e) (inf t) h u = absurd (true≢false u)
div_number (fin s m e) (fin t n d) h u =
    ap (λ (b : Bool). is_nan (cond b (cond (eqb m 0) nan (inf (unlike s t))) (round binary64 (unlike s t) (m * up e * down d) (n * up d * down e)))) u
    ∙ round_number (unlike s t) (m * up e * down d) (n * up d * down e)

infinite_number : (x : Float) → is_nan x ≡ false → not_finite_at x ≡ infinite x
unfolding is_nan
infinite_number nan h = absurd (true≢false h)
infinite_number (inf s) h = refl
infinite_number (fin s m e) h = refl

pub infinite_quotients : (y : Float) (k j : ℕ) (xs : List Float) → unusable y ≡ false → lowest_from k not_finite_at xs ≡ nowhere
    → lowest_from j not_finite_at (quotients y xs) ≡ lowest_from j infinite (quotients y xs)
unfolding lowest_from
infinite_quotients y k j [] u h = refl
infinite_quotients y k j (x ∷ xs) u h =
    let w = lowest_all not_finite_at k x xs h in
    let n = div_number x y (not-false (finite x) w.0) u in
    lowest_alike not_finite_at infinite j (div binary64 x y) (quotients y xs) (infinite_number (div binary64 x y) n) (infinite_quotients y (suc k) (suc j) xs u w.1)

-- ---- a sum that is finite has only finite taps
add_finite : (x y : Float) → finite (add binary64 x y) ≡ true → (finite x ≡ true) × (finite y ≡ true)
unfolding add
add_finite nan y h = absurd (false≢true h)
add_finite (inf s) nan h = absurd (false≢true h)
add_finite (inf true) (inf true) h = absurd (false≢true h)
add_finite (inf true) (inf false) h = absurd (false≢true h)
add_finite (inf false) (inf true) h = absurd (false≢true h)
add_finite (inf false) (inf false) h = absurd (false≢true h)
add_finite (inf s) (fin t n d) h = absurd (false≢true h)
add_finite (fin s m e) nan h = absurd (false≢true h)
add_finite (fin s m e) (inf t) h = absurd (false≢true h)
add_finite (fin s m e) (fin t n d) h = (refl, refl)

sum_finite : (t : Float) (k : ℕ) (xs : List Float) → finite (sum_from t xs) ≡ true → (finite t ≡ true) × (lowest_from k not_finite_at xs ≡ nowhere)
unfolding sum_from lowest_from
sum_finite t k [] h = (h, refl)
sum_finite t k (x ∷ xs) h =
    let r = sum_finite (add binary64 t x) (suc k) xs h in
    let e = add_finite t x r.0 in
    (e.0, ap (λ (b : Bool). cond (not b) (at_place k) (lowest_from (suc k) not_finite_at xs)) e.1 ∙ r.1)

pub usable_number : (x : Float) → unusable x ≡ false → finite x ≡ true
usable_number nan h = absurd (true≢false h)
usable_number (inf s) h = absurd (true≢false h)
usable_number (fin s m e) h = refl

-- ---- `settled`
pub settled_open : (F : ℕ) (normalised : Bool) (taps : List Float) → settled F normalised taps
    ≡ refuse_at (lowest not_finite_at taps) 5
    (refuse_if (normalised && unusable (sum_of taps)) 7 (refuse_at (lowest (λ (q : Float). normalised && infinite q) (used normalised taps)) 7 (bounded F (divisor_of normalised taps) (used normalised taps))))
unfolding settled
settled_open F normalised taps = refl

-- normalised
module _ (F : ℕ) (taps : List Float) where
  abbrev S : Float
  S = sum_of taps

  abbrev Q : List Float
  Q = quotients (sum_of taps) taps

  settled_is : settled F true taps ≡ refuse_at (lowest not_finite_at taps) 5 (refuse_if (unusable S) 7 (refuse_at (lowest infinite Q) 7 (bounded F S Q)))
  settled_is = settled_open F true taps

  pub without_sum : unusable (sum_of taps) ≡ true → refuse_at (lowest not_finite_at taps) 5 (refused 7 0) ≡ settled F true taps
  without_sum u = sym (settled_is ∙ ap (refuse_at (lowest not_finite_at taps) 5) (check_applies (unusable S) 7 _ u))

  pub with_sum : unusable (sum_of taps) ≡ false → checked 7 F (sum_of taps) (quotients (sum_of taps) taps) ≡ settled F true taps
  with_sum u =
      let p = (sum_finite (fin false 0 (pos 0)) 0 taps (usable_number S u)).1 in
      checked_is 7 F S Q
      ∙ ap (λ (w : Place). refuse_at w 7 (bounded F S Q)) (infinite_quotients S 0 0 taps u p)
      ∙ sym (settled_is ∙ ap (λ (w : Place). refuse_at w 5 (refuse_if (unusable S) 7 (refuse_at (lowest infinite Q) 7 (bounded F S Q)))) p ∙ check_passes (unusable S) 7 _ u)

-- not normalised
pub never : (k : ℕ) (xs : List Float) → lowest_from k (λ (q : Float). false && infinite q) xs ≡ nowhere
unfolding lowest_from
never k [] = refl
never k (x ∷ xs) = never (suc k) xs

pub plain_settled : (F : ℕ) (taps : List Float) → checked 5 F (fin false 1 (pos 0)) taps ≡ settled F false taps
plain_settled F taps =
    checked_is 5 F (fin false 1 (pos 0)) taps
    ∙ sym (settled_open F false taps ∙ ap (λ (p : Place). refuse_at (lowest not_finite_at taps) 5 (refuse_at p 7 (bounded F (fin false 1 (pos 0)) taps))) (never 0 taps))

-- ---- `rounded_taps`
-- the most taps that a set may have
abbrev pub most_taps : ℕ
most_taps = 256

module _ (F : ℕ) (normalised : Bool) (taps : List Float) (room : ℕ) where
  pub all_is : rounded_taps F normalised taps room
      ≡ refuse_if (eqb (length taps) 0) 1 (refuse_if (ltb most_taps (length taps)) 2 (refuse_if (ltb room (length taps)) 3 (refuse_if (ltb 31 F) 4 (settled F normalised taps))))
  unfolding rounded_taps settled
  all_is = refl

  pub no_taps : length taps ≡ 0 → refused 1 0 ≡ rounded_taps F normalised taps room
  no_taps h = sym (all_is ∙ check_applies (eqb (length taps) 0) 1 _ (eq-eqb (length taps) 0 h))

  module _ (a : length taps ≡ 0 → ⊥) where
    some_taps : rounded_taps F normalised taps room ≡ refuse_if (ltb most_taps (length taps)) 2 (refuse_if (ltb room (length taps)) 3 (refuse_if (ltb 31 F) 4 (settled F normalised taps)))
    some_taps = all_is ∙ check_passes (eqb (length taps) 0) 1 _ (ne_eqb (length taps) 0 a)

    pub many_taps : most_taps < length taps → refused 2 0 ≡ rounded_taps F normalised taps room
    many_taps h = sym (some_taps ∙ check_applies (ltb most_taps (length taps)) 2 _ (lt-ltb most_taps (length taps) h))

    module _ (b : length taps ≤ most_taps) where
      pub few_taps : rounded_taps F normalised taps room ≡ refuse_if (ltb room (length taps)) 3 (refuse_if (ltb 31 F) 4 (settled F normalised taps))
      few_taps = some_taps ∙ check_passes (ltb most_taps (length taps)) 2 _ (le-ltb most_taps (length taps) b)

      pub short_table_lem : room < length taps → refused 3 0 ≡ rounded_taps F normalised taps room
      short_table_lem h = sym (few_taps ∙ check_applies (ltb room (length taps)) 3 _ (lt-ltb room (length taps) h))

      module _ (d : length taps ≤ room) where
        pub with_room : rounded_taps F normalised taps room ≡ refuse_if (ltb 31 F) 4 (settled F normalised taps)
        with_room = few_taps ∙ check_passes (ltb room (length taps)) 3 _ (le-ltb room (length taps) d)

        pub many_bits : 31 < F → refused 4 0 ≡ rounded_taps F normalised taps room
        many_bits h = sym (with_room ∙ check_applies (ltb 31 F) 4 _ (lt-ltb 31 F h))

        module _ (f : F ≤ 31) where
          pub few_bits : settled F normalised taps ≡ rounded_taps F normalised taps room
          few_bits = sym (with_room ∙ check_passes (ltb 31 F) 4 _ (le-ltb 31 F f))
