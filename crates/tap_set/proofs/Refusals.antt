-- A set of taps by the rows of the table that turn it down, and the sets that none does. Assumes nothing.
use mathlib.Core.Path.{◌≡◌, refl, sym, ap, ◌∙◌}
use mathlib.Core.Logic.Iff
use mathlib.Core.Logic.{◌↔◌}
use mathlib.Core.Bool.{Bool, true, false, not, ◌&&◌, true≢false, false≢true}
use mathlib.Core.List.{List}
use Prim.Native.Nat.{ℕ, ◌≤◌, ◌<◌}
use native.Mathlib.Nat.{lt_trans, lt_of_lt_of_le, le_of_eq, pos_of_ne-zero}
use native.Mathlib.Omega.{arith}
use lib.IntN.{ℤ}
use lib.Dec.{ltb, eqb}
use lib.ListN.{length, get_or, length-map}
use lib.Ieee.{Float, nan}
use borrow.Author.Tests.{ltb-true, lt-ltb, eqb-true, eqb-false, eq-eqb, not-true}
use Rattle.word.specs.Bounds.{Coefficient, within_bounds}
use Rattle.word.proofs.Bounds.{within_bounds_lem, bounds_within}
use Rattle.refusal.specs.Answer.{Answer, given, refused, refuse_if, refuse_at, Place, nowhere, at_place, lowest}
use Rattle.refusal.proofs.Checks.{given_refused, check_applies, check_passes, lowest_none_at}
use Rattle.refusal.proofs.Lowest.{lowest_is, is_lowest, is_nowhere}
use Rattle.tap.specs.Rounding.{finite, outside, result_of, rounded_tap}
use Rattle.tap.specs.Claims.{NearestEven}
use Rattle.tap.proofs.Answer.{of_finite}
use Rattle.tap.proofs.Claims.{tap_claims}
use Rattle.tap_normalise.specs.Normalised.{sum_of, unusable, infinite, used, divisor_of}
use Rattle.tap_set.specs.declared.Report.{Report}
use Rattle.tap_set.specs.Set.{report_of, bounded, rounded_taps}
use Rattle.tap_set.specs.Inner.{settled}
use Rattle.tap_set.specs.Claims.{SetSized, EachFinite, Divisible, SetAccepted, OutsideBounds, LowestPlace, SetRefusals}
use Rattle.tap_set.proofs.Rounds.{not_finite_at, all_finite}
use Rattle.tap_set.proofs.Settled as Settled
use Rattle.tap_set.proofs.Theorems.{Accepted, bounded_is, used_finite}

pub length_used : (normalised : Bool) (taps : List Float) → length (used normalised taps) ≡ length taps
length_used false taps = refl
length_used true taps = length-map taps _

is_false : (b : Bool) → (b ≡ true → ⊥) → b ≡ false
is_false true h = absurd (h refl)
is_false false h = refl

-- ---- the lowest place that breaks a rule, the rule being in words
module _ (breaks : Float → Bool) (Breaks : Float → Type 0) (xs : List Float) (agree : (i : ℕ) → i < length xs → breaks (get_or xs i nan) ≡ true ↔ Breaks (get_or xs i nan)) where
  pub lowest_place : (place : ℕ) → lowest breaks xs ≡ at_place place ↔ LowestPlace Breaks xs place
  lowest_place place = (there, here)
    where
      there : lowest breaks xs ≡ at_place place → LowestPlace Breaks xs place
      there h =
          let w = lowest_is nan breaks xs place h in
          record {
            within = w.within;
            broken = (agree place w.within).0 w.holds;
            earlier = λ j l b. true≢false (sym ((agree j (lt_trans l w.within)).1 b) ∙ w.not_before j l);
          }

      here : LowestPlace Breaks xs place → lowest breaks xs ≡ at_place place
      here w =
          is_lowest nan breaks xs place (record {
            within = w.within;
            holds = (agree place w.within).1 w.broken;
            not_before = λ j l. is_false (breaks (get_or xs j nan)) (λ b. w.earlier j l ((agree j (lt_trans l w.within)).0 b));
          })

-- ---- answers that are not turned down with a number
abbrev Never : {A : Type 0} → ℕ → Answer A → Type 0
Never k a = (place : ℕ) → a ≡ refused k place → ⊥

never_given : {A : Type 0} (k : ℕ) (r : A) → Never k (given r)
never_given k r place q = given_refused r k place q

never_if : {A : Type 0} (k n : ℕ) (b : Bool) (rest : Answer A) → eqb n k ≡ false → Never k rest → Never k (refuse_if b n rest)
never_if k n true rest d w place q = eqb-false n k d (cc)
never_if k n false rest d w place q = w place q

never_at : {A : Type 0} (k n : ℕ) (p : Place) (rest : Answer A) → eqb n k ≡ false → Never k rest → Never k (refuse_at p n rest)
never_at k n nowhere rest d w place q = w place q
never_at k n (at_place j) rest d w place q = eqb-false n k d (cc)

never_same : {A : Type 0} (k : ℕ) (a b : Answer A) → a ≡ b → Never k b → Never k a
never_same k a b e w place q = w place (sym e ∙ q)

-- ---- one row: it turned the input down where its check applies
if_row : {A : Type 0} (a : Answer A) (b : Bool) (n : ℕ) (rest : Answer A) → Never n rest → a ≡ refuse_if b n rest → a ≡ refused n 0 ↔ b ≡ true
if_row a true n rest w e = (λ q. refl, λ h. e)
if_row a false n rest w e = (λ q. absurd (w 0 (sym e ∙ q)), λ h. absurd (false≢true h))

at_row : {A : Type 0} (a : Answer A) (p : Place) (n : ℕ) (rest : Answer A) → Never n rest → a ≡ refuse_at p n rest → (place : ℕ) → a ≡ refused n place ↔ p ≡ at_place place
at_row a nowhere n rest w e place = (λ q. absurd (w place (sym e ∙ q)), λ h. let z : ◌≡◌ {A = ℕ} 0 1 = cc in absurd (omega arith))
at_row a (at_place j) n rest w e place = (λ q. let z : refused n j ≡ refused n place = sym e ∙ q in cc, λ h. cc)

-- ---- N of a finite number, and the check on it
outside_words : (F : ℕ) (x : Float) → F ≤ 31 → finite x ≡ true → outside F x ≡ true ↔ OutsideBounds F x
outside_words F x f h =
    let near = tap_claims.some_nearest F x h in
    let row = if_row (rounded_tap F x) (outside F x) 6 (given (result_of F x)) (never_given 6 (result_of F x)) (of_finite F x f h) in (
      λ o. record { whole = near.0; nearest = near.1; not_within = (words near.0 near.1).0 (row.1 o) },
      λ w. row.0 ((words w.whole w.nearest).1 w.not_within),
    )
  where
    words : (N : ℤ) → NearestEven F x N → rounded_tap F x ≡ refused 6 0 ↔ (Coefficient N → ⊥)
    words = (tap_claims.refusals F x (rounded_tap F x) (record { answer = refl })).out_of_bounds f h

-- ---- the rows
module _ (F : ℕ) (normalised : Bool) (taps : List Float) where
  abbrev xs : List Float
  xs = used normalised taps

  abbrev last : Answer Report
  last = bounded F (divisor_of normalised taps) (used normalised taps)

  abbrev quotient_row : Answer Report
  quotient_row = refuse_at (lowest (λ (q : Float). normalised && infinite q) xs) 7 last

  abbrev sum_row : Answer Report
  sum_row = refuse_if (normalised && unusable (sum_of taps)) 7 quotient_row

  never_last : (k : ℕ) → eqb 6 k ≡ false → Never k last
  never_last k d = never_same k last _ (bounded_is F (divisor_of normalised taps) xs) (never_at k 6 (lowest (outside F) xs) _ d (never_given k _))

  never_sum : (k : ℕ) → eqb 7 k ≡ false → eqb 6 k ≡ false → Never k sum_row
  never_sum k c d = never_if k 7 (normalised && unusable (sum_of taps)) quotient_row c (never_at k 7 (lowest (λ (q : Float). normalised && infinite q) xs) last c (never_last k d))

  never_settled : (k : ℕ) → eqb 5 k ≡ false → eqb 7 k ≡ false → eqb 6 k ≡ false → Never k (settled F normalised taps)
  never_settled k b c d = never_same k _ _ (Settled.settled_open F normalised taps) (never_at k 5 (lowest not_finite_at taps) sum_row b (never_sum k c d))

  finite_none : EachFinite taps → lowest not_finite_at taps ≡ nowhere
  finite_none n = is_nowhere nan not_finite_at taps 0 (λ i h. ap not (n i h))

  finite_open : EachFinite taps → settled F normalised taps ≡ sum_row
  finite_open n = Settled.settled_open F normalised taps ∙ ap (λ (p : Place). refuse_at p 5 sum_row) (finite_none n)

-- in normalised mode all of it, else nothing, is asked of the sum and the quotients
usable_sum : (normalised : Bool) (taps : List Float) → Divisible normalised taps → normalised && unusable (sum_of taps) ≡ false
usable_sum false taps d = refl
usable_sum true taps d = d.by_sum refl

none_infinite : (normalised : Bool) (taps : List Float) → Divisible normalised taps → lowest (λ (q : Float). normalised && infinite q) (used normalised taps) ≡ nowhere
none_infinite false taps d = Settled.never 0 taps
none_infinite true taps d = is_nowhere nan infinite (used true taps) 0 (λ i h. d.quotients_number refl i (lt_of_lt_of_le h (le_of_eq (length_used true taps))))

never_plain : (F : ℕ) (normalised : Bool) (taps : List Float) → normalised ≡ false → Never 7 (settled F normalised taps)
never_plain F true taps n = absurd (true≢false n)
never_plain F false taps n =
    never_same 7 _ _
    (Settled.settled_open F false taps ∙ ap (λ (p : Place). refuse_at (lowest not_finite_at taps) 5 (refuse_at p 7 (last F false taps))) (Settled.never 0 taps))
    (never_at 7 5 (lowest not_finite_at taps) (last F false taps) refl (never_last F false taps 7 refl))

module _ (F : ℕ) (normalised : Bool) (taps : List Float) (n : EachFinite taps) (d : Divisible normalised taps) where
  pub last_open : settled F normalised taps ≡ refuse_at (lowest (outside F) (used normalised taps)) 6 (given (report_of F (divisor_of normalised taps) (used normalised taps)))
  last_open =
      finite_open F normalised taps n
      ∙ check_passes (normalised && unusable (sum_of taps)) 7 _ (usable_sum normalised taps d)
      ∙ ap (λ (p : Place). refuse_at p 7 (last F normalised taps)) (none_infinite normalised taps d)
      ∙ bounded_is F (divisor_of normalised taps) (used normalised taps)

  pub used_number : (i : ℕ) → i < length (used normalised taps) → finite (get_or (used normalised taps) i nan) ≡ true
  used_number i h =
      all_finite (used normalised taps) (used_finite normalised taps (finite_none F normalised taps n) (usable_sum normalised taps d) (none_infinite normalised taps d)).0 i h

-- ---- the claims
module _ (F : ℕ) (normalised : Bool) (taps : List Float) (room : ℕ) where
  not_none : 0 < length taps → length taps ≡ 0 → ⊥
  not_none h z = omega arith

  sized_open : SetSized F taps room → settled F normalised taps ≡ rounded_taps F normalised taps room
  sized_open s = Settled.few_bits F normalised taps room (not_none s.some_taps) s.at_most_256 s.room_for s.fraction_bits

  pub is_accepted : SetAccepted F normalised taps room → rounded_taps F normalised taps room ≡ given (report_of F (divisor_of normalised taps) (used normalised taps))
  is_accepted w =
      sym (sized_open w.sized)
      ∙ last_open F normalised taps w.each_finite w.divisible
      ∙ ap (λ (p : Place). refuse_at p 6 (given (report_of F (divisor_of normalised taps) (used normalised taps)))) (is_nowhere nan (outside F) (used normalised taps) 0 inside)
    where
      inside : (i : ℕ) → i < length (used normalised taps) → outside F (get_or (used normalised taps) i nan) ≡ false
      inside i h =
          is_false (outside F (get_or (used normalised taps) i nan))
          (λ o.
          let v = (outside_words F (get_or (used normalised taps) i nan) w.sized.fraction_bits (used_number F normalised taps w.each_finite w.divisible i h)).0 o in
          v.not_within (w.within_bounds_lem i (lt_of_lt_of_le h (le_of_eq (length_used normalised taps))) v.whole v.nearest))

  pub accepts_only : (r : Report) → Accepted F normalised taps room r → SetAccepted F normalised taps room
  accepts_only r w = record {
    sized = record { some_taps = pos_of_ne-zero w.some_taps; at_most_256 = at_most (length taps) w.few_taps; room_for = w.room_for; fraction_bits = w.few_bits };
    each_finite = all_finite taps w.taps_finite;
    divisible = record {
      by_sum = λ n. ap (λ (b : Bool). b && unusable (sum_of taps)) (sym n) ∙ w.usable;
      quotients_number = λ n i h. ap (λ (b : Bool). b && infinite (get_or (used normalised taps) i nan)) (sym n)
          ∙ lowest_none_at nan (λ (q : Float). normalised && infinite q) 0 (used normalised taps) i w.none_infinite (counted i h);
    };
    within_bounds_lem = inside;
  }
    where
      at_most : (n : ℕ) → n ≤ Settled.most_taps → n ≤ 256
      at_most n h = omega arith

      counted : (i : ℕ) → i < length taps → i < length (used normalised taps)
      counted i h = lt_of_lt_of_le h (le_of_eq (sym (length_used normalised taps)))

      inside : (i : ℕ) → i < length taps → (N : ℤ) → NearestEven F (get_or (used normalised taps) i nan) N → Coefficient N
      inside i h N near =
          let x = get_or (used normalised taps) i nan in
          let number : finite x ≡ true = all_finite (used normalised taps) w.numbers i (counted i h) in
          let o : outside F x ≡ false = lowest_none_at nan (outside F) 0 (used normalised taps) i w.inside (counted i h) in
          go (within_bounds N) refl (λ v. true≢false (sym ((outside_words F x w.few_bits number).1 v) ∙ o))
        where
          go : (b : Bool) → within_bounds N ≡ b → (OutsideBounds F (get_or (used normalised taps) i nan) → ⊥) → Coefficient N
          go true e not_so = bounds_within N e
          go false e not_so = absurd (not_so (record { whole = N; nearest = near; not_within = λ c. true≢false (sym (within_bounds_lem N c) ∙ e) }))

  module _ (a : Answer Report) (e : a ≡ rounded_taps F normalised taps room) where
    abbrev n : ℕ
    n = length taps

    abbrev bits_row : Answer Report
    bits_row = refuse_if (ltb 31 F) 4 (settled F normalised taps)

    abbrev room_row : Answer Report
    room_row = refuse_if (ltb room n) 3 bits_row

    abbrev many_row : Answer Report
    many_row = refuse_if (ltb Settled.most_taps n) 2 room_row

    never_room : (k : ℕ) → eqb 3 k ≡ false → eqb 4 k ≡ false → Never k (settled F normalised taps) → Never k room_row
    never_room k b c w = never_if k 3 (ltb room n) bits_row b (never_if k 4 (ltb 31 F) _ c w)

    no_taps : a ≡ refused 1 0 ↔ length taps ≡ 0
    no_taps =
        Iff.trans
        (if_row a (eqb n 0) 1 many_row (never_if 1 2 (ltb Settled.most_taps n) room_row refl (never_room 1 refl refl (never_settled F normalised taps 1 refl refl refl))) (e ∙ Settled.all_is F normalised taps room))
        (eqb-true n 0, eq-eqb n 0)

    many_taps : a ≡ refused 2 0 ↔ 256 < length taps
    many_taps = (λ q. ltb-true 256 n (forward q), λ h. e ∙ sym (Settled.many_taps F normalised taps room (more n h) h))
      where
        more : (n : ℕ) → 256 < n → n ≡ 0 → ⊥
        more n h z = omega arith

        past : (b : Bool) (rest : Answer Report) → refuse_if b 1 rest ≡ refused 2 0 → rest ≡ refused 2 0
        past true rest q = absurd (eqb-false 1 2 refl (cc))
        past false rest q = q

        forward : a ≡ refused 2 0 → ltb Settled.most_taps n ≡ true
        forward q =
            (if_row many_row (ltb Settled.most_taps n) 2 room_row (never_room 2 refl refl (never_settled F normalised taps 2 refl refl refl)) refl).0
            (past (eqb n 0) many_row (sym (e ∙ Settled.all_is F normalised taps room) ∙ q))

    short_table_lem : 0 < length taps → length taps ≤ 256 → a ≡ refused 3 0 ↔ room < length taps
    short_table_lem h l =
        Iff.trans
        (if_row a (ltb room n) 3 bits_row (never_if 3 4 (ltb 31 F) _ refl (never_settled F normalised taps 3 refl refl refl)) (e ∙ Settled.few_taps F normalised taps room (not_none h) l))
        (ltb-true room n, lt-ltb room n)

    fraction_bits : 0 < length taps → length taps ≤ 256 → length taps ≤ room → a ≡ refused 4 0 ↔ 31 < F
    fraction_bits h l k =
        Iff.trans (if_row a (ltb 31 F) 4 _ (never_settled F normalised taps 4 refl refl refl) (e ∙ Settled.with_room F normalised taps room (not_none h) l k))
        (ltb-true 31 F, lt-ltb 31 F)

    not_finite : SetSized F taps room → (place : ℕ) → a ≡ refused 5 place ↔ LowestPlace (λ (x : Float). finite x ≡ false) taps place
    not_finite s place =
        Iff.trans
        (at_row a (lowest not_finite_at taps) 5 (sum_row F normalised taps) (never_sum F normalised taps 5 refl refl) (e ∙ sym (sized_open s) ∙ Settled.settled_open F normalised taps) place)
        (lowest_place not_finite_at (λ (x : Float). finite x ≡ false) taps (λ i h. (not-true (finite (get_or taps i nan)), ap not)) place)

    module _ (s : SetSized F taps room) (f : EachFinite taps) where
      opened : a ≡ sum_row F normalised taps
      opened = e ∙ sym (sized_open s) ∙ finite_open F normalised taps f

      no_sum : normalised ≡ true → unusable (sum_of taps) ≡ true → a ≡ refused 7 0
      no_sum m u = opened ∙ check_applies (normalised && unusable (sum_of taps)) 7 _ (ap (λ (b : Bool). b && unusable (sum_of taps)) m ∙ u)

      infinite_quotient : normalised ≡ true → unusable (sum_of taps) ≡ false → (place : ℕ) → a ≡ refused 7 place ↔ LowestPlace (λ (x : Float). infinite x ≡ true) (used normalised taps) place
      infinite_quotient m u place =
          Iff.trans
          (at_row a (lowest (λ (q : Float). normalised && infinite q) (used normalised taps)) 7 (last F normalised taps) (never_last F normalised taps 7 refl)
          (opened ∙ check_passes (normalised && unusable (sum_of taps)) 7 _ (ap (λ (b : Bool). b && unusable (sum_of taps)) m ∙ u)) place)
          (lowest_place (λ (q : Float). normalised && infinite q) (λ (x : Float). infinite x ≡ true) (used normalised taps) (λ i h. asked (infinite (get_or (used normalised taps) i nan))) place)
        where
          asked : (b : Bool) → (normalised && b) ≡ true ↔ b ≡ true
          asked b = (λ q. ap (λ (c : Bool). c && b) (sym m) ∙ q, λ q. ap (λ (c : Bool). c && b) m ∙ q)

      out_of_bounds : Divisible normalised taps → (place : ℕ) → a ≡ refused 6 place ↔ LowestPlace (OutsideBounds F) (used normalised taps) place
      out_of_bounds d place =
          Iff.trans
          (at_row a (lowest (outside F) (used normalised taps)) 6 _ (never_given 6 (report_of F (divisor_of normalised taps) (used normalised taps))) (e ∙ sym (sized_open s) ∙ last_open F normalised taps f d) place)
          (lowest_place (outside F) (OutsideBounds F) (used normalised taps)
          (λ i h. outside_words F (get_or (used normalised taps) i nan) s.fraction_bits (used_number F normalised taps f d i h)) place)

    not_normalised : normalised ≡ false → (place : ℕ) → a ≡ refused 7 place → ⊥
    not_normalised m =
        never_same 7 a _ (e ∙ Settled.all_is F normalised taps room)
        (never_if 7 1 (eqb n 0) many_row refl (never_if 7 2 (ltb Settled.most_taps n) room_row refl (never_room 7 refl refl (never_plain F normalised taps m))))

    pub refusals : SetRefusals F normalised taps room a
    refusals = record {
      no_taps = no_taps;
      many_taps = many_taps;
      short_table_lem = short_table_lem;
      fraction_bits = fraction_bits;
      not_finite = not_finite;
      no_sum = no_sum;
      infinite_quotient = infinite_quotient;
      not_normalised = not_normalised;
      out_of_bounds = out_of_bounds;
    }
