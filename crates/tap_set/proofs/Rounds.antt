-- `round_all`, turn by turn, and what its answer says of the numbers. Assumes nothing.
use mathlib.Core.Path.{◌≡◌, refl, sym, ap, ◌∙◌}
use mathlib.Core.Bool.{Bool, true, false, not, cond, true≢false}
use borrow.Author.Tests.{not-false}
use mathlib.Core.List.{List, [], ◌∷◌}
use Prim.Native.Nat.{ℕ, suc, ◌+◌, ◌≤◌, ◌<◌}
use native.Mathlib.Numerals.{add-one}
use lib.IntN.{ℤ, pos}
use lib.Dec.{ltb}
use lib.ListN.{length, drop, get_or, drop_of_length-le}
use lib.Seq.{drop-cons}
use lib.Ieee.{Float, nan}
use Rattle.refusal.specs.Answer.{Answer, given, refused, refuse_if, refuse_at, Place, nowhere, at_place, lowest_from, lowest}
use Rattle.refusal.proofs.Checks.{check_passes, given_same, given_at, lowest_here, lowest_none, lowest_all, lowest_alike, lowest_none_at}
use Rattle.tap.specs.Rounding.{TapResult, finite, outside, result_of, rounded_tap, whole_of, left_of}
use Rattle.tap.specs.Inner.{is_refused}
use Rattle.tap.proofs.Answer.{rounded_is, of_finite}
use Rattle.tap_set.specs.declared.Report.{Report}
use Rattle.tap_set.specs.Set.{reported, report_from, report_of, bounded}
use Rattle.tap_set.specs.Inner.{with_leftover, turned, tried, finite_first, checked}

abbrev pub not_finite_at : Float → Bool
not_finite_at x = not (finite x)

pub all_finite : (xs : List Float) → lowest not_finite_at xs ≡ nowhere → (i : ℕ) → i < length xs → finite (get_or xs i nan) ≡ true
all_finite xs h i l = not-false (finite (get_or xs i nan)) (lowest_none_at nan not_finite_at 0 xs i h l)

-- the whole number that x is rounded to
abbrev pub whole : ℕ → Float → ℤ
whole f x = whole_of (result_of f x)

pub none_whole : (F : ℕ) → whole F nan ≡ pos 0
unfolding result_of
none_whole F = refl

-- ---- one number: what is not turned down has a coefficient
passes : {A : Type 0} (b : Bool) (number : ℕ) (rest : Answer A) → is_refused (refuse_if b number rest) ≡ false → (b ≡ false) × (is_refused rest ≡ false)
passes true number rest h = absurd (true≢false h)
passes false number rest h = (refl, h)

pub kept : (F : ℕ) (x : Float) → turned F x ≡ false → (finite x ≡ true) × (outside F x ≡ false) × (rounded_tap F x ≡ given (result_of F x))
kept F x h =
    let a = passes (ltb 31 F) 4 _ (ap is_refused (sym (rounded_is F x)) ∙ h) in
    let b = passes (not (finite x)) 5 _ a.1 in
    let d = passes (outside F x) 6 _ b.1 in (
      not-false (finite x) b.0,
      d.0,
      rounded_is F x ∙ check_passes (ltb 31 F) 4 _ a.0 ∙ check_passes (not (finite x)) 5 _ b.0 ∙ check_passes (outside F x) 6 _ d.0,
    )

-- what x is rounded to, in two numbers
pub record RoundedTo (F : ℕ) (x : Float) (n : ℤ) (l : Float) : Type 0 where
  pub taken : turned F x ≡ false
  pub number : n ≡ whole F x
  pub left : l ≡ left_of (result_of F x)

pub rounded_to : (F : ℕ) (x : Float) (r : TapResult) → given r ≡ rounded_tap F x → RoundedTo F x (whole_of r) (left_of r)
rounded_to F x r e =
    let t = ap is_refused (sym e) in
    let s = given_same r (result_of F x) (e ∙ (kept F x t).2) in
    record { taken = t; number = ap whole_of s; left = ap left_of s }

-- ---- the report
with_is : (r : Report) (c : TapResult) → with_leftover r (left_of c) ≡ reported r c
unfolding with_leftover reported
with_is r c = refl

pub report_one : (f : ℕ) (r : Report) (x : Float) (xs : List Float) → report_from f r (x ∷ xs) ≡ report_from f (reported r (result_of f x)) xs
unfolding report_from
report_one f r x xs = refl

pub report_none : (f : ℕ) (r : Report) → report_from f r [] ≡ r
unfolding report_from
report_none f r = refl

pub report_next : (f : ℕ) (r : Report) (xs : List Float) (i : ℕ) → i < length xs
    → report_from f (with_leftover r (left_of (result_of f (get_or xs i nan)))) (drop (i + 1) xs) ≡ report_from f r (drop i xs)
report_next f r xs i h =
    let c = result_of f (get_or xs i nan) in
    ap (λ (q : Report). report_from f q (drop (i + 1) xs)) (with_is r c)
    ∙ ap (λ (k : ℕ). report_from f (reported r c) (drop k xs)) (add-one i)
    ∙ sym (ap (report_from f r) (drop-cons xs i nan h) ∙ report_one f r (get_or xs i nan) (drop (suc i) xs))

pub report_end : (f : ℕ) (r : Report) (xs : List Float) (i : ℕ) → length xs ≤ i → report_from f r (drop i xs) ≡ r
report_end f r xs i h = ap (report_from f r) (drop_of_length-le xs h) ∙ report_none f r

-- ---- the answer
tried_is : (F : ℕ) (d : Float) (xs : List Float) → tried F d xs ≡ refuse_at (lowest (turned F) xs) 6 (given (report_of F d xs))
unfolding tried
tried_is F d xs = refl

pub tried_stop : (F : ℕ) (d : Float) (xs : List Float) (i : ℕ) → lowest_from i (turned F) (drop i xs) ≡ lowest (turned F) xs → i < length xs → turned F (get_or xs i nan) ≡ true → refused 6 i ≡ tried F d xs
tried_stop F d xs i p h o = sym (tried_is F d xs ∙ ap (λ (w : Place). refuse_at w 6 (given (report_of F d xs))) (sym p ∙ lowest_here nan (turned F) xs i h o))

pub tried_end : (F : ℕ) (d : Float) (xs : List Float) (i : ℕ) (r : Report) → lowest_from i (turned F) (drop i xs) ≡ lowest (turned F) xs → report_from F r (drop i xs) ≡ report_of F d xs → length xs ≤ i
    → given r ≡ tried F d xs
tried_end F d xs i r p q h =
    sym
    (tried_is F d xs
    ∙ ap (λ (w : Place). refuse_at w 6 (given (report_of F d xs))) (sym p ∙ lowest_none nan (turned F) xs i h)
    ∙ ap given (sym q ∙ report_end F r xs i h))

-- ---- from `tried` to `checked`
pub checked_is : (rule F : ℕ) (d : Float) (xs : List Float) → checked rule F d xs ≡ refuse_at (lowest not_finite_at xs) rule (bounded F d xs)
unfolding checked
checked_is rule F d xs = refl

-- where nothing is turned down, all are finite and within the bounds
all_pass : (F k : ℕ) (xs : List Float) → lowest_from k (turned F) xs ≡ nowhere → (lowest_from k not_finite_at xs ≡ nowhere) × (lowest_from k (outside F) xs ≡ nowhere)
unfolding lowest_from
all_pass F k [] h = (refl, refl)
all_pass F k (x ∷ xs) h =
    let w = lowest_all (turned F) k x xs h in
    let e = kept F x w.0 in
    let r = all_pass F (suc k) xs w.1 in (
      ap (λ (b : Bool). cond (not b) (at_place k) (lowest_from (suc k) not_finite_at xs)) e.0 ∙ r.0,
      ap (λ (b : Bool). cond b (at_place k) (lowest_from (suc k) (outside F) xs)) e.1 ∙ r.1,
    )

-- where all are finite, what is turned down is outside the bounds
turned_finite : (F : ℕ) (x : Float) → F ≤ 31 → finite x ≡ true → turned F x ≡ outside F x
turned_finite F x f h = ap is_refused (of_finite F x f h) ∙ go (outside F x)
  where
    go : (b : Bool) → is_refused (refuse_if b 6 (given (result_of F x))) ≡ b
    go true = refl
    go false = refl

only_outside : (F k j : ℕ) (xs : List Float) → F ≤ 31 → lowest_from k not_finite_at xs ≡ nowhere → lowest_from j (turned F) xs ≡ lowest_from j (outside F) xs
unfolding lowest_from
only_outside F k j [] f h = refl
only_outside F k j (x ∷ xs) f h =
    let w = lowest_all not_finite_at k x xs h in
    lowest_alike (turned F) (outside F) j x xs (turned_finite F x f (not-false (finite x) w.0)) (only_outside F (suc k) (suc j) xs f w.1)

pub checked_all : (rule F : ℕ) (d : Float) (xs : List Float) (r : Report) → given r ≡ tried F d xs → given r ≡ checked rule F d xs
unfolding bounded
checked_all rule F d xs r e =
    let g = given_at (lowest (turned F) xs) 6 (given (report_of F d xs)) r (sym (tried_is F d xs) ∙ sym e) in
    let p = all_pass F 0 xs g.0 in
    sym g.1
    ∙ sym (checked_is rule F d xs ∙ ap (λ (w : Place). refuse_at w rule (bounded F d xs)) p.0 ∙ ap (λ (w : Place). refuse_at w 6 (given (report_of F d xs))) p.1)

bounded_is : (F : ℕ) (d : Float) (xs : List Float) → bounded F d xs ≡ refuse_at (lowest (outside F) xs) 6 (given (report_of F d xs))
unfolding bounded
bounded_is F d xs = refl

-- a number that is not finite comes first; where there is none, what is turned down is outside the bounds
pub checked_first : (rule F : ℕ) (d : Float) (xs : List Float) → F ≤ 31 → finite_first rule xs (tried F d xs) ≡ checked rule F d xs
checked_first rule F d xs f = go (lowest not_finite_at xs) refl ∙ sym (checked_is rule F d xs)
  where
    go : (p : Place) → lowest not_finite_at xs ≡ p → refuse_at p rule (tried F d xs) ≡ refuse_at p rule (bounded F d xs)
    go (at_place k) e = refl
    go nowhere e = tried_is F d xs ∙ ap (λ (w : Place). refuse_at w 6 (given (report_of F d xs))) (only_outside F 0 0 xs f e) ∙ sym (bounded_is F d xs)
