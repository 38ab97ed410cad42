-- The answers of `round_tap`. Assumes nothing.
use mathlib.Core.Path.{◌≡◌, refl, sym, ap, ◌∙◌, subst}
use mathlib.Core.Logic.{◌⊎◌, inl, inr}
use mathlib.Core.Bool.{Bool, true, false, not, cond, true≢false, false≢true}
use Prim.Native.Nat.{ℕ, ◌*◌, ◌^◌, ◌≤◌, ◌<◌}
use native.Mathlib.Nat.{le_trans, le_of_eq, lt_of_lt_of_le, mul-le-mul_right, mul_right_comm}
use native.Mathlib.Omega.{arith}
use lib.IntN.{ℤ}
use lib.Dec.{T, ltb, eqb, lit≤}
use lib.Ieee.{Float, nan, inf, fin, binary64, up, down, round, mul, eq, lt, of_int, fits}
use lib.Ieee.Fits.{down_pos}
use lib.Ieee.Exact.{HasValue}
use borrow.Author.Tests.{lt-ltb, le-ltb, eqb-false, ltb-false}
use Rattle.word.specs.Bounds.{within_bounds}
use Rattle.word.proofs.Order.{lt_or_le}
use Rattle.refusal.specs.Answer.{given, refused, refuse_if}
use Rattle.refusal.proofs.Checks.{check_applies, check_passes}
use Rattle.tap.specs.Rounding.{exact, rounded, nearest_whole, signed, leftover, split, finite, size_of, outside, result_of, rounded_tap, abs_of}
use Rattle.tap.specs.Inner.{nearest_of, rounds_within_of, parted}
use Rattle.tap.proofs.Whole.{nearest_ge}
use Rattle.tap.proofs.Rule.{nearest_same}
use Rattle.tap.proofs.Value.{scaled_is, scaled_exact, over, two_to, round_abs}
use Rattle.tap.proofs.Range.{most, most_le, below_far, within_most, nearest_is, rounds_is, rounds_no, rounds_nan, rounds_inf}
use Rattle.tap.proofs.Steps.{parted_yes, parted_no}
use Rattle.tap.proofs.Rest.{rest_is, equal_is, whole_value}

-- ---- `rounded_tap`
pub rounded_is : (F : ℕ) (x : Float) → rounded_tap F x ≡ refuse_if (ltb 31 F) 4 (refuse_if (not (finite x)) 5 (refuse_if (outside F x) 6 (given (result_of F x))))
unfolding rounded_tap
rounded_is F x = refl

pub refused_bits : (F : ℕ) (x : Float) → 31 < F → refused 4 0 ≡ rounded_tap F x
refused_bits F x h = sym (rounded_is F x ∙ check_applies (ltb 31 F) 4 _ (lt-ltb 31 F h))

few_bits : (F : ℕ) (x : Float) → F ≤ 31 → rounded_tap F x ≡ refuse_if (not (finite x)) 5 (refuse_if (outside F x) 6 (given (result_of F x)))
few_bits F x h = rounded_is F x ∙ check_passes (ltb 31 F) 4 _ (le-ltb 31 F h)

pub refused_tap : (F : ℕ) (x : Float) → F ≤ 31 → finite x ≡ false → refused 5 0 ≡ rounded_tap F x
refused_tap F x h n = sym (few_bits F x h ∙ check_applies (not (finite x)) 5 _ (ap not n))

pub of_finite : (F : ℕ) (x : Float) → F ≤ 31 → finite x ≡ true → rounded_tap F x ≡ refuse_if (outside F x) 6 (given (result_of F x))
of_finite F x h n = few_bits F x h ∙ check_passes (not (finite x)) 5 _ (ap not n)

-- the size of N
pub size_is : (F : ℕ) (s : Bool) (m : ℕ) (e : ℤ) → size_of F (fin s m e) ≡ nearest_whole (m * up e * 2 ^ F) (down e)
unfolding size_of
size_is F s m e = refl

pub outside_bounds : (F : ℕ) (s : Bool) (m : ℕ) (e : ℤ) → outside F (fin s m e) ≡ not (within_bounds (signed s (size_of F (fin s m e))))
unfolding outside
outside_bounds F s m e = refl

pub outside_is : (F : ℕ) (s : Bool) (m : ℕ) (e : ℤ) → outside F (fin s m e) ≡ ltb (most s) (size_of F (fin s m e))
outside_is F s m e = outside_bounds F s m e ∙ within_most s (size_of F (fin s m e))

pub result_is : (F : ℕ) (s : Bool) (m : ℕ) (e : ℤ) → result_of F (fin s m e) ≡ split s (m * up e * 2 ^ F) (down e) (size_of F (fin s m e))
unfolding result_of
result_is F s m e = refl

-- ---- X is ±a / d: parted by ±n it is what `split` says
pub split_is : (s : Bool) (a d n : ℕ) → split s a d n ≡ cond (eqb (n * d) a) (exact (signed s n)) (rounded (signed s n) (leftover s a d n))
unfolding split
split_is s a d n = refl

parted_is : (X : Float) (s : Bool) (a d n : ℕ) → 0 < d → n ≤ 2 ^ 31 → HasValue X s a d → parted X (signed s n) ≡ split s a d n
parted_is X s a d n D h v = go (eqb (n * d) a) refl ∙ sym (split_is s a d n)
  where
    w : (t : Bool) × HasValue (of_int binary64 (signed s n)) t n 1 × ((t ≡ s) ⊎ (n ≡ 0))
    w = whole_value s n (le_trans h (lit≤ tt))

    q : eq X (of_int binary64 (signed s n)) ≡ eqb (n * d) a
    q = equal_is X (of_int binary64 (signed s n)) s w.0 a d n D v w.1 w.2

    go : (b : Bool) → eqb (n * d) a ≡ b → parted X (signed s n) ≡ cond (eqb (n * d) a) (exact (signed s n)) (rounded (signed s n) (leftover s a d n))
    go true e = sym (parted_yes X (signed s n) (q ∙ e)) ∙ sym (ap (λ (b : Bool). cond b (exact (signed s n)) (rounded (signed s n) (leftover s a d n))) e)
    go false e =
        sym (parted_no X (signed s n) (q ∙ e))
        ∙ ap (λ (l : Float). rounded (signed s n) l) (rest_is X (of_int binary64 (signed s n)) s w.0 a d n D v w.1 w.2 (eqb-false (n * d) a e))
        ∙ sym (ap (λ (b : Bool). cond b (exact (signed s n)) (rounded (signed s n) (leftover s a d n))) e)

-- ---- x is tap × 2 ^ F: what is not finite does not round to a coefficient
never : (F : ℕ) (tap : Float) → finite tap ≡ false → rounds_within_of (mul binary64 tap (two_to F)) ≡ false
unfolding mul
never F nan h = rounds_nan
never F (inf true) h = rounds_inf true
never F (inf false) h = rounds_inf false
never F (fin s m e) h = absurd (true≢false h)

-- nor does what is rounded from 2 ^ 32 or more
far : (s : Bool) (a d : ℕ) → 0 < d → 2 ^ 32 * d ≤ a → rounds_within_of (round binary64 s a d) ≡ false
unfolding lt
far s a d D h = go (round binary64 s a d) (ap (λ (y : Float). lt y (two_to 32)) (round_abs s a d) ∙ over a d D h)
  where
    double : (d a : ℕ) → 2 ^ 32 * d ≤ a * 1 → 2 ^ 32 * 2 * d ≤ a * 2
    double d a h = omega arith

    go : (y : Float) → lt (abs_of y) (two_to 32) ≡ false → rounds_within_of y ≡ false
    go nan t = rounds_nan
    go (inf b) t = rounds_inf b
    go (fin b p g) t =
        rounds_no b p g (lt_of_lt_of_le (below_far b) (nearest_ge (p * up g) (down g) (2 ^ 32) (down_pos g) (double (down g) (p * up g) (ltb-false (p * up g * 1) (2 ^ 32 * down g) t))))

module _ (F : ℕ) (s : Bool) (m : ℕ) (e : ℤ) (t : T (fits binary64 (fin s m e))) where
  abbrev x : Float
  x = mul binary64 (fin s m e) (two_to F)

  abbrev a : ℕ
  a = m * up e * 2 ^ F

  far_x : 2 ^ 32 * down e ≤ a → rounds_within_of x ≡ false
  far_x l = ap rounds_within_of (scaled_is s m e F) ∙ far s a (down e) (down_pos e) l

  near_x : a < 2 ^ 32 * down e → HasValue x s a (down e)
  near_x l = scaled_exact s m e F t (lt_of_lt_of_le l (mul-le-mul_right (down e) (lit≤ tt)))

  exactly : rounds_within_of x ≡ true → HasValue x s a (down e)
  exactly h = go (lt_or_le a (2 ^ 32 * down e))
    where
      go : (a < 2 ^ 32 * down e) ⊎ (2 ^ 32 * down e ≤ a) → HasValue x s a (down e)
      go (inl l) = near_x l
      go (inr l) = absurd (true≢false (sym h ∙ far_x l))

  -- the nearest whole number is N
  whole : (y : Float) → HasValue y s a (down e) → nearest_of y ≡ signed s (size_of F (fin s m e))
  whole nan v = absurd v
  whole (inf b) v = absurd v
  whole (fin b p g) v =
      nearest_is b p g
      ∙ ap (λ (b : Bool). signed b (nearest_whole (p * up g) (down g))) v.0
      ∙ ap (signed s) (nearest_same (p * up g) (down g) a (down e) (down_pos g) (down_pos e) v.1 ∙ sym (size_is F s m e))

  -- and it is outside the bounds where x does not round to a coefficient
  tested : outside F (fin s m e) ≡ not (rounds_within_of x)
  tested = go (lt_or_le a (2 ^ 32 * down e))
    where
      near : (y : Float) → HasValue y s a (down e) → outside F (fin s m e) ≡ not (rounds_within_of y)
      near nan v = absurd v
      near (inf b) v = absurd v
      near (fin b p g) v = outside_bounds F s m e ∙ ap (λ (z : ℤ). not (within_bounds z)) (sym (whole (fin b p g) v)) ∙ ap not (sym (rounds_is b p g))

      go : (a < 2 ^ 32 * down e) ⊎ (2 ^ 32 * down e ≤ a) → outside F (fin s m e) ≡ not (rounds_within_of x)
      go (inl l) = near x (near_x l)
      go (inr l) =
          outside_is F s m e
          ∙ lt-ltb (most s) (size_of F (fin s m e))
          (subst (λ (n : ℕ). most s < n) (sym (size_is F s m e)) (lt_of_lt_of_le (below_far s) (nearest_ge a (down e) (2 ^ 32) (down_pos e) (le_trans (le_of_eq (mul_right_comm (2 ^ 32) 2 (down e))) (mul-le-mul_right 2 l)))))
          ∙ sym (ap not (far_x l))

-- ---- the answers
pub refused_size : (F : ℕ) (tap : Float) → T (fits binary64 tap) → F ≤ 31 → finite tap ≡ true → rounds_within_of (mul binary64 tap (two_to F)) ≡ false → refused 6 0 ≡ rounded_tap F tap
refused_size F nan t h n u = absurd (false≢true n)
refused_size F (inf s) t h n u = absurd (false≢true n)
refused_size F (fin s m e) t h n u = sym (of_finite F (fin s m e) h refl ∙ check_applies (outside F (fin s m e)) 6 _ (tested F s m e t ∙ ap not u))

pub accepted : (F : ℕ) (tap : Float) → T (fits binary64 tap) → F ≤ 31 → rounds_within_of (mul binary64 tap (two_to F)) ≡ true
    → given (parted (mul binary64 tap (two_to F)) (nearest_of (mul binary64 tap (two_to F)))) ≡ rounded_tap F tap
accepted F nan t h u = absurd (true≢false (sym u ∙ never F nan refl))
accepted F (inf s) t h u = absurd (true≢false (sym u ∙ never F (inf s) refl))
accepted F (fin s m e) t h u =
    let X = mul binary64 (fin s m e) (two_to F) in
    let v = exactly F s m e t u in
    let o : outside F (fin s m e) ≡ false = tested F s m e t ∙ ap not u in
    let k : size_of F (fin s m e) ≤ most s = ltb-false (most s) (size_of F (fin s m e)) (sym (outside_is F s m e) ∙ o) in
    ap (λ (z : ℤ). given (parted X z)) (whole F s m e t X v)
    ∙ ap given (parted_is X s (m * up e * 2 ^ F) (down e) (size_of F (fin s m e)) (down_pos e) (le_trans k (most_le s)) v)
    ∙ ap given (sym (result_is F s m e))
    ∙ sym (of_finite F (fin s m e) h refl ∙ check_passes (outside F (fin s m e)) 6 _ o)
