-- The claims of specs/Claims.antt. Assumes nothing.
use mathlib.Core.Path.{◌≡◌, refl, sym, ap, ◌∙◌, subst}
use mathlib.Core.Logic.{◌↔◌}
use mathlib.Core.Bool.{Bool, true, false, not, true≢false, false≢true}
use Prim.Native.Nat.{ℕ, ◌*◌, ◌^◌, ◌≤◌, ◌<◌}
use native.Mathlib.Omega.{arith}
use lib.Dec.{ltb}
use lib.IntN.{ℤ}
use lib.Ieee.{Float, nan, inf, fin, up, down}
use lib.Ieee.Fits.{down_pos}
use borrow.Author.Tests.{ltb-true, not-true}
use Rattle.word.specs.Bounds.{Coefficient, within_bounds}
use Rattle.word.proofs.Bounds.{within_bounds_lem, bounds_within}
use Rattle.refusal.specs.Answer.{Answer, given, refused, refuse_if}
use Rattle.refusal.proofs.Checks.{given_refused}
use Rattle.tap.specs.Rounding.{TapResult, signed, finite, size_of, outside, result_of, rounded_tap, whole_of, TapRounded}
use Rattle.tap.specs.Claims.{NearestEven, TapRefusals, TapClaims}
use Rattle.tap.proofs.Distance.{none_nearer, even_as_near, no_other}
use Rattle.tap.proofs.Answer.{refused_bits, refused_tap, of_finite, outside_bounds, rounded_is, size_is}
use Rattle.tap.proofs.Theorems as Theorems

-- N of a finite tap
abbrev whole_at : ℕ → Bool → ℕ → ℤ → ℤ
whole_at F s m e = signed s (size_of F (fin s m e))

nearest_at : (F : ℕ) (s : Bool) (m : ℕ) (e : ℤ) → NearestEven F (fin s m e) (whole_at F s m e)
nearest_at F s m e =
    subst (λ (n : ℕ). NearestEven F (fin s m e) (signed s n)) (sym (size_is F s m e))
    (record { nearest = none_nearer s (m * up e * 2 ^ F) (down e) (down_pos e); even = even_as_near s (m * up e * 2 ^ F) (down e) (down_pos e) })

only_at : (F : ℕ) (s : Bool) (m : ℕ) (e : ℤ) (N : ℤ) → NearestEven F (fin s m e) N → whole_at F s m e ≡ N
only_at F s m e N w = sym (no_other s (m * up e * 2 ^ F) (down e) (down_pos e) N w.nearest w.even ∙ ap (signed s) (sym (size_is F s m e)))

some_nearest : (F : ℕ) (tap : Float) → finite tap ≡ true → (N : ℤ) × NearestEven F tap N
some_nearest F nan h = absurd (false≢true h)
some_nearest F (inf s) h = absurd (false≢true h)
some_nearest F (fin s m e) h = (whole_at F s m e, nearest_at F s m e)

-- a finite tap is turned down, with 6, where N is not within the bounds
by_bounds : (F : ℕ) (tap : Float) (N : ℤ) (b : Bool) → F ≤ 31 → finite tap ≡ true → NearestEven F tap N → within_bounds N ≡ b → rounded_tap F tap ≡ refuse_if (not b) 6 (given (result_of F tap))
by_bounds F nan N b f h w e = absurd (false≢true h)
by_bounds F (inf s) N b f h w e = absurd (false≢true h)
by_bounds F (fin s m g) N b f h w e =
    of_finite F (fin s m g) f h
    ∙ ap (λ (o : Bool). refuse_if o 6 (given (result_of F (fin s m g))))
    (outside_bounds F s m g ∙ ap (λ (z : ℤ). not (within_bounds z)) (only_at F s m g N w) ∙ ap not e)

-- answers that are not the same
same_number : (m n : ℕ) → ◌≡◌ {A = Answer TapResult} (refused m 0) (refused n 0) → m ≡ n
same_number m n q = cc

-- which check applied, by the number
by_four : (b c d : Bool) (r : TapResult) → refuse_if b 4 (refuse_if c 5 (refuse_if d 6 (given r))) ≡ refused 4 0 → b ≡ true
by_four true c d r q = refl
by_four false true d r q = absurd (no (same_number 5 4 q))
  where
    no : ◌≡◌ {A = ℕ} 5 4 → ⊥
    no z = omega arith
by_four false false true r q = absurd (no (same_number 6 4 q))
  where
    no : ◌≡◌ {A = ℕ} 6 4 → ⊥
    no z = omega arith
by_four false false false r q = given_refused r 4 0 q

by_five : (b c d : Bool) (r : TapResult) → refuse_if b 4 (refuse_if c 5 (refuse_if d 6 (given r))) ≡ refused 5 0 → c ≡ true
by_five true c d r q = absurd (no (same_number 4 5 q))
  where
    no : ◌≡◌ {A = ℕ} 4 5 → ⊥
    no z = omega arith
by_five false true d r q = refl
by_five false false true r q = absurd (no (same_number 6 5 q))
  where
    no : ◌≡◌ {A = ℕ} 6 5 → ⊥
    no z = omega arith
by_five false false false r q = given_refused r 5 0 q

module _ (F : ℕ) (tap : Float) (a : Answer TapResult) (w : TapRounded F tap a) where
  out : F ≤ 31 → finite tap ≡ true → (N : ℤ) → NearestEven F tap N → a ≡ refused 6 0 ↔ (Coefficient N → ⊥)
  out f h N near = go (within_bounds N) refl
    where
      go : (b : Bool) → within_bounds N ≡ b → a ≡ refused 6 0 ↔ (Coefficient N → ⊥)
      go true e =
          let g = w.answer ∙ by_bounds F tap N true f h near e in
          (λ q. given_refused (result_of F tap) 6 0 (sym g ∙ q), λ no. absurd (no (bounds_within N e)))
      go false e = (λ q. λ c. true≢false (sym (within_bounds_lem N c) ∙ e), λ no. w.answer ∙ by_bounds F tap N false f h near e)

  inside : F ≤ 31 → finite tap ≡ true → (N : ℤ) → NearestEven F tap N → Coefficient N → (r : TapResult) × (a ≡ given r) × (whole_of r ≡ N)
  inside f h N near c =
      let g = w.answer ∙ by_bounds F tap N true f h near (within_bounds_lem N c) in
      (result_of F tap, g, sym (Theorems.nearest_only F tap (result_of F tap) N (sym w.answer ∙ g) near))

  many : a ≡ refused 4 0 → 31 < F
  many q = ltb-true 31 F (by_four (ltb 31 F) (not (finite tap)) (outside F tap) (result_of F tap) (sym (w.answer ∙ rounded_is F tap) ∙ q))

  not_number : a ≡ refused 5 0 → finite tap ≡ false
  not_number q = not-true (finite tap) (by_five (ltb 31 F) (not (finite tap)) (outside F tap) (result_of F tap) (sym (w.answer ∙ rounded_is F tap) ∙ q))

refusals : (F : ℕ) (tap : Float) (a : Answer TapResult) → TapRounded F tap a → TapRefusals F tap a
refusals F tap a w = record {
  fraction_bits = (many F tap a w, λ h. w.answer ∙ sym (refused_bits F tap h));
  not_finite = λ f. (not_number F tap a w, λ n. w.answer ∙ sym (refused_tap F tap f n));
  out_of_bounds = out F tap a w;
  accepted = inside F tap a w;
}

pub tap_claims : TapClaims
tap_claims = record {
  nearest_even = λ F tap r w. Theorems.nearest_even F tap r (sym w.answer);
  nearest_only = λ F tap r M w. Theorems.nearest_only F tap r M (sym w.answer);
  some_nearest = some_nearest;
  exact_whole = λ F tap N w. Theorems.exact_whole F tap N (sym w.answer);
  exact_leftover = λ F tap N l t w. Theorems.leftover_of F tap N l t (sym w.answer);
  minus_zero = λ F a f w. w.answer ∙ Theorems.minus_zero F f;
  left_finite = λ F tap r w. Theorems.left_finite F tap r (sym w.answer);
  never_nan = λ F tap r w. Theorems.never_nan F tap r (sym w.answer);
  refusals = refusals;
}
