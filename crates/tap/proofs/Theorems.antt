-- What specs/Claims.antt says of N and of the leftover, of `rounded_tap`. Assumes nothing.
use mathlib.Core.Path.{◌≡◌, refl, sym, ap, ◌∙◌, subst}
use mathlib.Core.Bool.{Bool, true, false, not, ◌&&◌, ◌||◌, beq, cond, false≢true}
use Prim.Native.Nat.{ℕ, zero, suc, ◌+◌, ◌*◌, ◌^◌, ◌≤◌, ◌<◌}
use native.Mathlib.Nat.{le_trans, le_of_eq, zero-mul, mul-one, one-mul, mul_comm, mul_right_comm, mul-pos, mul-le-mul_right, le_of_mul-le-mul_right}
use native.Mathlib.Omega.{arith}
use lib.IntN.{ℤ, pos, negsuc, ◌-ℤ◌, ◌*ℤ◌}
use lib.Dec.{T, ltb, eqb, lit<}
use lib.Ieee.{Float, nan, inf, fin, binary64, up, down, round, eq, le, fits, is_nan}
use lib.Ieee.Fits.{down_pos}
use lib.Ieee.Exact.{HasValue}
use lib.Ieee.Order.{round_mono}
use borrow.Author.Tests.{not-false, ltb-false, le-ltb, eqb-true, eqb-false, eq-eqb, ne_eqb}
use Rattle.refusal.specs.Answer.{given}
use Rattle.refusal.proofs.Checks.{given_same, check_passes, given_if}
use Rattle.tap.specs.Rounding.{TapResult, exact, rounded, nearest_whole, signed, leftover, split, finite, size_of, outside, result_of, rounded_tap, abs_of, whole_of, left_of}
use Rattle.tap.specs.Claims.{numerator, denominator, NearestEven, Exactly, AtMostHalf, ExactLeftover}
use Rattle.tap.proofs.Whole.{nearest_near, nearest_whole_lem}
use Rattle.tap.proofs.Exact.{apart, side, one_round, leftover_exact, leftover_fits}
use Rattle.tap.proofs.Distance.{signed_mul, difference_is, none_nearer, even_as_near, no_other}
use Rattle.tap.proofs.Value.{round_abs}
use Rattle.tap.proofs.Range.{most}
use Rattle.tap.proofs.Answer.{rounded_is, of_finite, outside_is, result_is, split_is, size_is}

passed : (F : ℕ) (x : Float) (c : TapResult) → rounded_tap F x ≡ given c → (F ≤ 31) × (finite x ≡ true) × (outside F x ≡ false) × (result_of F x ≡ c)
passed F x c h =
    let a = given_if (ltb 31 F) 4 _ c (sym (rounded_is F x) ∙ h) in
    let b = given_if (not (finite x)) 5 _ c a.1 in
    let d = given_if (outside F x) 6 _ c b.1 in
    (ltb-false 31 F a.0, not-false (finite x) b.0, d.0, given_same (result_of F x) c d.1)

-- the two cases of `split`
pub whole_is : (s : Bool) (a d n : ℕ) → whole_of (split s a d n) ≡ signed s n
whole_is s a d n = ap whole_of (split_is s a d n) ∙ go (eqb (n * d) a)
  where
    go : (b : Bool) → whole_of (cond b (exact (signed s n)) (rounded (signed s n) (leftover s a d n))) ≡ signed s n
    go true = refl
    go false = refl

exact_is : (s : Bool) (a d n : ℕ) (N : ℤ) → split s a d n ≡ exact N → n * d ≡ a
exact_is s a d n N h = go (eqb (n * d) a) refl (sym (split_is s a d n) ∙ h)
  where
    go : (b : Bool) → eqb (n * d) a ≡ b → cond b (exact (signed s n)) (rounded (signed s n) (leftover s a d n)) ≡ exact N → n * d ≡ a
    go true e h = eqb-true (n * d) a e
    go false e h = let z : ◌≡◌ {A = ℕ} 0 1 = cc in absurd (omega arith)

rest_is : (s : Bool) (a d n : ℕ) (N : ℤ) (l : Float) → split s a d n ≡ rounded N l → (n * d ≡ a → ⊥) × (leftover s a d n ≡ l)
rest_is s a d n N l h = go (eqb (n * d) a) refl (sym (split_is s a d n) ∙ h)
  where
    go : (b : Bool) → eqb (n * d) a ≡ b → cond b (exact (signed s n)) (rounded (signed s n) (leftover s a d n)) ≡ rounded N l → (n * d ≡ a → ⊥) × (leftover s a d n ≡ l)
    go true e h = let z : ◌≡◌ {A = ℕ} 0 1 = cc in absurd (omega arith)
    go false e h = (eqb-false (n * d) a e, cc)

whole_of_lem : (F : ℕ) (s : Bool) (m : ℕ) (e : ℤ) (c : TapResult) → result_of F (fin s m e) ≡ c → signed s (nearest_whole (m * up e * 2 ^ F) (down e)) ≡ whole_of c
whole_of_lem F s m e c h =
    ap (signed s) (sym (size_is F s m e)) ∙ sym (whole_is s (m * up e * 2 ^ F) (down e) (size_of F (fin s m e))) ∙ ap whole_of (sym (result_is F s m e) ∙ h)

-- N is the nearest whole number, at a half the even one
pub nearest_even : (F : ℕ) (tap : Float) (c : TapResult) → rounded_tap F tap ≡ given c → NearestEven F tap (whole_of c)
nearest_even F nan c h = absurd (false≢true (passed F nan c h).1)
nearest_even F (inf s) c h = absurd (false≢true (passed F (inf s) c h).1)
nearest_even F (fin s m e) c h =
    subst (NearestEven F (fin s m e)) (whole_of_lem F s m e c (passed F (fin s m e) c h).3)
    (record { nearest = none_nearer s (m * up e * 2 ^ F) (down e) (down_pos e); even = even_as_near s (m * up e * 2 ^ F) (down e) (down_pos e) })

-- and no other whole number is
pub nearest_only : (F : ℕ) (tap : Float) (c : TapResult) (M : ℤ) → rounded_tap F tap ≡ given c → NearestEven F tap M → M ≡ whole_of c
nearest_only F nan c M h w = absurd (false≢true (passed F nan c h).1)
nearest_only F (inf s) c M h w = absurd (false≢true (passed F (inf s) c h).1)
nearest_only F (fin s m e) c M h w =
    no_other s (m * up e * 2 ^ F) (down e) (down_pos e) M w.nearest w.even ∙ whole_of_lem F s m e c (passed F (fin s m e) c h).3

-- an exact tap leaves nothing: tap × 2^F is N
pub exact_whole : (F : ℕ) (tap : Float) (N : ℤ) → rounded_tap F tap ≡ given (exact N) → numerator F tap ≡ N *ℤ pos (denominator tap)
exact_whole F nan N h = absurd (false≢true (passed F nan (exact N) h).1)
exact_whole F (inf s) N h = absurd (false≢true (passed F (inf s) (exact N) h).1)
exact_whole F (fin s m e) N h =
    let a = m * up e * 2 ^ F in
    let n = size_of F (fin s m e) in
    let p = (passed F (fin s m e) (exact N) h).3 in
    let q : n * down e ≡ a = exact_is s a (down e) n N (sym (result_is F s m e) ∙ p) in
    ap (signed s) (sym q) ∙ sym (signed_mul s n (down e)) ∙ ap (λ (z : ℤ). z *ℤ pos (down e)) (ap (signed s) (size_is F s m e) ∙ whole_of_lem F s m e (exact N) p)

-- ---- the leftover, by its value ±r / d
module _ (r d : ℕ) (D : 0 < d) (R : 0 < r) where
  some : (x g : ℕ) → 0 < g → x * d ≡ r * g → 0 < x
  some zero g G v = absurd (none (r * g) (sym v ∙ zero-mul d) (mul-pos R G))
    where
      none : (k : ℕ) → k ≡ 0 → 0 < k → ⊥
      none k e h = omega arith
  some (suc x) g G v = go x
    where
      go : (x : ℕ) → 0 < suc x
      go x = omega arith

  nonzero_at : (l : Float) (t : Bool) → HasValue l t r d → eq l (fin false 0 (pos 0)) ≡ false
  unfolding eq
  nonzero_at nan t v = absurd v
  nonzero_at (inf s) t v = absurd v
  nonzero_at (fin s p g) t v =
      ap (λ (b : Bool). b && (beq s false || eqb (p * up g * 1) 0))
      (ne_eqb (p * up g * 1) (0 * 1 * down g) (λ e. apart_zero (p * up g) (some (p * up g) (down g) (down_pos g) v.1) (sym (mul-one (p * up g)) ∙ e ∙ zero-mul (down g))))
    where
      apart_zero : (k : ℕ) → 0 < k → k ≡ 0 → ⊥
      apart_zero k h e = omega arith

  half_at : (l : Float) (t : Bool) → HasValue l t r d → r * 2 ≤ d → AtMostHalf l
  half_at nan t v h = absurd v
  half_at (inf s) t v h = absurd v
  half_at (fin s p g) t v h =
      le_of_mul-le-mul_right
      (le_trans (le_of_eq (mul_right_comm (p * up g) 2 d ∙ ap (λ (k : ℕ). k * 2) v.1 ∙ mul_right_comm r (down g) 2)) (le_trans (mul-le-mul_right (down g) h) (le_of_eq (mul_comm d (down g))))) D

-- what is at most a half is rounded to a finite number
abs_finite : (x : Float) → finite x ≡ finite (abs_of x)
abs_finite nan = refl
abs_finite (inf s) = refl
abs_finite (fin s m e) = refl

one_half : round binary64 false 1 2 ≡ fin false 1 (negsuc 0)
unfolding round
one_half = refl

low_finite : (x : Float) → abs_of x ≡ x → T (le x (fin false 1 (negsuc 0))) → finite x ≡ true
unfolding le
low_finite nan e t = absurd t
low_finite (inf true) e t = let z : false ≡ true = cc in absurd (false≢true z)
low_finite (inf false) e t = absurd t
low_finite (fin s m e) h t = refl

round_finite : (s : Bool) (r d : ℕ) → 0 < d → r * 2 ≤ d → finite (round binary64 s r d) ≡ true
round_finite s r d D h =
    abs_finite (round binary64 s r d)
    ∙ ap finite (round_abs s r d)
    ∙ low_finite (round binary64 false r d) (round_abs false r d)
    (subst (λ (x : Float). T (le (round binary64 false r d) x)) one_half (round_mono binary64 r d 1 2 D (lit< tt) (le_trans h (le_of_eq (sym (one-mul d))))))

finite_at : (l : Float) (t : Bool) (r d : ℕ) → HasValue l t r d → finite l ≡ true
finite_at nan t r d v = absurd v
finite_at (inf s) t r d v = absurd v
finite_at (fin s p g) t r d v = refl

exactly_at : (l : Float) (t : Bool) (r d : ℕ) (z : ℤ) → HasValue l t r d → z ≡ signed t r → Exactly l z d
exactly_at nan t r d z v e = absurd v
exactly_at (inf s) t r d z v e = absurd v
exactly_at (fin s p g) t r d z v e =
    signed_mul s (p * up g) d
    ∙ ap (signed s) v.1
    ∙ ap (λ (b : Bool). signed b (r * down g)) v.0
    ∙ sym (signed_mul t r (down g))
    ∙ ap (λ (y : ℤ). y *ℤ pos (down g)) (sym e)

half_apart : (x a d : ℕ) → (x * 2 ≤ a * 2 + d) × (a * 2 ≤ x * 2 + d) → apart a x * 2 ≤ d
half_apart x a d h = both x a d h.0 h.1
  where
    both : (x a d : ℕ) → x * 2 ≤ a * 2 + d → a * 2 ≤ x * 2 + d → apart a x * 2 ≤ d
    both x a d h k = omega arith

-- the leftover is tap × 2^F - N exactly, nonzero, and at most a half
pub leftover_of : (F : ℕ) (tap : Float) (N : ℤ) (l : Float) → T (fits binary64 tap) → rounded_tap F tap ≡ given (rounded N l) → ExactLeftover F tap N l
leftover_of F nan N l t h = absurd (false≢true (passed F nan (rounded N l) h).1)
leftover_of F (inf s) N l t h = absurd (false≢true (passed F (inf s) (rounded N l) h).1)
leftover_of F (fin s m e) N l t h =
    let a = m * up e * 2 ^ F in
    let d = down e in
    let n = nearest_whole a d in
    let p = passed F (fin s m e) (rounded N l) h in
    let w : (n * d ≡ a → ⊥) × (leftover s a d n ≡ l) = rest_is s a d n N l (ap (split s a d) (sym (size_is F s m e)) ∙ sym (result_is F s m e) ∙ p.3) in
    let v : HasValue l (side s a d n) (apart a (n * d)) d = subst (λ (x : Float). HasValue x (side s a d n) (apart a (n * d)) d) w.1 (leftover_exact s m e F p.0 t) in
    let r : 0 < apart a (n * d) = unequal (n * d) a w.0 in
    let k : signed s n ≡ N = whole_of_lem F s m e (rounded N l) p.3 in
    record {
      exactly = exactly_at l (side s a d n) (apart a (n * d)) d _ v (ap (λ (z : ℤ). signed s a -ℤ z *ℤ pos d) (sym k) ∙ difference_is s a d n);
      held = subst (λ (x : Float). T (fits binary64 x)) w.1 (leftover_fits s a d n);
      is_finite_lem = finite_at l (side s a d n) (apart a (n * d)) d v;
      nonzero = nonzero_at (apart a (n * d)) d (down_pos e) r l (side s a d n) v;
      at_most_half = half_at (apart a (n * d)) d (down_pos e) r l (side s a d n) v (half_apart (n * d) a d (nearest_near a d (down_pos e)));
    }
  where
    unequal : (x a : ℕ) → (x ≡ a → ⊥) → 0 < apart a x
    unequal x a h = pick (apart a x) refl
      where
        same : (x a : ℕ) → apart a x ≡ 0 → x ≡ a
        same x a e = omega arith

        pick : (k : ℕ) → apart a x ≡ k → 0 < apart a x
        pick zero e = absurd (h (same x a e))
        pick (suc k) e = subst (λ (j : ℕ). 0 < j) (sym e) (go k)
          where
            go : (k : ℕ) → 0 < suc k
            go k = omega arith

-- "A tap of -0 is exact, N = 0"
pub minus_zero : (F : ℕ) → F ≤ 31 → rounded_tap F (fin true 0 (pos 0)) ≡ given (exact (pos 0))
minus_zero F h =
    of_finite F (fin true 0 (pos 0)) h refl
    ∙ check_passes (outside F (fin true 0 (pos 0))) 6 _ (outside_is F true 0 (pos 0) ∙ le-ltb (most true) (size_of F (fin true 0 (pos 0))) (low (size_of F (fin true 0 (pos 0))) none))
    ∙ ap given
    (result_is F true 0 (pos 0)
    ∙ ap (split true (0 * 1 * 2 ^ F) 1) none
    ∙ split_is true (0 * 1 * 2 ^ F) 1 0
    ∙ ap (λ (b : Bool). cond b (exact (pos 0)) (rounded (pos 0) (leftover true (0 * 1 * 2 ^ F) 1 0))) (eq-eqb (0 * 1) (0 * 1 * 2 ^ F) (sym (zero-mul (2 ^ F)))))
  where
    none : size_of F (fin true 0 (pos 0)) ≡ 0
    none = size_is F true 0 (pos 0) ∙ nearest_whole_lem (0 * 1 * 2 ^ F) 0 1 (lit< tt) (zero-mul (2 ^ F))

    low : (n : ℕ) → n ≡ 0 → n ≤ 2 ^ 31
    low n e = omega arith

-- no leftover is a not-a-number
pub finite_number : (l : Float) → finite l ≡ true → is_nan l ≡ false
unfolding is_nan
finite_number nan h = absurd (false≢true h)
finite_number (inf s) h = refl
finite_number (fin s m e) h = refl

pub left_finite : (F : ℕ) (tap : Float) (c : TapResult) → rounded_tap F tap ≡ given c → finite (left_of c) ≡ true
left_finite F tap (exact N) h = refl
left_finite F nan (rounded N l) h = absurd (false≢true (passed F nan (rounded N l) h).1)
left_finite F (inf s) (rounded N l) h = absurd (false≢true (passed F (inf s) (rounded N l) h).1)
left_finite F (fin s m e) (rounded N l) h =
    let a = m * up e * 2 ^ F in
    let d = down e in
    let n = nearest_whole a d in
    let p = passed F (fin s m e) (rounded N l) h in
    let w = rest_is s a d n N l (ap (split s a d) (sym (size_is F s m e)) ∙ sym (result_is F s m e) ∙ p.3) in
    ap finite (sym w.1 ∙ one_round s a d n) ∙ round_finite (side s a d n) (apart a (n * d)) d (down_pos e) (half_apart (n * d) a d (nearest_near a d (down_pos e)))

pub never_nan : (F : ℕ) (tap : Float) (c : TapResult) → rounded_tap F tap ≡ given c → is_nan (left_of c) ≡ false
never_nan F tap c h = finite_number (left_of c) (left_finite F tap c h)
