-- The bits of a signed number n of width w, in a width v that is as wide or wider: one law for every pair of widths. Assumes nothing.
use mathlib.Core.Path.{◌≡◌, refl, sym, subst, ◌∙◌, ap}
use mathlib.Core.Bool.{true, false}
use Prim.Native.Nat.{suc, ◌+◌, ◌-◌, ◌^◌, ◌<◌, ◌≤◌}
use native.Mathlib.Omega.{arith}
use borrow.Author.Tests.{ltb-true, le-ltb}
use lib.Dec.{T, ltb}
use lib.IntN.{ℤ, pos, negsuc, nat_abs, ◌-ℤ◌}
use lib.Signed.{mag, lt_z, non_neg}
use mir.Syntax.{Width}
use mir.Val.{SFits, Fits, to_z, of_z, bits, hbits}
use mir.ValLaws.{to_z-of_z, to_z_pos, half_full}

module _ (w : Width) where
  -- all bits of a negative number turned over are its magnitude less one
  turned : (n : ℤ) → SFits w n → lt_z n (pos 0) ≡ true → to_z w (2 ^ bits w - 1 - of_z w n) ≡ pos (mag n)
  turned (pos k) h p = absurd (omega (arith, ltb-true k 0 p))
  turned (negsuc k) h p =
      let e : 2 ^ bits w - 1 - (2 ^ bits w - suc k) ≡ k = omega (arith, half_full w h.sfits) in
      ap (to_z w) e ∙ to_z_pos w k h.sfits

  neg_pattern : (v : Width) (n : ℤ) → mag n < 2 ^ bits v → lt_z n (pos 0) ≡ true → 2 ^ bits v - 1 - mag n ≡ of_z v n
  neg_pattern v (pos k) h p = absurd (omega (arith, ltb-true k 0 p))
  neg_pattern v (negsuc k) h p = omega (arith, h)

  -- -1 less a negative number is its magnitude less one
  less_one : (n : ℤ) → lt_z n (pos 0) ≡ true → negsuc 0 -ℤ n ≡ pos (mag n)
  less_one (pos k) p = absurd (omega (arith, ltb-true k 0 p))
  less_one (negsuc k) p =
      let e : ltb (suc k) 1 ≡ false = le-ltb (suc k) 1 (omega arith) in
      rw e (ap pos (omega arith))

  neg_abs : (n : ℤ) → lt_z n (pos 0) ≡ true → mag n + 1 ≡ nat_abs n
  neg_abs (pos k) p = absurd (omega (arith, ltb-true k 0 p))
  neg_abs (negsuc k) p = omega arith

  nonneg : (n : ℤ) → lt_z n (pos 0) ≡ false → n ≡ pos (mag n)
  nonneg (pos k) p = refl
  nonneg (negsuc k) p = absurd (subst T p tt)

  module _ (v : Width) (n : ℤ) (h : SFits w n) (wide : 2 ^ hbits w ≤ 2 ^ hbits v) where
    room : mag n < 2 ^ bits v
    room = half_full v (omega (arith, h.sfits, wide))

    pub low : lt_z (to_z w (of_z w n)) (pos 0) ≡ true → lt_z n (pos 0) ≡ true
    low p = rw (to_z-of_z w n h) at p

    -- n is negative
    pub neg_cast : lt_z (to_z w (of_z w n)) (pos 0) ≡ true → T (non_neg (to_z w (2 ^ bits w - 1 - of_z w n))) × Fits v (nat_abs (to_z w (2 ^ bits w - 1 - of_z w n)))
    neg_cast p = rw (turned n h (low p)) (tt, record { fits = room })

    pub neg_small : lt_z (to_z w (of_z w n)) (pos 0) ≡ true → nat_abs (to_z w (2 ^ bits w - 1 - of_z w n)) < 2 ^ hbits v
    neg_small p = rw (turned n h (low p)) (omega (arith, h.sfits, wide))

    pub neg_is : lt_z (to_z w (of_z w n)) (pos 0) ≡ true → 2 ^ bits v - 1 - nat_abs (to_z w (2 ^ bits w - 1 - of_z w n)) ≡ of_z v n
    neg_is p = rw (turned n h (low p)) (neg_pattern v n room (low p))

    pub neg_mag : lt_z (to_z w (of_z w n)) (pos 0) ≡ true → nat_abs (to_z w (2 ^ bits w - 1 - of_z w n)) ≡ mag n
    neg_mag p = ap nat_abs (turned n h (low p))

    less_one_is : lt_z (to_z w (of_z w n)) (pos 0) ≡ true → negsuc 0 -ℤ to_z w (of_z w n) ≡ pos (mag n)
    less_one_is p = ap (λ (z : ℤ). negsuc 0 -ℤ z) (to_z-of_z w n h) ∙ less_one n (low p)

    pub less_one_fits : lt_z (to_z w (of_z w n)) (pos 0) ≡ true → SFits w (negsuc 0 -ℤ to_z w (of_z w n))
    less_one_fits p = subst (λ (z : ℤ). SFits w z) (sym (less_one_is p)) (record { sfits = h.sfits })

    less_one_back : lt_z (to_z w (of_z w n)) (pos 0) ≡ true → to_z w (of_z w (negsuc 0 -ℤ to_z w (of_z w n))) ≡ pos (mag n)
    less_one_back p = to_z-of_z w (negsuc 0 -ℤ to_z w (of_z w n)) (less_one_fits p) ∙ less_one_is p

    pub less_one_cast : lt_z (to_z w (of_z w n)) (pos 0) ≡ true → T (non_neg (to_z w (of_z w (negsuc 0 -ℤ to_z w (of_z w n))))) × Fits v (nat_abs (to_z w (of_z w (negsuc 0 -ℤ to_z w (of_z w n)))))
    less_one_cast p = subst (λ (z : ℤ). T (non_neg z) × Fits v (nat_abs z)) (sym (less_one_back p)) (tt, record { fits = room })

    pub less_one_small : lt_z (to_z w (of_z w n)) (pos 0) ≡ true → nat_abs (to_z w (of_z w (negsuc 0 -ℤ to_z w (of_z w n)))) < 2 ^ hbits v
    less_one_small p = subst (λ (z : ℤ). nat_abs z < 2 ^ hbits v) (sym (less_one_back p)) (omega (arith, h.sfits, wide))

    pub less_one_abs : lt_z (to_z w (of_z w n)) (pos 0) ≡ true → nat_abs (to_z w (of_z w (negsuc 0 -ℤ to_z w (of_z w n)))) + 1 ≡ nat_abs n
    less_one_abs p = ap (λ (z : ℤ). nat_abs z + 1) (less_one_back p) ∙ neg_abs n (low p)

    -- n is not negative
    pub high : lt_z (to_z w (of_z w n)) (pos 0) ≡ false → lt_z n (pos 0) ≡ false
    high p = rw (to_z-of_z w n h) at p

    pub pos_mag : lt_z (to_z w (of_z w n)) (pos 0) ≡ false → nat_abs (to_z w (of_z w n)) ≡ mag n
    pos_mag p = ap nat_abs (to_z-of_z w n h ∙ nonneg n (high p))

    pub pos_cast : lt_z (to_z w (of_z w n)) (pos 0) ≡ false → T (non_neg (to_z w (of_z w n))) × Fits v (nat_abs (to_z w (of_z w n)))
    pos_cast p = rw (to_z-of_z w n h) (rw (nonneg n (rw (to_z-of_z w n h) at p)) (tt, record { fits = room }))

    pub pos_is : lt_z (to_z w (of_z w n)) (pos 0) ≡ false → nat_abs (to_z w (of_z w n)) ≡ of_z v n
    pos_is p = rw (to_z-of_z w n h) (rw (nonneg n (rw (to_z-of_z w n h) at p)))

    pub pos_abs : nat_abs (to_z w (of_z w n)) ≡ nat_abs n
    pos_abs = ap nat_abs (to_z-of_z w n h)
