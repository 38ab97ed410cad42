-- The digits of a mask that is made from its high end. Assumes nothing.
use mathlib.Core.Path.{◌≡◌, refl, sym, ap, subst, ◌∙◌}
use mathlib.Core.Bool.{Bool, true, false}
use mathlib.Core.Logic.{⊎_elim}
use Prim.Native.Nat.{ℕ, suc, ◌+◌, ◌*◌, ◌-◌, ◌/◌, ◌%◌, ◌^◌, ◌≤◌, ◌<◌}
use native.Mathlib.Nat.{eq-or-lt_of_le, pow-suc}
use native.Mathlib.Omega.{arith}
use lib.Pow.{shr-shr}
use mir.Val.{bool_byte}

-- a digit below the others
digit_above : (m b e : ℕ) → b ≤ 1 → (2 * m + b) / 2 ^ suc e ≡ m / 2 ^ e
digit_above m b e h =
    let half : (2 * m + b) / 2 ≡ m = omega arith in
    let q : 1 + e ≡ suc e = omega arith in
    ap (λ (k : ℕ). (2 * m + b) / 2 ^ k) (sym q) ∙ sym (shr-shr (2 * m + b) 1 e) ∙ ap (λ (x : ℕ). x / 2 ^ e) half

-- a digit that says whether
digit_small : (t : Bool) → bool_byte t ≤ 1
digit_small true = omega arith
digit_small false = omega arith

digit_zero : (t : Bool) → bool_byte t ≡ 0 → t ≡ false
digit_zero true e = absurd (omega (arith, e))
digit_zero false e = refl

-- a mask of the numbers from i to 7, and of one more
pub mask_more : (m : ℕ) (t : Bool) (i : ℕ) → 1 ≤ i → i ≤ 8 → m < 2 ^ (8 - i) → 2 * m + bool_byte t < 2 ^ (8 - (i - 1))
mask_more m t i k o l =
    let q : 8 - (i - 1) ≡ suc (8 - i) = omega arith in
    subst (λ (e : ℕ). 2 * m + bool_byte t < 2 ^ e) (sym q) (omega (arith, digit_small t, pow-suc 2 (8 - i)))

module _ (P : ℕ → Type 0) where
  -- P holds of a number whose digit is 0
  abbrev pub Zeros : ℕ → ℕ → Type 0
  Zeros m i = (j : ℕ) → i ≤ j → j < 8 → m / 2 ^ (j - i) % 2 ≡ 0 → P j

  pub zeros_more : (m : ℕ) (t : Bool) (i : ℕ) → 1 ≤ i → Zeros m i → (t ≡ false → P (i - 1)) → Zeros (2 * m + bool_byte t) (i - 1)
  zeros_more m t i k z p j from to e =
      ⊎_elim
      (λ (same : i - 1 ≡ j).
      let q : j - (i - 1) ≡ 0 = omega arith in
      let d : (2 * m + bool_byte t) / 2 ^ 0 % 2 ≡ 0 = ap (λ (x : ℕ). (2 * m + bool_byte t) / 2 ^ x % 2) (sym q) ∙ e in
      subst P same (p (digit_zero t (omega (arith, digit_small t)))))
      (λ (above : i - 1 < j).
      let q : suc (j - i) ≡ j - (i - 1) = omega arith in
      z j (omega arith) to (ap (λ (x : ℕ). x % 2) (sym (digit_above m (bool_byte t) (j - i) (digit_small t))) ∙ ap (λ (x : ℕ). (2 * m + bool_byte t) / 2 ^ x % 2) q ∙ e))
      (eq-or-lt_of_le from)
