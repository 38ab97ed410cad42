-- A row's sum or difference, a sign and a shift of multiples of a whole number x. Assumes nothing.
use mathlib.Core.Path.{◌≡◌, refl, sym, ap, ◌∙◌}
use mathlib.Core.Bool.{Bool, true, false, cond}
use Prim.Native.Nat.{ℕ, zero, suc, ◌*◌, ◌^◌}
use native.Mathlib.Nat.{two-pow-succ, add-mul, one-mul}
use lib.Dec.{eqb}
use lib.IntN.{ℤ, pos, neg_ℤ, ◌+ℤ◌, ◌-ℤ◌, ◌*ℤ◌, zero-*ℤ}
use Rattle.word.proofs.Multiples.{sum_times, negative_times, difference_times}
use Rattle.network.specs.Rows.{plus, minus}
use Rattle.network.specs.RowRule.{combined, lifted}
use Rattle.network.specs.Coefficients.{with_sign}
use Rattle.network.specs.Evaluation.{shifted_up}

module _ (x : ℤ) where
  -- ---- a sum or difference by its sign
  pub combined_times : (sign : ℕ) (a b : ℤ) → combined sign (a *ℤ x) (b *ℤ x) ≡ combined sign a b *ℤ x
  combined_times sign a b = go (eqb sign plus) (eqb sign minus)
    where
      go : (p q : Bool) → cond p (a *ℤ x +ℤ b *ℤ x) (cond q (a *ℤ x -ℤ b *ℤ x) (b *ℤ x -ℤ a *ℤ x)) ≡ cond p (a +ℤ b) (cond q (a -ℤ b) (b -ℤ a)) *ℤ x
      go true q = sym (sum_times x a b)
      go false true = sym (difference_times x a b)
      go false false = sym (difference_times x b a)

  pub signed_times : (sign : ℕ) (z : ℤ) → with_sign sign (z *ℤ x) ≡ with_sign sign z *ℤ x
  signed_times sign z = go (eqb sign plus) (eqb sign minus)
    where
      go : (p q : Bool) → cond p (z *ℤ x) (cond q (neg_ℤ (z *ℤ x)) (pos 0)) ≡ cond p z (cond q (neg_ℤ z) (pos 0)) *ℤ x
      go true q = refl
      go false true = sym (negative_times x z)
      go false false = sym (zero-*ℤ x)

  -- ---- a shift
  pub shifted_times : (s v : ℕ) → shifted_up s (pos v *ℤ x) ≡ pos (lifted s v) *ℤ x
  shifted_times zero v = ap (λ (n : ℕ). pos n *ℤ x) (sym (one-mul v))
  shifted_times (suc s) v =
      ap (λ (z : ℤ). z +ℤ z) (shifted_times s v)
      ∙ sym (sum_times x (pos (lifted s v)) (pos (lifted s v)))
      ∙ ap (λ (n : ℕ). pos n *ℤ x) (sym (ap (λ (n : ℕ). n * v) (two-pow-succ s) ∙ add-mul (2 ^ s) (2 ^ s) v))
