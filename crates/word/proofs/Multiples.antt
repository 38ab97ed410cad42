-- Sums, differences and negatives of the multiples of a whole number x. Assumes nothing.
use mathlib.Core.Path.{◌≡◌, sym, ap, ◌∙◌}
use Prim.Native.Nat.{zero, suc}
use lib.IntN.{ℤ, pos, negsuc, neg_ℤ, pred_ℤ, suc_ℤ, ◌+ℤ◌, ◌-ℤ◌, ◌*ℤ◌, +ℤ_idr, +ℤ-suc_ℤ, +ℤ-pred_ℤ, +ℤ_assoc, +ℤ_idl, suc_ℤ-*ℤ, pred_ℤ-*ℤ, zero-*ℤ, +ℤ_invr, +ℤ_invl}

module _ (x : ℤ) where
  -- the two steps of the induction
  up : (m k : ℤ) → (m +ℤ k) *ℤ x ≡ m *ℤ x +ℤ k *ℤ x → (m +ℤ suc_ℤ k) *ℤ x ≡ m *ℤ x +ℤ suc_ℤ k *ℤ x
  up m k e =
      ap (λ (z : ℤ). z *ℤ x) (+ℤ-suc_ℤ m k)
      ∙ suc_ℤ-*ℤ (m +ℤ k) x
      ∙ ap (λ (z : ℤ). z +ℤ x) e
      ∙ +ℤ_assoc (m *ℤ x) (k *ℤ x) x
      ∙ ap (λ (z : ℤ). m *ℤ x +ℤ z) (sym (suc_ℤ-*ℤ k x))

  down : (m k : ℤ) → (m +ℤ k) *ℤ x ≡ m *ℤ x +ℤ k *ℤ x → (m +ℤ pred_ℤ k) *ℤ x ≡ m *ℤ x +ℤ pred_ℤ k *ℤ x
  down m k e =
      ap (λ (z : ℤ). z *ℤ x) (+ℤ-pred_ℤ m k)
      ∙ pred_ℤ-*ℤ (m +ℤ k) x
      ∙ ap (λ (z : ℤ). z -ℤ x) e
      ∙ +ℤ_assoc (m *ℤ x) (k *ℤ x) (neg_ℤ x)
      ∙ ap (λ (z : ℤ). m *ℤ x +ℤ z) (sym (pred_ℤ-*ℤ k x))

  none : (m : ℤ) → (m +ℤ pos 0) *ℤ x ≡ m *ℤ x +ℤ pos 0 *ℤ x
  none m = ap (λ (z : ℤ). z *ℤ x) (+ℤ_idr m) ∙ sym (ap (λ (z : ℤ). m *ℤ x +ℤ z) (zero-*ℤ x) ∙ +ℤ_idr (m *ℤ x))

  pub sum_times : (m k : ℤ) → (m +ℤ k) *ℤ x ≡ m *ℤ x +ℤ k *ℤ x
  sum_times m (pos zero) = none m
  sum_times m (pos (suc n)) = up m (pos n) (sum_times m (pos n))
  sum_times m (negsuc zero) = down m (pos 0) (none m)
  sum_times m (negsuc (suc n)) = down m (negsuc n) (sum_times m (negsuc n))

  pub negative_times : (m : ℤ) → neg_ℤ m *ℤ x ≡ neg_ℤ (m *ℤ x)
  negative_times m = only (m *ℤ x) (neg_ℤ m *ℤ x) (sym (sum_times m (neg_ℤ m)) ∙ ap (λ (z : ℤ). z *ℤ x) (+ℤ_invr m) ∙ zero-*ℤ x)
    where
      only : (a b : ℤ) → a +ℤ b ≡ pos 0 → b ≡ neg_ℤ a
      only a b e = sym (+ℤ_idl b) ∙ ap (λ (z : ℤ). z +ℤ b) (sym (+ℤ_invl a)) ∙ +ℤ_assoc (neg_ℤ a) a b ∙ ap (λ (z : ℤ). neg_ℤ a +ℤ z) e ∙ +ℤ_idr (neg_ℤ a)

  pub difference_times : (m k : ℤ) → (m -ℤ k) *ℤ x ≡ m *ℤ x -ℤ k *ℤ x
  difference_times m k = sum_times m (neg_ℤ k) ∙ ap (λ (z : ℤ). m *ℤ x +ℤ z) (negative_times k)

  pub one_times : pos 1 *ℤ x ≡ x
  one_times = suc_ℤ-*ℤ (pos 0) x ∙ ap (λ (z : ℤ). z +ℤ x) (zero-*ℤ x) ∙ +ℤ_idl x
