-- The mask of a cell read from plane 31 down: what the planes from p on give. Assumes nothing.
use mathlib.Core.Path.{◌≡◌, refl, ap, ap₂, ◌∙◌}
use mathlib.Core.List.{List}
use Prim.Native.Nat.{ℕ, suc, ◌+◌, ◌-◌, ◌*◌, ◌≤◌, ◌<◌, ◌/◌, ◌%◌, ◌^◌}
use native.Mathlib.Nat.{pow-le-pow_right}
use native.Mathlib.Omega.{arith}
use lib.ListN.{get_or}
use Rattle.plane_masks.specs.Binary.{binary}
use Rattle.plane_masks.specs.Planes.{plane_bit, cell_mask}
use Rattle.plane_masks.proofs.Binary.{bit_small, binary_ext, binary_low, binary_small}

module _ (table : List ℕ) (c : ℕ) where
  -- the bits of the planes from p on
  unfoldable pub high_mask : ℕ → ℕ → ℕ
  high_mask n p = binary n (λ (i : ℕ). plane_bit table (p + i) c)

  pub high_start : high_mask 0 32 ≡ 0
  unfolding high_mask binary
  high_start = refl

  pub high_next : (n p : ℕ) → high_mask (suc n) p ≡ plane_bit table p c + 2 * high_mask n (suc p)
  unfolding high_mask
  high_next n p =
      let z : p + 0 ≡ p = omega arith in
      binary_low n (λ (i : ℕ). plane_bit table (p + i) c)
      ∙ ap₂ (λ (x y : ℕ). plane_bit table x c + 2 * y) z (binary_ext n (λ (i : ℕ). plane_bit table (p + suc i) c) (λ (i : ℕ). plane_bit table (suc p + i) c) same)
    where
      same : (i : ℕ) → i < n → plane_bit table (p + suc i) c ≡ plane_bit table (suc p + i) c
      same i h = let q : p + suc i ≡ suc p + i = omega arith in ap (λ (p : ℕ). plane_bit table p c) q

  pub high_small : (n p : ℕ) → high_mask n p < 2 ^ n
  unfolding high_mask
  high_small n p = binary_small n (λ (i : ℕ). plane_bit table (p + i) c) (λ (i : ℕ). bit_small (get_or table (4 * (p + i) + c / 64) 0) (c % 64))

  pub high_end : high_mask 32 0 ≡ cell_mask table c
  unfolding high_mask cell_mask
  high_end = binary_ext 32 (λ (i : ℕ). plane_bit table (0 + i) c) (λ (p : ℕ). plane_bit table p c) (λ (i : ℕ) h. let q : 0 + i ≡ i = omega arith in ap (λ (p : ℕ). plane_bit table p c) q)

  -- one plane more
  pub high_step : (p m : ℕ) → 0 < p → p ≤ 32 → m ≡ high_mask (32 - p) p → 2 * m + plane_bit table (p - 1) c ≡ high_mask (32 - (p - 1)) (p - 1)
  high_step p m h l e =
      let q : suc (p - 1) ≡ p = omega arith in
      let r : suc (32 - p) ≡ 32 - (p - 1) = omega arith in
      omega (arith, e, ap (high_mask (32 - p)) q, high_next (32 - p) (p - 1), ap (λ (n : ℕ). high_mask n (p - 1)) r)

  pub high_fits : (p m : ℕ) → p ≤ 32 → m ≡ high_mask (32 - p) p → m < 2 ^ 32
  high_fits p m l e =
      let k : 32 - p ≤ 32 = omega arith in
      let g : 2 ^ (32 - p) ≤ 2 ^ 32 = pow-le-pow_right (omega arith) k in
      omega (arith, high_small (32 - p) p)
