-- The bits of a word that is shifted, or cut off above. Assumes nothing.
use mathlib.Core.Path.{◌≡◌, sym, ap, ◌∙◌}
use Prim.Native.Nat.{ℕ, suc, ◌+◌, ◌-◌, ◌*◌, ◌≤◌, ◌<◌, ◌/◌, ◌%◌, ◌^◌}
use native.Mathlib.Nat.{mul_assoc}
use native.Mathlib.Omega.{arith}
use lib.Bits.{shifted_even}
use lib.Pow.{pow-add, shl-shr, shr-shr, field, mod-mod-pow}
use Rattle.plane_masks.specs.Binary.{bit_at}

pub shr_bit : (x j b : ℕ) → bit_at (x / 2 ^ j) b ≡ bit_at x (j + b)
shr_bit x j b = ap (λ (y : ℕ). y % 2) (shr-shr x j b)

pub mod_bit : (x w b : ℕ) → b < w → bit_at (x % 2 ^ w) b ≡ bit_at x b
mod_bit x w b h =
    let k : ℕ = w - b - 1 in
    let e : w ≡ k + 1 + b = omega arith in
    ap (λ (n : ℕ). bit_at (x % 2 ^ n) b) e ∙ ap (λ (y : ℕ). y % 2) (field x (k + 1) b) ∙ mod-mod-pow (x / 2 ^ b) k 1

-- j places up
pub shl_bit : (x j b : ℕ) → j ≤ b → bit_at (x * 2 ^ j) b ≡ bit_at x (b - j)
shl_bit x j b h =
    let e : b ≡ j + (b - j) = omega arith in
    ap (bit_at (x * 2 ^ j)) e ∙ sym (shr_bit (x * 2 ^ j) j (b - j)) ∙ ap (λ (y : ℕ). bit_at y (b - j)) (shl-shr x j)

pub shl_below : (x j b : ℕ) → b < j → bit_at (x * 2 ^ j) b ≡ 0
shl_below x j b h =
    let k : ℕ = j - b - 1 in
    let e : j ≡ suc k + b = omega arith in
    let p : x * 2 ^ j ≡ x * 2 ^ suc k * 2 ^ b = ap (λ (n : ℕ). x * 2 ^ n) e ∙ ap (λ (n : ℕ). x * n) (pow-add 2 (suc k) b) ∙ sym (mul_assoc x (2 ^ suc k) (2 ^ b)) in
    ap (λ (y : ℕ). bit_at y b) p ∙ ap (λ (y : ℕ). y % 2) (shl-shr (x * 2 ^ suc k) b) ∙ shifted_even x k

-- j places up in a word of w places
module _ (x w j b : ℕ) (h : b < w) where
  pub up_bit : j ≤ b → bit_at (x * 2 ^ j % 2 ^ w) b ≡ bit_at x (b - j)
  up_bit l = mod_bit (x * 2 ^ j) w b h ∙ shl_bit x j b l

  pub up_below : b < j → bit_at (x * 2 ^ j % 2 ^ w) b ≡ 0
  up_below l = mod_bit (x * 2 ^ j) w b h ∙ shl_below x j b l
