-- The rows of a block of cells, and their masks. Assumes nothing.
use mathlib.Core.Path.{◌≡◌, ap, ap₂, ◌∙◌}
use mathlib.Core.List.{List}
use Prim.Native.Nat.{ℕ, ◌+◌, ◌*◌, ◌<◌, ◌/◌, ◌%◌, ◌^◌}
use native.Mathlib.Omega.{arith}
use lib.ListN.{get_or}
use Rattle.sequence.specs.UpTo.{up_to}
use Rattle.sequence.proofs.UpTo.{get_d_up_to, up_to_same}
use Rattle.plane_masks.specs.Binary.{bit_at}
use Rattle.plane_masks.specs.Planes.{plane_bit, cell_mask}
use Rattle.plane_masks.proofs.Binary.{binary_ext}
use Rattle.plane_blocks.specs.Inner.{column, transposed, half_word}
use Rattle.plane_blocks.proofs.Shifts.{shr_bit, mod_bit}

module _ (table rows : List ℕ) (block : ℕ) (is : rows ≡ up_to 32 (half_word table block)) where
  row_bit : (p b : ℕ) → p < 32 → b < 32 → bit_at (get_or rows p 0) b ≡ plane_bit table p (32 * block + b)
  unfolding half_word
  row_bit p b h l =
      let x : ℕ = get_or table (4 * p + block / 2) 0 in
      let word : 4 * p + block / 2 ≡ 4 * p + (32 * block + b) / 64 = omega arith in
      let place : 32 * (block % 2) + b ≡ (32 * block + b) % 64 = omega arith in
      ap (λ (y : ℕ). bit_at y b) (ap (λ (t : List ℕ). get_or t p 0) is ∙ get_d_up_to 32 (half_word table block) 0 p h)
      ∙ mod_bit (x / 2 ^ (32 * (block % 2))) 32 b l
      ∙ shr_bit x (32 * (block % 2)) b
      ∙ ap₂ (λ (k i : ℕ). bit_at (get_or table k 0) i) word place

  column_mask : (b : ℕ) → b < 32 → column rows b ≡ cell_mask table (32 * block + b)
  unfolding column cell_mask
  column_mask b l = binary_ext 32 (λ (p : ℕ). bit_at (get_or rows p 0) b) (λ (p : ℕ). plane_bit table p (32 * block + b)) (λ (p : ℕ) h. row_bit p b h l)

  pub transposed_masks : transposed rows ≡ up_to 32 (λ (b : ℕ). cell_mask table (32 * block + b))
  unfolding transposed
  transposed_masks = up_to_same (column rows) (λ (b : ℕ). cell_mask table (32 * block + b)) 32 column_mask
