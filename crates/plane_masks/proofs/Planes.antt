-- The bits of words and of masks. Assumes nothing.
use mathlib.Core.Path.{◌≡◌, refl, sym, ap, ap₂, ◌∙◌}
use mathlib.Core.Bool.{Bool, true, false}
use mathlib.Core.List.{List, [], ◌++◌}
use Prim.Native.Nat.{ℕ, ◌+◌, ◌-◌, ◌*◌, ◌≤◌, ◌<◌, ◌/◌, ◌%◌, ◌^◌}
use native.Mathlib.Nat.{pow-le-pow_right, mod-eq_of_lt}
use native.Mathlib.Omega.{arith}
use borrow.Author.Tests.{ltb-true, ltb-false}
use lib.Dec.{ltb}
use lib.ListN.{length, get_or, get_or-append, get_or-eq_default}
use Rattle.sequence.specs.UpTo.{up_to}
use Rattle.sequence.proofs.UpTo.{length_up_to, get_d_up_to, up_to_same}
use Rattle.plane_masks.specs.Binary.{bit_at, binary}
use Rattle.plane_masks.specs.Planes.{plane_bit, cell_mask, cell_masks, plane_word, plane_words_of, past_cleared}
use Rattle.plane_masks.specs.Claims.{AllBelow}
use Rattle.plane_masks.proofs.Lists.{listed}
use Rattle.plane_masks.proofs.Binary.{bit_small, no_bit, binary_ext, binary_small, binary_bit, binary_top, binary_of, binary_whole}

-- ---- the words written for masks
module _ (masks : List ℕ) where
  pub words_length : length (plane_words_of masks) ≡ 128
  unfolding plane_words_of
  words_length = length_up_to 128 (plane_word masks)

  pub word_at : (k : ℕ) → k < 128 → get_or (plane_words_of masks) k 0 ≡ plane_word masks k
  unfolding plane_words_of
  word_at k h = get_d_up_to 128 (plane_word masks) 0 k h

  -- bit b of word k
  pub word_bit : (k b : ℕ) → b < 64 → bit_at (plane_word masks k) b ≡ bit_at (get_or masks (64 * (k % 4) + b) 0) (k / 4)
  unfolding plane_word
  word_bit k b h =
      binary_bit 64 (λ (b : ℕ). bit_at (get_or masks (64 * (k % 4) + b) 0) (k / 4)) (λ (b : ℕ). bit_small (get_or masks (64 * (k % 4) + b) 0) (k / 4)) b h

  -- cell c in plane p, whatever lies past the words
  pub written_bit : (rest : List ℕ) (c p : ℕ) → c < 256 → p < 32 → plane_bit (plane_words_of masks ++ rest) p c ≡ bit_at (get_or masks c 0) p
  written_bit rest c p h l =
      let k : ℕ = 4 * p + c / 64 in
      let cell : 64 * (k % 4) + c % 64 ≡ c = omega arith in
      let plane : k / 4 ≡ p = omega arith in
      ap (λ (w : ℕ). bit_at w (c % 64)) (get_or-append (plane_words_of masks) rest 0 k (omega (arith, words_length)) ∙ word_at k (omega arith))
      ∙ word_bit k (c % 64) (omega arith)
      ∙ ap₂ (λ (i j : ℕ). bit_at (get_or masks i 0) j) cell plane

-- of no cells
word_none : (k : ℕ) → plane_word [] k ≡ 0
unfolding plane_word binary
word_none k = binary_top 0 64 (λ (b : ℕ). bit_at 0 (k / 4)) (λ b h. no_bit (k / 4))

pub no_words : plane_words_of [] ≡ up_to 128 (λ (k : ℕ). 0)
unfolding plane_words_of
no_words = up_to_same (plane_word []) (λ (k : ℕ). 0) 128 (λ k h. word_none k)

-- ---- the masks that a table holds
module _ (table : List ℕ) (c : ℕ) where
  pub mask_small : cell_mask table c < 2 ^ 32
  unfolding cell_mask
  mask_small = binary_small 32 (λ (p : ℕ). plane_bit table p c) (λ (p : ℕ). bit_small (get_or table (4 * p + c / 64) 0) (c % 64))

  pub mask_bit : (p : ℕ) → p < 32 → bit_at (cell_mask table c) p ≡ plane_bit table p c
  unfolding cell_mask
  mask_bit p h = binary_bit 32 (λ (p : ℕ). plane_bit table p c) (λ (p : ℕ). bit_small (get_or table (4 * p + c / 64) 0) (c % 64)) p h

-- ---- back and there
-- the low k bits of a word
pub low_bits : (x k n : ℕ) (f : ℕ → ℕ) → x < 2 ^ n → ((b : ℕ) → b < k → b < n → f b ≡ bit_at x b) → ((b : ℕ) → k ≤ b → f b ≡ 0) → binary n f ≡ x % 2 ^ k
low_bits x k n f h below past = go (ltb k n) refl
  where
    go : (t : Bool) → ltb k n ≡ t → binary n f ≡ x % 2 ^ k
    go true e =
        let l : k < n = ltb-true k n e in
        let s : n ≡ k + (n - k) = omega arith in
        ap (λ (m : ℕ). binary m f) s
        ∙ binary_top k (n - k) f past
        ∙ binary_ext k f (bit_at x) (λ (b : ℕ) (i : b < k). below b i (omega arith))
        ∙ binary_of k x
    go false e =
        let l : n ≤ k = ltb-false k n e in
        let g : 2 ^ n ≤ 2 ^ k = pow-le-pow_right (omega arith) l in
        binary_ext n f (bit_at x) (λ (b : ℕ) (i : b < n). below b (omega arith) i)
        ∙ binary_whole n x h
        ∙ sym (mod-eq_of_lt (omega arith))

module _ (cells : ℕ) (table : List ℕ) (room : cells ≤ 256) (small : AllBelow (2 ^ 64) table) where
  masks_in : (c : ℕ) → c < cells → get_or (cell_masks cells table) c 0 ≡ cell_mask table c
  unfolding cell_masks
  masks_in c h = get_d_up_to cells (cell_mask table) 0 c h

  masks_past : (c : ℕ) → cells ≤ c → get_or (cell_masks cells table) c 0 ≡ 0
  unfolding cell_masks
  masks_past c h = get_or-eq_default (up_to cells (cell_mask table)) 0 (omega (arith, length_up_to cells (cell_mask table)))

  word_back : (k : ℕ) → k < 128 → plane_word (cell_masks cells table) k ≡ get_or table k 0 % 2 ^ (cells - 64 * (k % 4))
  unfolding plane_word
  word_back k h = low_bits (get_or table k 0) (cells - 64 * (k % 4)) 64 (λ (b : ℕ). bit_at (get_or (cell_masks cells table) (64 * (k % 4) + b) 0) (k / 4)) (small k) below past
    where
      below : (b : ℕ) → b < cells - 64 * (k % 4) → b < 64 → bit_at (get_or (cell_masks cells table) (64 * (k % 4) + b) 0) (k / 4) ≡ bit_at (get_or table k 0) b
      below b l m =
          let c : ℕ = 64 * (k % 4) + b in
          let word : 4 * (k / 4) + c / 64 ≡ k = omega arith in
          let place : c % 64 ≡ b = omega arith in
          ap (λ (x : ℕ). bit_at x (k / 4)) (masks_in c (omega arith))
          ∙ mask_bit table c (k / 4) (omega arith)
          ∙ ap₂ (λ (i j : ℕ). bit_at (get_or table i 0) j) word place

      past : (b : ℕ) → cells - 64 * (k % 4) ≤ b → bit_at (get_or (cell_masks cells table) (64 * (k % 4) + b) 0) (k / 4) ≡ 0
      past b l = ap (λ (x : ℕ). bit_at x (k / 4)) (masks_past (64 * (k % 4) + b) (omega arith)) ∙ no_bit (k / 4)

  pub words_back : plane_words_of (cell_masks cells table) ≡ past_cleared cells table
  unfolding plane_words_of past_cleared
  words_back =
      listed 0 (plane_word (cell_masks cells table)) (up_to 128 clear) (length_up_to 128 clear) (λ (k : ℕ) l. word_back k l ∙ sym (get_d_up_to 128 clear 0 k l))
    where
      clear : ℕ → ℕ
      clear k = get_or table k 0 % 2 ^ (cells - 64 * (k % 4))
