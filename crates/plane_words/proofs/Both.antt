-- The cells of a word that overlap in any plane, and the lowest of them. Assumes nothing.
use mathlib.Core.Path.{◌≡◌, refl, sym, ap, ap₂, ◌∙◌}
use mathlib.Core.Bool.{Bool, true, false, ◌||◌, ◌&&◌}
use mathlib.Core.Logic.{◌≢◌}
use mathlib.Core.List.{List}
use Prim.Native.Nat.{ℕ, zero, suc, ◌+◌, ◌-◌, ◌*◌, ◌≤◌, ◌<◌, ◌/◌, ◌%◌, ◌^◌, min, max}
use native.Mathlib.Numerals.{add-one}
use native.Mathlib.Omega.{arith}
use borrow.Author.Tests.{eq-eqb, ltb-true, ltb-false}
use lib.Bits.{bit_and, bit_or}
use lib.Count.{count_trailing_zeros, under}
use lib.Dec.{eqb, ltb}
use lib.ListN.{get_or}
use Rattle.refusal.specs.Answer.{nowhere, at_place}
use Rattle.plane_masks.specs.Binary.{bit_at}
use Rattle.plane_masks.specs.Planes.{plane_bit}
use Rattle.plane_masks.specs.Grid.{any_below, overlaps, overlap_cell}
use Rattle.plane_words.specs.Inner.{both_word}
use Rattle.plane_masks.proofs.Binary.{bit_small, no_bit, bit_zero, bit_suc, and_bit, or_bit}
use Rattle.plane_words.proofs.Places.{trailing}
use Rattle.plane_masks.proofs.Lists.{lowest_cell, no_cell}

-- ---- plane by plane
pub both_start : (plus minus : List ℕ) (j : ℕ) → 0 ≡ both_word 0 plus minus j
unfolding both_word
both_start plus minus j = refl

pub both_next : (n x : ℕ) (plus minus : List ℕ) (j : ℕ) → x ≡ both_word n plus minus j
    → bit_or x (bit_and (get_or plus (4 * n + j) 0) (get_or minus (4 * n + j) 0)) ≡ both_word (n + 1) plus minus j
unfolding both_word
both_next n x plus minus j e =
    ap (λ (w : ℕ). bit_or w (bit_and (get_or plus (4 * n + j) 0) (get_or minus (4 * n + j) 0))) e ∙ ap (λ (k : ℕ). both_word k plus minus j) (sym (add-one n))

-- ---- a bit that both have, and one that either has
both_ones : (i j : ℕ) → i < 2 → j < 2 → eqb (min i j) 1 ≡ (eqb i 1 && eqb j 1)
both_ones zero zero h k = refl
both_ones zero (suc zero) h k = refl
both_ones zero (suc (suc j)) h k = absurd (omega arith)
both_ones (suc zero) zero h k = refl
both_ones (suc zero) (suc zero) h k = refl
both_ones (suc zero) (suc (suc j)) h k = absurd (omega arith)
both_ones (suc (suc i)) j h k = absurd (omega arith)

some_one : (i j : ℕ) → i < 2 → j < 2 → eqb (max i j) 1 ≡ (eqb i 1 || eqb j 1)
some_one zero zero h k = refl
some_one zero (suc zero) h k = refl
some_one zero (suc (suc j)) h k = absurd (omega arith)
some_one (suc zero) zero h k = refl
some_one (suc zero) (suc zero) h k = refl
some_one (suc zero) (suc (suc j)) h k = absurd (omega arith)
some_one (suc (suc i)) j h k = absurd (omega arith)

module _ (plus minus : List ℕ) (j b : ℕ) (low : b < 64) where
  abbrev cell : ℕ
  cell = 64 * j + b

  here : (table : List ℕ) (p : ℕ) → bit_at (get_or table (4 * p + j) 0) b ≡ plane_bit table p cell
  here table p =
      let q : j ≡ (64 * j + b) / 64 = omega arith in
      let r : b ≡ (64 * j + b) % 64 = omega arith in
      ap₂ (λ (x y : ℕ). bit_at (get_or table (4 * p + x) 0) y) q r

  both_at : (p : ℕ) → eqb (bit_at (bit_and (get_or plus (4 * p + j) 0) (get_or minus (4 * p + j) 0)) b) 1 ≡ (eqb (plane_bit plus p cell) 1 && eqb (plane_bit minus p cell) 1)
  both_at p =
      let x : ℕ = get_or plus (4 * p + j) 0 in
      let y : ℕ = get_or minus (4 * p + j) 0 in
      ap (λ (n : ℕ). eqb n 1) (and_bit x y b)
      ∙ both_ones (bit_at x b) (bit_at y b) (bit_small x b) (bit_small y b)
      ∙ ap₂ (λ (u v : ℕ). eqb u 1 && eqb v 1) (here plus p) (here minus p)

  upto : (n : ℕ) → eqb (bit_at (both_word n plus minus j) b) 1 ≡ any_below n (λ (p : ℕ). (eqb (plane_bit plus p cell) 1 && eqb (plane_bit minus p cell) 1))
  unfolding both_word
  upto zero = ap (λ (n : ℕ). eqb n 1) (no_bit b)
  upto (suc n) =
      let w : ℕ = both_word n plus minus j in
      let z : ℕ = bit_and (get_or plus (4 * n + j) 0) (get_or minus (4 * n + j) 0) in
      ap (λ (n : ℕ). eqb n 1) (or_bit w z b) ∙ some_one (bit_at w b) (bit_at z b) (bit_small w b) (bit_small z b) ∙ ap₂ (λ (u v : Bool). u || v) (upto n) (both_at n)

  pub both_bit : eqb (bit_at (both_word 32 plus minus j) b) 1 ≡ overlaps plus minus (64 * j + b)
  unfolding overlaps
  both_bit = upto 32

-- the places below the lowest one
pub trailing_below : (k x i : ℕ) → i < count_trailing_zeros k x → bit_at x i ≡ 0
unfolding count_trailing_zeros
trailing_below zero x i h = absurd (omega arith)
trailing_below (suc k) x i h = go (x % 2) refl i h (λ (j : ℕ) l. trailing_below k (x / 2) j l)
  where
    go : (d : ℕ) → x % 2 ≡ d → (i : ℕ) → i < under d (count_trailing_zeros k (x / 2)) → ((j : ℕ) → j < count_trailing_zeros k (x / 2) → bit_at (x / 2) j ≡ 0) → bit_at x i ≡ 0
    go zero e zero h ih = bit_zero x ∙ e
    go zero e (suc i) h ih = bit_suc x i ∙ ih i (omega arith)
    go (suc d) e i h ih = absurd (omega arith)

-- ---- the search, word by word
module _ (plus minus : List ℕ) (cells : ℕ) where
  -- no cell below word j overlaps
  abbrev pub NoneBelow : ℕ → Type 0
  NoneBelow n = (c : ℕ) → c < n → overlaps plus minus c ≡ false

  pub none_found : (n : ℕ) → NoneBelow n → cells ≤ n → nowhere ≡ overlap_cell cells plus minus
  none_found n none h = sym (no_cell (overlaps plus minus) cells (λ c l. none c (omega arith)))

  module _ (j w : ℕ) (is : w ≡ both_word 32 plus minus j) (none : NoneBelow (64 * j)) where
    at : (b : ℕ) → b < 64 → eqb (bit_at w b) 1 ≡ overlaps plus minus (64 * j + b)
    at b h = ap (λ (x : ℕ). eqb (bit_at x b) 1) is ∙ both_bit plus minus j b h

    -- where no bit below b is set
    below : (b : ℕ) → b ≤ 64 → ((i : ℕ) → i < b → bit_at w i ≡ 0) → NoneBelow (64 * j + b)
    below b l zeros c h = go (ltb c (64 * j)) refl
      where
        at_c : (i : ℕ) → i < b → i < 64 → c ≡ 64 * j + i → overlaps plus minus c ≡ false
        at_c i m k e = ap (overlaps plus minus) e ∙ sym (at i k) ∙ ap (λ (x : ℕ). eqb x 1) (zeros i m)

        go : (t : Bool) → ltb c (64 * j) ≡ t → overlaps plus minus c ≡ false
        go true e = none c (ltb-true c (64 * j) e)
        go false e = let k = ltb-false c (64 * j) e in at_c (c - 64 * j) (omega arith) (omega arith) (omega arith)

    pub word_none : w ≡ 0 → NoneBelow (64 * (j + 1))
    word_none z c h = below 64 (omega arith) (λ (i : ℕ) k. ap (λ (x : ℕ). bit_at x i) z ∙ no_bit i) c (omega arith)

    module _ (some : w ≢ 0) (fits : w < 2 ^ 64) where
      pub few : count_trailing_zeros 64 w < 64
      few = (trailing 64 w some fits).0

      none_before : NoneBelow (64 * j + count_trailing_zeros 64 w)
      none_before = below (count_trailing_zeros 64 w) (omega (arith, few)) (λ (i : ℕ) h. trailing_below 64 w i h)

      pub word_found : 64 * j + count_trailing_zeros 64 w < cells → at_place (64 * j + count_trailing_zeros 64 w) ≡ overlap_cell cells plus minus
      word_found h =
          let c : ℕ = 64 * j + count_trailing_zeros 64 w in
          let o : overlaps plus minus c ≡ true = sym (at (count_trailing_zeros 64 w) few) ∙ eq-eqb (bit_at w (count_trailing_zeros 64 w)) 1 (trailing 64 w some fits).1 in
          sym (lowest_cell (overlaps plus minus) cells c h o none_before)

      pub word_past : cells ≤ 64 * j + count_trailing_zeros 64 w → nowhere ≡ overlap_cell cells plus minus
      word_past h = none_found (64 * j + count_trailing_zeros 64 w) none_before h
