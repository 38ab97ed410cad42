-- Where a stage takes each bit from. Assumes nothing.
use mathlib.Core.Path.{◌≡◌, refl, sym, ap, ap₂, ◌∙◌}
use mathlib.Core.Bool.{Bool, true, false, ◌&&◌}
use mathlib.Core.List.{List}
use Prim.Native.Nat.{ℕ, zero, suc, ◌+◌, ◌-◌, ◌*◌, ◌≤◌, ◌<◌, ◌/◌, ◌%◌, ◌^◌, min, max}
use native.Mathlib.Omega.{arith}
use borrow.Author.Tests.{eqb-true, ltb-true, ltb-false}
use lib.Bits.{bit_and}
use lib.Dec.{eqb, ltb}
use lib.ListN.{get_or}
use Rattle.plane_masks.specs.Binary.{bit_at}
use Rattle.plane_masks.proofs.Binary.{bit_small, and_bit, or_bit}
use Rattle.plane_blocks.specs.Inner.{mixed}
use Rattle.plane_blocks.proofs.Shifts.{shr_bit, up_bit, up_below}
use Rattle.plane_blocks.proofs.Finite.{and_true, all_below, all_at}
use Rattle.plane_blocks.proofs.Rows.{even_row, odd_row, mixed_even, mixed_odd}

-- the row and the place that bit b of row r comes from, in a stage that shifts by j
abbrev pub row_of : ℕ → ℕ → ℕ → ℕ
row_of j r b = r / 2 + 16 * (b / j % 2)

abbrev pub place_of : ℕ → ℕ → ℕ → ℕ
place_of j r b = b - j * (b / j % 2) + j * (r % 2)

-- ---- what a stage asks of its mask m at place b: it has a one there, or it has when it is shifted by j
pub record Apart (j m b : ℕ) : Type 0 where
  pub here : bit_at m b + b / j % 2 ≡ 1
  pub above : bit_at (m * 2 ^ j % 2 ^ 32) b ≡ b / j % 2
  pub room : b + j < 32 + j * (b / j % 2)

-- computed
abbrev pub apart : ℕ → ℕ → ℕ → Bool
apart j m b = eqb (bit_at m b + b / j % 2) 1 && (eqb (bit_at (m * 2 ^ j % 2 ^ 32) b) (b / j % 2) && ltb (b + j) (32 + j * (b / j % 2)))

pub apart_at : (j m : ℕ) → all_below 32 (apart j m) ≡ true → (b : ℕ) → b < 32 → Apart j m b
apart_at j m e b h =
    let x = and_true (eqb (bit_at m b + b / j % 2) 1) _ (all_at 32 (apart j m) e b h) in
    let y = and_true (eqb (bit_at (m * 2 ^ j % 2 ^ 32) b) (b / j % 2)) _ x.1 in
    record {
      here = eqb-true (bit_at m b + b / j % 2) 1 x.0;
      above = eqb-true (bit_at (m * 2 ^ j % 2 ^ 32) b) (b / j % 2) y.0;
      room = ltb-true (b + j) (32 + j * (b / j % 2)) y.1;
    }

-- ---- one bit
-- a mask shifted with what it picks
up_and : (x m w j b : ℕ) → b < w → bit_at (bit_and x m * 2 ^ j % 2 ^ w) b ≡ min (bit_at (x * 2 ^ j % 2 ^ w) b) (bit_at (m * 2 ^ j % 2 ^ w) b)
up_and x m w j b h = go (ltb b j) refl
  where
    go : (t : Bool) → ltb b j ≡ t → bit_at (bit_and x m * 2 ^ j % 2 ^ w) b ≡ min (bit_at (x * 2 ^ j % 2 ^ w) b) (bit_at (m * 2 ^ j % 2 ^ w) b)
    go true e = let l = ltb-true b j e in up_below (bit_and x m) w j b h l ∙ sym (ap₂ min (up_below x w j b h l) (up_below m w j b h l))
    go false e =
        let l = ltb-false b j e in
        up_bit (bit_and x m) w j b h l ∙ and_bit x m (b - j) ∙ sym (ap₂ min (up_bit x w j b h l) (up_bit m w j b h l))

first : (x y u v : ℕ) → x < 2 → u ≡ 1 → v ≡ 0 → max (min x u) (min y v) ≡ x
first x y u v h e f = omega arith

second : (x y u v : ℕ) → y < 2 → u ≡ 0 → v ≡ 1 → max (min x u) (min y v) ≡ y
second x y u v h e f = omega arith

-- a one that is shifted in stands j places up
reached : (m w j b : ℕ) → b < w → bit_at (m * 2 ^ j % 2 ^ w) b ≡ 1 → j ≤ b
reached m w j b h e = go (ltb b j) refl
  where
    go : (t : Bool) → ltb b j ≡ t → j ≤ b
    go true q = absurd (omega (arith, up_below m w j b h (ltb-true b j q)))
    go false q = ltb-false b j q

module _ (j m b : ℕ) (h : b < 32) (a : Apart j m b) where
  low_here : b / j % 2 ≡ 0 → bit_at m b ≡ 1
  low_here e = omega (arith, a.here, e)

  high_here : b / j % 2 ≡ 1 → bit_at m b ≡ 0
  high_here e = omega (arith, a.here, e)

  up : b / j % 2 ≡ 1 → j ≤ b
  up e = reached m 32 j b h (a.above ∙ e)

  module _ (low high : ℕ) where
    even_bit : bit_at (even_row j m low high) b ≡ max (min (bit_at low b) (bit_at m b)) (min (bit_at (high * 2 ^ j % 2 ^ 32) b) (bit_at (m * 2 ^ j % 2 ^ 32) b))
    even_bit = or_bit (bit_and low m) (bit_and high m * 2 ^ j % 2 ^ 32) b ∙ ap₂ max (and_bit low m b) (up_and high m 32 j b h)

    odd_bit : bit_at (odd_row j m low high) b ≡ max (min (bit_at low (j + b)) (bit_at m b)) (min (bit_at high b) (bit_at (m * 2 ^ j % 2 ^ 32) b))
    odd_bit =
        or_bit (bit_and (low / 2 ^ j) m) (bit_and high (m * 2 ^ j % 2 ^ 32)) b
        ∙ ap₂ max (and_bit (low / 2 ^ j) m b ∙ ap (λ (x : ℕ). min x (bit_at m b)) (shr_bit low j b)) (and_bit high (m * 2 ^ j % 2 ^ 32) b)

    even_low : b / j % 2 ≡ 0 → bit_at (even_row j m low high) b ≡ bit_at low b
    even_low e =
        even_bit ∙ first (bit_at low b) (bit_at (high * 2 ^ j % 2 ^ 32) b) (bit_at m b) (bit_at (m * 2 ^ j % 2 ^ 32) b) (bit_small low b) (low_here e) (a.above ∙ e)

    even_high : b / j % 2 ≡ 1 → bit_at (even_row j m low high) b ≡ bit_at high (b - j)
    even_high e =
        even_bit
        ∙ second (bit_at low b) (bit_at (high * 2 ^ j % 2 ^ 32) b) (bit_at m b) (bit_at (m * 2 ^ j % 2 ^ 32) b) (bit_small (high * 2 ^ j % 2 ^ 32) b) (high_here e) (a.above ∙ e)
        ∙ up_bit high 32 j b h (up e)

    odd_low : b / j % 2 ≡ 0 → bit_at (odd_row j m low high) b ≡ bit_at low (j + b)
    odd_low e = odd_bit ∙ first (bit_at low (j + b)) (bit_at high b) (bit_at m b) (bit_at (m * 2 ^ j % 2 ^ 32) b) (bit_small low (j + b)) (low_here e) (a.above ∙ e)

    odd_high : b / j % 2 ≡ 1 → bit_at (odd_row j m low high) b ≡ bit_at high b
    odd_high e = odd_bit ∙ second (bit_at low (j + b)) (bit_at high b) (bit_at m b) (bit_at (m * 2 ^ j % 2 ^ 32) b) (bit_small high b) (high_here e) (a.above ∙ e)

-- ---- every bit of a stage
module _ (j m : ℕ) (f : List ℕ) (r b : ℕ) (h : b < 32) (a : Apart j m b) where
  pub stage_bit : bit_at (mixed j m f r) b ≡ bit_at (get_or f (row_of j r b) 0) (place_of j r b)
  stage_bit = go (b / j % 2) (r % 2) refl refl (omega arith) (omega arith)
    where
      low : ℕ
      low = get_or f (r / 2) 0

      high : ℕ
      high = get_or f (r / 2 + 16) 0

      there : (s t i : ℕ) → b - j * s + j * t ≡ i → (k : ℕ) → r / 2 + 16 * s ≡ k → bit_at (get_or f k 0) i ≡ bit_at (get_or f (r / 2 + 16 * s) 0) (b - j * s + j * t)
      there s t i p k q = ap₂ (λ (k i : ℕ). bit_at (get_or f k 0) i) (sym q) (sym p)

      go : (s t : ℕ) → b / j % 2 ≡ s → r % 2 ≡ t → s < 2 → t < 2 → bit_at (mixed j m f r) b ≡ bit_at (get_or f (r / 2 + 16 * s) 0) (b - j * s + j * t)
      go zero zero d e k l =
          ap (λ (x : ℕ). bit_at x b) (mixed_even j m f r e) ∙ even_low j m b h a low high d ∙ there 0 0 b (omega arith) (r / 2) (omega arith)
      go (suc zero) zero d e k l =
          ap (λ (x : ℕ). bit_at x b) (mixed_even j m f r e) ∙ even_high j m b h a low high d ∙ there 1 0 (b - j) (omega arith) (r / 2 + 16) (omega arith)
      go zero (suc zero) d e k l =
          ap (λ (x : ℕ). bit_at x b) (mixed_odd j m f r e) ∙ odd_low j m b h a low high d ∙ there 0 1 (j + b) (omega arith) (r / 2) (omega arith)
      go (suc zero) (suc zero) d e k l =
          ap (λ (x : ℕ). bit_at x b) (mixed_odd j m f r e) ∙ odd_high j m b h a low high d ∙ there 1 1 b (omega (arith, up j m b h a d)) (r / 2 + 16) (omega arith)
      go (suc (suc s)) t d e k l = absurd (omega arith)
      go zero (suc (suc t)) d e k l = absurd (omega arith)
      go (suc zero) (suc (suc t)) d e k l = absurd (omega arith)

  pub in_rows : r < 32 → row_of j r b < 32
  in_rows l = omega arith

  pub in_places : place_of j r b < 32
  in_places = go (b / j % 2) (r % 2) refl (omega arith) (omega arith) a.room
    where
      go : (s t : ℕ) → b / j % 2 ≡ s → s < 2 → t < 2 → b + j < 32 + j * s → b - j * s + j * t < 32
      go zero zero d k l room = omega arith
      go zero (suc zero) d k l room = omega arith
      go (suc zero) zero d k l room = omega arith
      go (suc zero) (suc zero) d k l room = omega (arith, up j m b h a d)
      go (suc (suc s)) t d k l room = absurd (omega arith)
      go zero (suc (suc t)) d k l room = absurd (omega arith)
      go (suc zero) (suc (suc t)) d k l room = absurd (omega arith)
