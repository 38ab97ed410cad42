-- A form's digits from high to low, by its two masks, for reading it in step 3. Assumes nothing.
use mathlib.Core.Path.{◌≡◌, refl, sym, ap, ap₂, ◌∙◌}
use mathlib.Core.List.{List, [], ◌∷◌, ◌++◌, reverse, reverse-append}
use Prim.Native.Nat.{ℕ, zero, suc, ◌+◌, ◌/◌, ◌%◌, ◌^◌}
use native.Mathlib.Nat.{pow-succ', div-div-eq-div-mul, div-one}
use native.Mathlib.Omega.{arith}
use lib.ListN.{replicate}
use Rattle.signed_digit.specs.Digit.{Digit, nought}
use Rattle.signed_digit.specs.String.{DigitString}
use Rattle.signed_digit.specs.Masks.{digit_of, from_masks}
use Rattle.signed_digit.specs.Forms.{top}
use Rattle.network.specs.declared.Row.{Row}
use Rattle.build_steps.specs.Chain.{chain_from, chain_down}

-- the digit at a place
abbrev pub mask_digit : ℕ → ℕ → ℕ → Digit
mask_digit x y place = digit_of (x / 2 ^ place % 2) (y / 2 ^ place % 2)

next_place : (x p : ℕ) → x / 2 / 2 ^ p ≡ x / 2 ^ suc p
next_place x p = div-div-eq-div-mul x 2 (2 ^ p) ∙ ap (λ (m : ℕ). x / m) (sym (pow-succ' 2 p))

masks_top : (p x y : ℕ) → from_masks (suc p) x y ≡ top (mask_digit x y p) (from_masks p x y)
masks_top zero x y = rw (div-one x, div-one y)
masks_top (suc p) x y =
    ap (λ (s : DigitString). digit_of (x % 2) (y % 2) ∷ s)
    (masks_top p (x / 2) (y / 2)
    ∙ ap (λ (d : Digit). top d (from_masks p (x / 2) (y / 2))) (ap₂ (λ (a b : ℕ). digit_of (a % 2) (b % 2)) (next_place x p) (next_place y p)))

-- the highest place first
pub masks_down : (p x y : ℕ) → reverse (from_masks (suc p) x y) ≡ mask_digit x y p ∷ reverse (from_masks p x y)
masks_down p x y = ap reverse (masks_top p x y) ∙ reverse-append (from_masks p x y) (mask_digit x y p ∷ [])

-- ---- zeros are passed over
pub chain_passes : (rows : List Row) (v gap k : ℕ) (s : DigitString) → chain_from rows v gap (replicate k nought ++ s) ≡ chain_from rows v (gap + k) s
unfolding chain_from
chain_passes rows v gap zero s = ap (λ (g : ℕ). chain_from rows v g s) (omega arith)
chain_passes rows v gap (suc k) s = chain_passes rows v (suc gap) k s ∙ ap (λ (g : ℕ). chain_from rows v g s) (omega arith)

pub down_passes : (rows : List Row) (k : ℕ) (s : DigitString) → chain_down rows (replicate k nought ++ s) ≡ chain_down rows s
unfolding chain_down
down_passes rows zero s = refl
down_passes rows (suc k) s = down_passes rows k s
