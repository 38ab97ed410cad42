-- The tables written for a string of 32 places per cell, whatever lies past their words, hold these strings and nothing else. Assumes nothing.
use mathlib.Core.Path.{◌≡◌, refl, sym, ap, ap₂, ◌∙◌}
use mathlib.Core.List.{List, [], map, ◌++◌}
use Prim.Native.Nat.{ℕ, ◌≤◌, ◌<◌}
use native.Mathlib.Omega.{arith}
use lib.ListN.{length, get_or, get_or-map, get_or-eq_default}
use Rattle.signed_digit.specs.Digit.{Digit, one, nought, minus_one}
use Rattle.signed_digit.specs.String.{DigitString, digit_at}
use Rattle.signed_digit.specs.Masks.{plus_bit, minus_bit, plus_mask, minus_mask, digit_of}
use Rattle.signed_digit.proofs.Masks.{masks_bits}
use Rattle.plane_masks.specs.Binary.{bit_at}
use Rattle.plane_masks.specs.Planes.{plane_bit, digit_in, cell_string, plane_words_of}
use Rattle.plane_masks.specs.Claims.{Apart}
use Rattle.plane_masks.proofs.Lists.{listed}
use Rattle.plane_masks.proofs.Planes.{written_bit}

bits_digit : (d : Digit) → digit_of (plus_bit d) (minus_bit d) ≡ d
bits_digit one = refl
bits_digit nought = refl
bits_digit minus_one = refl

not_both : (d : Digit) → plus_bit d ≡ 1 → minus_bit d ≡ 1 → ⊥
not_both one e f = omega arith
not_both nought e f = omega arith
not_both minus_one e f = omega arith

module _ (strings : List DigitString) (more_plus more_minus : List ℕ) where
  abbrev plus : List ℕ
  plus = plane_words_of (map plus_mask strings) ++ more_plus

  abbrev minus : List ℕ
  minus = plane_words_of (map minus_mask strings) ++ more_minus

  plus_bit_lem : (c p : ℕ) → c < 256 → p < 32 → plane_bit plus p c ≡ plus_bit (digit_at (get_or strings c []) p)
  plus_bit_lem c p h l =
      written_bit (map plus_mask strings) more_plus c p h l ∙ ap (λ (x : ℕ). bit_at x p) (get_or-map plus_mask strings c []) ∙ (masks_bits (get_or strings c []) p).0

  minus_bit_lem : (c p : ℕ) → c < 256 → p < 32 → plane_bit minus p c ≡ minus_bit (digit_at (get_or strings c []) p)
  minus_bit_lem c p h l =
      written_bit (map minus_mask strings) more_minus c p h l ∙ ap (λ (x : ℕ). bit_at x p) (get_or-map minus_mask strings c []) ∙ (masks_bits (get_or strings c []) p).1

  digit_is : (c p : ℕ) → c < 256 → p < 32 → digit_in plus minus p c ≡ digit_at (get_or strings c []) p
  digit_is c p h l = ap₂ digit_of (plus_bit_lem c p h l) (minus_bit_lem c p h l) ∙ bits_digit (digit_at (get_or strings c []) p)

  pub string_held : (c : ℕ) → c < 256 → length (get_or strings c []) ≡ 32 → cell_string plus minus c ≡ get_or strings c []
  unfolding cell_string
  string_held c h places = listed nought (λ (p : ℕ). digit_in plus minus p c) (get_or strings c []) places (λ p l. digit_is c p h l)

  pub past_held : (p c : ℕ) → p < 32 → length strings ≤ c → c < 256 → digit_in plus minus p c ≡ nought
  past_held p c l k h = digit_is c p h l ∙ ap (λ (s : DigitString). digit_at s p) (get_or-eq_default strings [] k)

  pub apart_held : (c : ℕ) → c < 256 → Apart plus minus c
  apart_held c h p l o = not_both (digit_at (get_or strings c []) p) (sym (plus_bit_lem c p h l) ∙ o.in_plus) (sym (minus_bit_lem c p h l) ∙ o.in_minus)
