-- The masks of links: how they come from the masks of the digits, and what the mask of those that are taken is equal to. Assumes nothing.
use mathlib.Core.Path.{◌≡◌, refl, ap, ap₂, sym, ◌∙◌}
use mathlib.Core.List.{[], ◌∷◌}
use Prim.Native.Nat.{ℕ, ◌+◌, ◌*◌, ◌<◌, ◌^◌, ◌/◌, ◌%◌, min, max}
use native.Mathlib.Nat.{pow-suc}
use native.Mathlib.Omega.{arith}
use lib.Bits.{bit_and, bit_or, and_step, or_step}
use lib.ListN.{length}
use Rattle.signed_digit.specs.Digit.{Digit, one, nought, minus_one}
use Rattle.signed_digit.specs.String.{DigitString}
use Rattle.signed_digit.specs.Masks.{mask, plus_bit, minus_bit, plus_mask, minus_mask}
use Rattle.signed_digit.specs.CanonicalForm.{opposite, negated}
use Rattle.signed_digit.specs.Forms.{top}
use Rattle.signed_digit.proofs.Masks.{plus_bit_small, minus_bit_small}
use Rattle.form_links.specs.Inner.{opposed, alike, second, links_of, joined, takes, taken_links}

-- ---- one binary digit at a time
module _ (i j a b : ℕ) (h : i < 2) (k : j < 2) where
  halves : ((i + 2 * a) / 2 ≡ a) × ((j + 2 * b) / 2 ≡ b) × ((i + 2 * a) % 2 ≡ i) × ((j + 2 * b) % 2 ≡ j)
  halves = (omega arith, omega arith, omega arith, omega arith)

  pub and_bits : bit_and (i + 2 * a) (j + 2 * b) ≡ min i j + 2 * bit_and a b
  and_bits =
      let w = halves in
      omega (arith, and_step (i + 2 * a) (j + 2 * b), ap₂ bit_and w.0 w.1, ap₂ min w.2 w.3)

  pub or_bits : bit_or (i + 2 * a) (j + 2 * b) ≡ max i j + 2 * bit_or a b
  or_bits =
      let w = halves in
      omega (arith, or_step (i + 2 * a) (j + 2 * b), ap₂ bit_or w.0 w.1, ap₂ max w.2 w.3)

-- ---- links from masks
abbrev Bit : (Digit → ℕ) → Type 0
Bit f = ((d : Digit) → f d < 2) × (f nought ≡ 0)

abbrev Kind : (Digit → Digit → ℕ) → Type 0
Kind f = (d e : Digit) → f d e < 2

-- a mask without its lowest two digits
above : (f : Digit → ℕ) → Bit f → (s : DigitString) → mask f s / 2 ≡ f (second s) + 2 * (mask f s / 4)
above f b [] = omega (arith, b.1)
above f b (d ∷ []) = omega (arith, b.1, b.0 d)
above f b (d ∷ e ∷ s) = omega (arith, b.0 d, b.0 e)

and_links : (f g : Digit → ℕ) → Bit f → Bit g → (s : DigitString) → bit_and (mask f s) (mask g s / 4) ≡ links_of (λ (d e : Digit). min (f d) (g e)) s
and_links f g b c [] = refl
and_links f g b c (d ∷ s) =
    let q : (g d + 2 * mask g s) / 4 ≡ g (second s) + 2 * (mask g s / 4) = omega (arith, c.0 d, above g c s) in
    ap (bit_and (f d + 2 * mask f s)) q
    ∙ and_bits (f d) (g (second s)) (mask f s) (mask g s / 4) (b.0 d) (c.0 (second s))
    ∙ ap (λ (x : ℕ). min (f d) (g (second s)) + 2 * x) (and_links f g b c s)

or_links : (f g : Digit → Digit → ℕ) → Kind f → Kind g → (s : DigitString) → bit_or (links_of f s) (links_of g s) ≡ links_of (λ (d e : Digit). max (f d e) (g d e)) s
or_links f g b c [] = refl
or_links f g b c (d ∷ s) =
    or_bits (f d (second s)) (g d (second s)) (links_of f s) (links_of g s) (b d (second s)) (c d (second s))
    ∙ ap (λ (x : ℕ). max (f d (second s)) (g d (second s)) + 2 * x) (or_links f g b c s)

same_links : (f g : Digit → Digit → ℕ) → ((d e : Digit) → f d e ≡ g d e) → (s : DigitString) → links_of f s ≡ links_of g s
same_links f g h [] = refl
same_links f g h (d ∷ s) = ap₂ (λ (x y : ℕ). x + 2 * y) (h d (second s)) (same_links f g h s)

plus_bit_lem : Bit plus_bit
plus_bit_lem = (plus_bit_small, refl)

minus_bit_lem : Bit minus_bit
minus_bit_lem = (minus_bit_small, refl)

pairs : (f g : Digit → ℕ) → Bit f → Bit g → Kind (λ (d e : Digit). min (f d) (g e))
pairs f g b c d e = omega (arith, b.0 d)

module _ (f g h k : Digit → ℕ) (bf : Bit f) (bg : Bit g) (bh : Bit h) (bk : Bit k) where
  either_links : (s : DigitString) → bit_or (bit_and (mask f s) (mask g s / 4)) (bit_and (mask h s) (mask k s / 4))
      ≡ links_of (λ (d e : Digit). max (min (f d) (g e)) (min (h d) (k e))) s
  either_links s =
      ap₂ bit_or (and_links f g bf bg s) (and_links h k bh bk s)
      ∙ or_links (λ (d e : Digit). min (f d) (g e)) (λ (d e : Digit). min (h d) (k e)) (pairs f g bf bg) (pairs h k bh bk) s

-- the links between opposite and between equal digits
pub opposed_links : (s : DigitString) → bit_or (bit_and (plus_mask s) (minus_mask s / 4)) (bit_and (minus_mask s) (plus_mask s / 4)) ≡ links_of opposed s
opposed_links s = either_links plus_bit minus_bit minus_bit plus_bit plus_bit_lem minus_bit_lem minus_bit_lem plus_bit_lem s ∙ same_links _ opposed go s
  where
    go : (d e : Digit) → max (min (plus_bit d) (minus_bit e)) (min (minus_bit d) (plus_bit e)) ≡ opposed d e
    go one one = refl
    go one nought = refl
    go one minus_one = refl
    go nought one = refl
    go nought nought = refl
    go nought minus_one = refl
    go minus_one one = refl
    go minus_one nought = refl
    go minus_one minus_one = refl

pub alike_links : (s : DigitString) → bit_or (bit_and (plus_mask s) (plus_mask s / 4)) (bit_and (minus_mask s) (minus_mask s / 4)) ≡ links_of alike s
alike_links s = either_links plus_bit plus_bit minus_bit minus_bit plus_bit_lem plus_bit_lem minus_bit_lem minus_bit_lem s ∙ same_links _ alike go s
  where
    go : (d e : Digit) → max (min (plus_bit d) (plus_bit e)) (min (minus_bit d) (minus_bit e)) ≡ alike d e
    go one one = refl
    go one nought = refl
    go one minus_one = refl
    go nought one = refl
    go nought nought = refl
    go nought minus_one = refl
    go minus_one one = refl
    go minus_one nought = refl
    go minus_one minus_one = refl

-- ---- the links that are taken
kinds : (d e : Digit) → (opposed d e < 2) × (alike d e < 2)
kinds one one = (omega arith, omega arith)
kinds one nought = (omega arith, omega arith)
kinds one minus_one = (omega arith, omega arith)
kinds nought e = (omega arith, omega arith)
kinds minus_one one = (omega arith, omega arith)
kinds minus_one nought = (omega arith, omega arith)
kinds minus_one minus_one = (omega arith, omega arith)

joined_is : (d e : Digit) (x : ℕ) → x < 2 → (joined d e x ≡ max (opposed d e) (min (alike d e) x)) × (joined d e x < 2)
joined_is one one x h = (omega arith, h)
joined_is one nought x h = (omega arith, omega arith)
joined_is one minus_one x h = (omega arith, omega arith)
joined_is nought e x h = (omega arith, omega arith)
joined_is minus_one one x h = (omega arith, omega arith)
joined_is minus_one nought x h = (omega arith, omega arith)
joined_is minus_one minus_one x h = (omega arith, h)

pub takes_small : (d : Digit) (s : DigitString) → takes d s < 2
takes_small d [] = omega arith
takes_small d (e ∷ []) = omega arith
takes_small d (e ∷ f ∷ s) = (joined_is d f (takes f s) (takes_small f s)).1

-- whether the link from the digit at place 1 is taken
from_second : DigitString → ℕ
from_second [] = 0
from_second (d ∷ []) = 0
from_second (d ∷ e ∷ s) = takes e s

second_small : (s : DigitString) → from_second s < 2
unfolding from_second
second_small [] = omega arith
second_small (d ∷ []) = omega arith
second_small (d ∷ e ∷ s) = takes_small e s

takes_is : (d : Digit) (s : DigitString) → takes d s ≡ max (opposed d (second s)) (min (alike d (second s)) (from_second s))
unfolding from_second
takes_is one [] = refl
takes_is nought [] = refl
takes_is minus_one [] = refl
takes_is one (e ∷ []) = refl
takes_is nought (e ∷ []) = refl
takes_is minus_one (e ∷ []) = refl
takes_is d (e ∷ f ∷ s) = (joined_is d f (takes f s) (takes_small f s)).0

taken_above : (s : DigitString) → taken_links s / 2 ≡ from_second s + 2 * (taken_links s / 4)
unfolding from_second
taken_above [] = omega arith
taken_above (d ∷ []) = omega (arith, takes_small d [])
taken_above (d ∷ e ∷ s) = omega (arith, takes_small d (e ∷ s), takes_small e s)

-- the mask t of the links that are taken is the one with t = opposite | equal & (t / 4)
pub taken_links_lem : (s : DigitString) → taken_links s ≡ bit_or (links_of opposed s) (bit_and (links_of alike s) (taken_links s / 4))
taken_links_lem [] = refl
taken_links_lem (d ∷ s) =
    let q : (takes d s + 2 * taken_links s) / 4 ≡ from_second s + 2 * (taken_links s / 4) = omega (arith, takes_small d s, taken_above s) in
    let e = second s in
    let x = min (alike d e) (from_second s) in
    let h : x < 2 = omega (arith, (kinds d e).1) in
    sym
    (ap (λ (y : ℕ). bit_or (opposed d e + 2 * links_of opposed s) (bit_and (alike d e + 2 * links_of alike s) y)) q
    ∙ ap (bit_or (opposed d e + 2 * links_of opposed s)) (and_bits (alike d e) (from_second s) (links_of alike s) (taken_links s / 4) (kinds d e).1 (second_small s))
    ∙ or_bits (opposed d e) x (links_of opposed s) (bit_and (links_of alike s) (taken_links s / 4)) (kinds d e).0 h
    ∙ ap₂ (λ (y z : ℕ). y + 2 * z) (sym (takes_is d s)) (sym (taken_links_lem s)))

pub taken_small : (s : DigitString) → taken_links s < 2 ^ length s
taken_small [] = omega arith
taken_small (d ∷ s) = omega (arith, takes_small d s, taken_small s, pow-suc 2 (length s))

pub opposed_small : (s : DigitString) → links_of opposed s < 2 ^ length s
opposed_small [] = omega arith
opposed_small (d ∷ s) = omega (arith, (kinds d (second s)).0, opposed_small s, pow-suc 2 (length s))

-- ---- the string of the opposite value has the same links
opposed_opposite : (d e : Digit) → opposed (opposite d) (opposite e) ≡ opposed d e
opposed_opposite one one = refl
opposed_opposite one nought = refl
opposed_opposite one minus_one = refl
opposed_opposite nought e = refl
opposed_opposite minus_one one = refl
opposed_opposite minus_one nought = refl
opposed_opposite minus_one minus_one = refl

joined_opposite : (d e : Digit) (x : ℕ) → joined (opposite d) (opposite e) x ≡ joined d e x
joined_opposite one one x = refl
joined_opposite one nought x = refl
joined_opposite one minus_one x = refl
joined_opposite nought e x = refl
joined_opposite minus_one one x = refl
joined_opposite minus_one nought x = refl
joined_opposite minus_one minus_one x = refl

second_negated : (s : DigitString) → second (negated s) ≡ opposite (second s)
second_negated [] = refl
second_negated (d ∷ []) = refl
second_negated (d ∷ e ∷ s) = refl

pub opposed_negated : (s : DigitString) → links_of opposed (negated s) ≡ links_of opposed s
opposed_negated [] = refl
opposed_negated (d ∷ s) =
    ap₂ (λ (x y : ℕ). x + 2 * y) (ap (opposed (opposite d)) (second_negated s) ∙ opposed_opposite d (second s)) (opposed_negated s)

takes_negated : (d : Digit) (s : DigitString) → takes (opposite d) (negated s) ≡ takes d s
takes_negated d [] = refl
takes_negated d (e ∷ []) = refl
takes_negated d (e ∷ f ∷ s) = ap (joined (opposite d) (opposite f)) (takes_negated f s) ∙ joined_opposite d f (takes f s)

pub taken_negated : (s : DigitString) → taken_links (negated s) ≡ taken_links s
taken_negated [] = refl
taken_negated (d ∷ s) = ap₂ (λ (x y : ℕ). x + 2 * y) (takes_negated d s) (taken_negated s)

-- ---- a 0 on top has no links
pub joined_nought : (d : Digit) (x : ℕ) → joined d nought x ≡ 0
joined_nought one x = refl
joined_nought nought x = refl
joined_nought minus_one x = refl

takes_top : (d : Digit) (s : DigitString) → takes d (top nought s) ≡ takes d s
takes_top d [] = refl
takes_top d (e ∷ []) = joined_nought d 0
takes_top d (e ∷ f ∷ s) = ap (joined d f) (takes_top f s)

pub taken_top : (s : DigitString) → taken_links (top nought s) ≡ taken_links s
taken_top [] = refl
taken_top (d ∷ s) = ap₂ (λ (x y : ℕ). x + 2 * y) (takes_top d s) (taken_top s)

second_top : (s : DigitString) → second (top nought s) ≡ second s
second_top [] = refl
second_top (d ∷ []) = refl
second_top (d ∷ e ∷ s) = refl

pub opposed_top : (s : DigitString) → links_of opposed (top nought s) ≡ links_of opposed s
opposed_top [] = refl
opposed_top (d ∷ s) = ap₂ (λ (x y : ℕ). x + 2 * y) (ap (opposed d) (second_top s)) (opposed_top s)
