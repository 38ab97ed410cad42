-- The masks of one sign of strings without their place 0, and of the lists that a digit on top makes. Assumes nothing.
use mathlib.Core.Path.{◌≡◌, refl, ap, ap₂, ◌∙◌}
use mathlib.Core.List.{List, [], ◌∷◌, ◌++◌, map, map-append, Memᴰ}
use Prim.Native.Nat.{ℕ, zero, suc, ◌+◌, ◌*◌, ◌^◌, ◌/◌}
use native.Mathlib.Nat.{pow-suc}
use native.Mathlib.Omega.{arith}
use lib.ListN.{length}
use Rattle.signed_digit.specs.Digit.{Digit, one, nought, minus_one, nonzero}
use Rattle.signed_digit.specs.String.{DigitString}
use Rattle.signed_digit.specs.Masks.{mask, plus_bit, minus_bit}
use Rattle.signed_digit.specs.CanonicalForm.{opposite}
use Rattle.signed_digit.specs.Forms.{top}
use Rattle.signed_digit.proofs.Strings.{top_places, top_mask, pad, pad_mask}
use Rattle.form_links.proofs.Steps.{two}
use Rattle.form_links.proofs.Counts.{of_side}
use Rattle.form_links.proofs.Offsets.{plus}

-- the bits of a sign's mask
abbrev pub bit_of : Digit → Digit → ℕ
bit_of s d = of_side s (plus_bit d) (minus_bit d)

abbrev pub upper : DigitString → DigitString
upper [] = []
upper (d ∷ t) = t

abbrev pub mask_of : Digit → DigitString → ℕ
mask_of s t = mask (bit_of s) (upper t)

pub nought_bit : (s : Digit) → bit_of s nought ≡ 0
nought_bit one = refl
nought_bit nought = refl
nought_bit minus_one = refl

pub own_bit : (s : Digit) → nonzero s ≡ 1 → bit_of s s ≡ 1
own_bit one u = refl
own_bit nought u = absurd (omega arith)
own_bit minus_one u = refl

pub other_bit : (s : Digit) → bit_of s (opposite s) ≡ 0
other_bit one = refl
other_bit nought = refl
other_bit minus_one = refl

half_pow : (n : ℕ) → 2 ^ suc n / 2 ≡ 2 ^ n
half_pow n = omega (arith, pow-suc 2 n)

module _ (s : Digit) where
  mask_top : (d : Digit) (t : DigitString) → mask_of s (top d t) ≡ mask_of s t + 2 ^ length t / 2 * bit_of s d
  mask_top d [] = omega arith
  mask_top d (e ∷ t) = omega (arith, top_mask (bit_of s) d t, ap (λ (x : ℕ). x * bit_of s d) (half_pow (length t)))

  pub mask_nought : (t : DigitString) → mask_of s (top nought t) ≡ mask_of s t
  mask_nought t = omega (arith, mask_top nought t, ap (λ (x : ℕ). 2 ^ length t / 2 * x) (nought_bit s))

  pub mask_digit_lem : (d : Digit) (q : ℕ) (t : DigitString) → length t ≡ q → mask_of s (top d (top nought t)) ≡ mask_of s t + 2 ^ q * bit_of s d
  mask_digit_lem d q t l =
      let e : 2 ^ length (top nought t) / 2 ≡ 2 ^ q = ap (λ (n : ℕ). 2 ^ n / 2) (top_places nought t ∙ ap suc l) ∙ half_pow q in
      omega (arith, mask_top d (top nought t), mask_nought t, ap (λ (x : ℕ). x * bit_of s d) e)

  pub masks_nought : (l : List DigitString) → map (mask_of s) (map (top nought) l) ≡ map (mask_of s) l
  masks_nought [] = refl
  masks_nought (t ∷ l) = ap₂ (λ (x : ℕ) (y : List ℕ). x ∷ y) (mask_nought t) (masks_nought l)

  -- zeros at the high end
  pub mask_pad : (n : ℕ) (t : DigitString) → mask_of s (pad n t) ≡ mask_of s t
  mask_pad zero [] = refl
  mask_pad (suc n) [] = pad_mask (bit_of s) (nought_bit s) n []
  mask_pad n (d ∷ t) = pad_mask (bit_of s) (nought_bit s) n t

  -- the masks of `two d`, where d adds x in place and z moved down
  module _ (d : Digit) (q x z : ℕ) (ex : x ≡ 2 ^ q * bit_of s d) (ez : z ≡ 2 ^ q / 2 * bit_of s d) where
    stays : (l : List DigitString) → ((t : DigitString) → Memᴰ t l → length t ≡ q) → map (mask_of s) (map (top d) (map (top nought) l)) ≡ map (plus x) (map (mask_of s) l)
    stays [] h = refl
    stays (t ∷ l) h = ap₂ (λ (i : ℕ) (j : List ℕ). i ∷ j) (omega (arith, mask_digit_lem d q t (h t (Memᴰ.head refl)))) (stays l (λ r m. h r (Memᴰ.tail m)))

    moves : (l : List DigitString) → ((t : DigitString) → Memᴰ t l → length t ≡ q) → map (mask_of s) (map (top d) l) ≡ map (plus z) (map (mask_of s) l)
    moves [] h = refl
    moves (t ∷ l) h =
        ap₂ (λ (i : ℕ) (j : List ℕ). i ∷ j)
        (omega (arith, mask_top d t, ap (λ (n : ℕ). 2 ^ n / 2 * bit_of s d) (h t (Memᴰ.head refl)))) (moves l (λ r m. h r (Memᴰ.tail m)))

    pub masks_two : (l m : List DigitString) → ((t : DigitString) → Memᴰ t l → length t ≡ q) → ((t : DigitString) → Memᴰ t m → length t ≡ q)
        → map (mask_of s) (two d l m) ≡ map (plus x) (map (mask_of s) l) ++ map (plus z) (map (mask_of s) m)
    masks_two l m i j =
        map-append (mask_of s) (map (top d) (map (top nought) l)) (map (top nought) (map (top d) m))
        ∙ ap₂ (λ (u v : List ℕ). u ++ v) (stays l i) (masks_nought (map (top d) m) ∙ moves m j)

pub plus_none : (l : List ℕ) → map (plus 0) l ≡ l
plus_none [] = refl
plus_none (x ∷ l) = ap₂ (λ (i : ℕ) (j : List ℕ). i ∷ j) (flat x) (plus_none l)
  where
    flat : (x : ℕ) → x + 0 ≡ x
    flat x = omega arith
