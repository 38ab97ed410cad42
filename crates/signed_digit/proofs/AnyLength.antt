-- A minimal string of a number of magnitude at most 2^p, of whatever length, has its nonzero digits in the lowest p + 1 places.
use mathlib.Core.Path.{◌≡◌, refl, ap, sym, ◌∙◌, subst}
use mathlib.Core.List.{[], ◌∷◌}
use Prim.Native.Nat.{ℕ, suc, ◌+◌, ◌*◌, ◌-◌, ◌≤◌, ◌<◌, ◌^◌}
use native.Mathlib.Nat.{pow-suc}
use native.Mathlib.Decide.{dec_le}
use native.Mathlib.Omega.{arith}
use lib.ListN.{length}
use lib.Pow.{pow_mono}
use Rattle.signed_digit.specs.Digit.{Digit, one, nought, minus_one, nonzero}
use Rattle.signed_digit.specs.String.{DigitString}
use Rattle.signed_digit.specs.Weight.{weight}
use Rattle.signed_digit.specs.Same.{stripped, Same}
use Rattle.signed_digit.specs.Masks.{mask, plus_bit, minus_bit}
use Rattle.signed_digit.specs.CanonicalForm.{negated}
use Rattle.signed_digit.specs.Forms.{top}
use Rattle.signed_digit.proofs.Strings.{small, top_places, top_weight, top_mask, topped, pad, pad_places, negated_is, negated_top}
use Rattle.signed_digit.proofs.Same.{stripped_high, stripped_same, pad_same, same_numbers}
use Rattle.signed_digit.proofs.Minimal.{Lightest, Worth, same_lightest, negated_lightest}

-- ---- the two highest digits d and e
tops_mask : (f : Digit → ℕ) (d e : Digit) (s : DigitString) → mask f (top d (top e s)) ≡ mask f s + 2 ^ length s * f e + 2 * (2 ^ length s * f d)
tops_mask f d e s =
    omega (arith, top_mask f d (top e s), top_mask f e s, ap (λ (n : ℕ). 2 ^ n * f d) (top_places e s), ap (λ (x : ℕ). x * f d) (pow-suc 2 (length s)))

tops_weight : (d e : Digit) (s : DigitString) → weight (top d (top e s)) ≡ weight s + nonzero e + nonzero d
tops_weight d e s = omega (arith, top_weight d (top e s), top_weight e s)

-- 1, -1 is not minimal: 0, 1 has its value
not_one_minus_one : (s : DigitString) → Lightest (top one (top minus_one s)) → ⊥
not_one_minus_one s m =
    let p = tops_mask plus_bit one minus_one s in
    let q = tops_mask minus_bit one minus_one s in
    let h = m (top nought (top one s)) (omega (arith, tops_mask plus_bit nought one s, tops_mask minus_bit nought one s)) in
    omega (arith, tops_weight one minus_one s, tops_weight nought one s)

-- 1, 0 and 1, 1 make the value too great
too_great : (e : Digit) (s : DigitString) (p a b : ℕ) → p ≤ length s → minus_bit e ≡ 0 → a ≤ b + 2 ^ p → Worth a b (top one (top e s)) → ⊥
too_great e s p a b l z h w =
    omega (arith, pow_mono l, small s, tops_mask plus_bit one e s, tops_mask minus_bit one e s, ap (λ (x : ℕ). 2 ^ length s * x) z)

no_high_one : (s : DigitString) (p a b : ℕ) → p < length s → a ≤ b + 2 ^ p → Lightest (top one s) → Worth a b (top one s) → ⊥
no_high_one [] p a b l h m w = omega arith
no_high_one (x ∷ y) p a b l h m w = let v = topped x y in go v.high v.rest v.is
  where
    long : (e : Digit) (s : DigitString) → (x ∷ y) ≡ top e s → p ≤ length s
    long e s i = omega (arith, ap length i, top_places e s)

    go : (e : Digit) (s : DigitString) → (x ∷ y) ≡ top e s → ⊥
    go minus_one s i = not_one_minus_one s (subst (λ (r : DigitString). Lightest (top one r)) i m)
    go one s i = too_great one s p a b (long one s i) refl h (subst (λ (r : DigitString). Worth a b (top one r)) i w)
    go nought s i = too_great nought s p a b (long nought s i) refl h (subst (λ (r : DigitString). Worth a b (top one r)) i w)

no_high : (d : Digit) (s : DigitString) (p a b : ℕ) → nonzero d ≡ 1 → p < length s → a ≤ b + 2 ^ p → b ≤ a + 2 ^ p
    → Lightest (top d s) → Worth a b (top d s) → ⊥
no_high nought s p a b n l h k m w = omega arith
no_high one s p a b n l h k m w = no_high_one s p a b l h m w
no_high minus_one s p a b n l h k m w =
    let q = negated_top minus_one s in
    let i = negated_is (top minus_one s) in
    let m' = subst Lightest q (negated_lightest (top minus_one s) m) in
    no_high_one (negated s) p b a (omega (arith, negated_is s)) k m' (subst (Worth b a) q (omega arith))

module _ (p a b : ℕ) (ha : a ≤ b + 2 ^ p) (hb : b ≤ a + 2 ^ p) (s : DigitString) (m : Lightest s) (w : Worth a b s) where
  stripped_short : (r : DigitString) → stripped s ≡ r → length r ≤ suc p
  stripped_short [] i = omega arith
  stripped_short (x ∷ y) i = let v = topped x y in go v.high v.rest (i ∙ v.is) (ap length v.is) (dec_le (length (x ∷ y)) (suc p))
    where
      go : (d : Digit) (t : DigitString) → stripped s ≡ top d t → length (x ∷ y) ≡ length (top d t) → Dec (length (x ∷ y) ≤ suc p) → length (x ∷ y) ≤ suc p
      go d t e l (yes h) = h
      go d t e l (no h) =
          let q = sym (stripped_same s) in
          let m' = subst Lightest e (same_lightest s (stripped s) q m) in
          let w' = subst (Worth a b) e (omega (arith, same_numbers s (stripped s) q)) in
          absurd (no_high d t p a b (stripped_high s t d e) (omega (arith, top_places d t)) ha hb m' w')

  -- the string in p + 1 places
  pub short : (f : DigitString) × (length f ≡ suc p) × Same f s
  short =
      let r : DigitString = stripped s in
      let n : ℕ = suc p - length r in
      (pad n r, omega (arith, pad_places n r, stripped_short r refl), pad_same n r ∙ stripped_same s)
