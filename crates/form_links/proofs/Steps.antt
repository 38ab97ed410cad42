-- How the strings of a value follow from those of its lower places, by the next canonical digits. Of a canonical string c of q places,
-- weight k and value a - b, with a 0 above it, every list below is one of `forms`, in the listing's order. Assumes nothing.
use mathlib.Core.Path.{◌≡◌, refl, ap, ap₂, sym, ◌∙◌, subst}
use mathlib.Core.List.{List, [], ◌∷◌, ◌++◌, map, map-append}
use Prim.Native.Nat.{ℕ, zero, suc, ◌+◌, ◌*◌, ◌≤◌, ◌^◌}
use native.Mathlib.Nat.{pow-suc}
use native.Mathlib.Omega.{arith}
use Rattle.signed_digit.specs.Digit.{Digit, one, nought, minus_one, nonzero}
use Rattle.signed_digit.specs.String.{DigitString}
use Rattle.signed_digit.specs.Canonical.{Canonical}
use Rattle.signed_digit.specs.Masks.{plus_bit, minus_bit}
use Rattle.signed_digit.specs.CanonicalForm.{opposite, negated}
use Rattle.signed_digit.specs.Forms.{top, forms}
use Rattle.signed_digit.proofs.Strings.{small, negated_top}
use Rattle.signed_digit.proofs.Minimal.{Lightest}
use Rattle.signed_digit.proofs.Canonical.{canonical_lightest, canonical_first, canonical_top}
use Rattle.signed_digit.proofs.CanonicalForm.{negated_canonical}
use Rattle.signed_digit.proofs.Forms.{Form, sound, form_top, earlier_high}
use Rattle.signed_digit.proofs.Cuts.{empty, cut_heavy, cut_above, cut_below}
use Rattle.form_links.proofs.Lists.{forms_same, form_negated, forms_negated}

-- the strings of q places and weight k whose value is a - b + e * 2^q: their value is beside that of c
abbrev pub beside : Digit → ℕ → ℕ → ℕ → ℕ → List DigitString
beside e q k a b = forms q k (a + 2 ^ q * plus_bit e) (b + 2 ^ q * minus_bit e)

-- the digits 0, d on top: they stay, or d moves down
abbrev pub two : Digit → List DigitString → List DigitString → List DigitString
two d l m = map (top d) (map (top nought) l) ++ map (top nought) (map (top d) m)

-- ---- a 0 on top
-- no string of the weight and value of a canonical one with 0 on top has another digit there
module _ (d : Digit) (p k a b a' b' : ℕ) (c : DigitString) (u : nonzero d ≡ 1) (h : Canonical (top nought c)) (f : Form p (suc k) a b c)
    (ea : a' ≡ a + 2 ^ p * minus_bit d) (eb : b' ≡ b + 2 ^ p * plus_bit d) where
  none_on_top : forms p k a' b' ≡ []
  none_on_top = empty (forms p k a' b') (λ s m. other s (sound p k a' b' s m))
    where
      other : (s : DigitString) → Form p k a' b' s → ⊥
      other s g =
          let fc = form_top nought p (suc k) a b (suc k) a b (omega arith) (omega arith) (omega arith) c f in
          let fs = form_top d p (suc k) a b k a' b' (omega arith) ea eb s g in
          let m : Lightest (top d s) = λ t e. omega (arith, canonical_lightest (top nought c) h t (omega (arith, fc.worth, fs.worth)), fc.weighs, fs.weighs) in
          canonical_first (top nought c) (top d s) h m (omega (arith, fc.worth, fs.worth)) (earlier_high d s c u (g.places ∙ sym f.places))

forms_open : (p k a b : ℕ)
    → forms (suc p) (suc k) a b ≡ map (top one) (forms p k a (b + 2 ^ p)) ++ (map (top minus_one) (forms p k (a + 2 ^ p) b) ++ map (top nought) (forms p (suc k) a b))
unfolding forms
forms_open p k a b = refl

-- the three parts, each by what it is
three : (p k a b : ℕ) (x y z : List DigitString) → forms p k a (b + 2 ^ p) ≡ x → forms p k (a + 2 ^ p) b ≡ y → forms p (suc k) a b ≡ z
    → forms (suc p) (suc k) a b ≡ map (top one) x ++ (map (top minus_one) y ++ map (top nought) z)
three p k a b x y z i j l =
    forms_open p k a b ∙ ap₂ (λ (u v : List DigitString). map (top one) u ++ v) i (ap₂ (λ (u v : List DigitString). map (top minus_one) u ++ map (top nought) v) j l)

pub step_nought : (p k a b : ℕ) (c : DigitString) → Canonical (top nought c) → Form p k a b c → forms (suc p) k a b ≡ map (top nought) (forms p k a b)
unfolding forms
step_nought p zero a b c h f = refl
step_nought p (suc k) a b c h f =
    three p k a b [] [] (forms p (suc k) a b)
    (none_on_top one p k a b a (b + 2 ^ p) c refl h f (omega arith) (omega arith)) (none_on_top minus_one p k a b (a + 2 ^ p) b c refl h f (omega arith) (omega arith)) refl

-- ---- the digits 0, 1 on top
append-nil : (l : List DigitString) → l ++ [] ≡ l
append-nil [] = refl
append-nil (s ∷ l) = ap (λ (x : List DigitString). s ∷ x) (append-nil l)

module _ (q k a b : ℕ) (c : DigitString) (h : Canonical (top nought c)) (f : Form q k a b c) where
  near : (a ≤ b + 2 ^ q) × (b ≤ a + 2 ^ q)
  near = let l = ap (λ (n : ℕ). 2 ^ n) f.places in (omega (arith, small c, f.worth), omega (arith, small c, f.worth))

  -- the 1 moves down
  moved : (x y : ℕ) → x + b ≡ a + 2 ^ suc q + y → forms (suc q) (suc k) x y ≡ map (top one) (beside one q k a b)
  moved x y e =
      let n = near in
      let w = pow-suc 2 q in
      three q k x y (beside one q k a b) [] []
      (forms_same q k x (y + 2 ^ q) (a + 2 ^ q * 1) (b + 2 ^ q * 0) (omega arith))
      (cut_above q k (x + 2 ^ q) y (omega arith)) (cut_above q (suc k) x y (omega arith))
      ∙ append-nil (map (top one) (beside one q k a b))

  step_one : (x y : ℕ) → x + b ≡ a + 2 ^ suc q + y → forms (suc (suc q)) (suc k) x y ≡ two one (forms q k a b) (beside one q k a b)
  step_one x y e =
      let n = near in
      let w = pow-suc 2 q in
      three (suc q) k x y (map (top nought) (forms q k a b)) [] (map (top one) (beside one q k a b))
      (forms_same (suc q) k x (y + 2 ^ suc q) a b (omega arith) ∙ step_nought q k a b c h f)
      (cut_above (suc q) k (x + 2 ^ suc q) y (omega arith)) (moved x y e)

-- ---- the digits 0, -1 on top, by the opposite value
negated_tops : (d : Digit) (l : List DigitString) → map negated (map (top d) l) ≡ map (top (opposite d)) (map negated l)
negated_tops d [] = refl
negated_tops d (s ∷ l) = ap₂ (λ (x : DigitString) (y : List DigitString). x ∷ y) (negated_top d s) (negated_tops d l)

negated_two : (d : Digit) (l m : List DigitString) → map negated (two d l m) ≡ two (opposite d) (map negated l) (map negated m)
negated_two d l m =
    map-append negated (map (top d) (map (top nought) l)) (map (top nought) (map (top d) m))
    ∙ ap₂ (λ (x y : List DigitString). x ++ y)
    (negated_tops d (map (top nought) l) ∙ ap (map (top (opposite d))) (negated_tops nought l)) (negated_tops nought (map (top d) m) ∙ ap (map (top nought)) (negated_tops d m))

module _ (q k a b : ℕ) (c : DigitString) (h : Canonical (top nought c)) (f : Form q k a b c) where
  step_minus_one : (x y : ℕ) → x + 2 ^ suc q + b ≡ a + y → forms (suc (suc q)) (suc k) x y ≡ two minus_one (forms q k a b) (beside minus_one q k a b)
  step_minus_one x y e =
      let h' = subst Canonical (negated_top nought c) (negated_canonical (top nought c) h) in
      forms_negated (suc (suc q)) (suc k) y x
      ∙ ap (map negated) (step_one q k b a (negated c) h' (form_negated q k a b c f) y x (omega arith))
      ∙ negated_two one (forms q k b a) (beside one q k b a)
      ∙ sym (ap₂ (two minus_one) (forms_negated q k b a) (forms_negated q k (b + 2 ^ q * 1) (a + 2 ^ q * 0)))

  -- the digits 0, d on top
  step_digit : (d : Digit) → nonzero d ≡ 1 → (x y : ℕ) → x + 2 ^ suc q * minus_bit d + b ≡ a + 2 ^ suc q * plus_bit d + y
      → forms (suc (suc q)) (suc k) x y ≡ two d (forms q k a b) (beside d q k a b)
  step_digit one u x y e = step_one q k a b c h f x y (omega arith)
  step_digit nought u x y e = absurd (omega arith)
  step_digit minus_one u x y e = step_minus_one x y (omega arith)

  pub digit_on_top : (d : Digit) → nonzero d ≡ 1
      → forms (suc (suc q)) (suc k) (a + 2 ^ suc q * plus_bit d) (b + 2 ^ suc q * minus_bit d) ≡ two d (forms q k a b) (beside d q k a b)
  digit_on_top d u = step_digit d u (a + 2 ^ suc q * plus_bit d) (b + 2 ^ suc q * minus_bit d) (omega arith)

  -- ---- the lists beside it, after a 0 and after 0, d
  pub beside_nought : (d : Digit) → nonzero d ≡ 1 → beside d (suc q) k a b ≡ []
  beside_nought d u =
      let g = form_top nought q k a b k a b (omega arith) (omega arith) (omega arith) c f in
      let a' : ℕ = a + 2 ^ suc q * plus_bit d in
      let b' : ℕ = b + 2 ^ suc q * minus_bit d in
      let g' : Form (suc q) k (a' + 2 ^ suc q * minus_bit d) (b' + 2 ^ suc q * plus_bit d) (top nought c) = record { places = g.places; weighs = g.weighs; worth = omega (arith, g.worth) } in
      let t = form_top d (suc q) (suc k) a' b' k (a' + 2 ^ suc q * minus_bit d) (b' + 2 ^ suc q * plus_bit d) (omega arith) refl refl (top nought c) g' in
      cut_heavy (suc q) k a' b' (top d (top nought c)) (canonical_top d c h) t.worth (omega (arith, t.weighs))

  pub beside_same : (d : Digit) → nonzero d ≡ 1 → beside d (suc (suc q)) (suc k) (a + 2 ^ suc q * plus_bit d) (b + 2 ^ suc q * minus_bit d) ≡ []
  beside_same one u = let n = near q k a b c h f in cut_above (suc (suc q)) (suc k) _ _ (omega (arith, pow-suc 2 q, pow-suc 2 (suc q)))
  beside_same nought u = absurd (omega arith)
  beside_same minus_one u = let n = near q k a b c h f in cut_below (suc (suc q)) (suc k) _ _ (omega (arith, pow-suc 2 q, pow-suc 2 (suc q)))

  pub beside_opposite : (d : Digit) → nonzero d ≡ 1
      → beside (opposite d) (suc (suc q)) (suc k) (a + 2 ^ suc q * plus_bit d) (b + 2 ^ suc q * minus_bit d) ≡ two (opposite d) (forms q k a b) (beside (opposite d) q k a b)
  beside_opposite one u = step_digit minus_one refl _ _ (omega (arith, pow-suc 2 (suc q)))
  beside_opposite nought u = absurd (omega arith)
  beside_opposite minus_one u = step_digit one refl _ _ (omega (arith, pow-suc 2 (suc q)))
