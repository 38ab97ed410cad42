-- How far a walk over the canonical digits of 2m has come, from the low end, and what the next digits do to the lists of forms. Assumes nothing.
use mathlib.Core.Path.{◌≡◌, refl, ap, ap₂, sym, ◌∙◌}
use mathlib.Core.List.{List, [], ◌∷◌, map}
use Prim.Native.Nat.{ℕ, zero, suc, ◌+◌, ◌*◌, ◌≤◌, ◌^◌}
use native.Mathlib.Nat.{pow-suc}
use native.Mathlib.Omega.{arith}
use Rattle.signed_digit.specs.Digit.{Digit, one, nought, minus_one, nonzero}
use Rattle.signed_digit.specs.String.{DigitString}
use Rattle.signed_digit.specs.Weight.{weight}
use Rattle.signed_digit.specs.Canonical.{Canonical}
use Rattle.signed_digit.specs.Masks.{plus_bit, minus_bit}
use Rattle.signed_digit.specs.CanonicalForm.{opposite, canonical_nat}
use Rattle.signed_digit.specs.Forms.{top, forms}
use Rattle.signed_digit.proofs.Strings.{bit, pad, pad_places, pad_mask, pad_weight}
use Rattle.signed_digit.proofs.Same.{same_equal}
use Rattle.signed_digit.proofs.Value.{values_eq}
use Rattle.signed_digit.proofs.Canonical.{canonical_pad, canonical_top, canonical_unique}
use Rattle.signed_digit.proofs.CanonicalForm.{canonical_nat_worth, canonical_nat_places, canonical_nat_canonical}
use Rattle.signed_digit.proofs.Forms.{Form, form_top}
use Rattle.form_links.proofs.Lists.{forms_same, raised, doubled}
use Rattle.form_links.proofs.Steps.{beside, two, step_nought, digit_on_top, beside_nought, beside_same, beside_opposite}

-- Of the n canonical digits of 2m the walk has passed q, which are `low`: a canonical string of weight k and value a - b. Above it there
-- is a 0, and above that the canonical digits of y.
pub record Passed (n m y : ℕ) : Type 0 where
  pub q : ℕ
  pub k : ℕ
  pub a : ℕ
  pub b : ℕ
  pub low : DigitString
  pub canonical : Canonical low
  pub form : Form q k a b low
  pub rest : 2 * m + b ≡ a + 2 ^ suc q * y
  pub left : ℕ
  pub all : left + q ≡ n
  pub fits : 3 * y ≤ 2 ^ left

-- the forms of what has been passed, and those of the values beside it
abbrev pub here : {n m y : ℕ} → Passed n m y → List DigitString
here w = forms w.q w.k w.a w.b

abbrev pub side : {n m y : ℕ} → Digit → Passed n m y → List DigitString
side e w = beside e w.q w.k w.a w.b

unfoldable pub passed_start : (p m : ℕ) → 3 * m ≤ 2 * 2 ^ p → Passed (suc p) m m
passed_start p m h = record {
  q = 0;
  k = 0;
  a = 0;
  b = 0;
  low = [];
  canonical = λ i. omega arith;
  form = record { places = refl; weighs = refl; worth = refl };
  rest = omega arith;
  left = suc p;
  all = omega arith;
  fits = omega (arith, pow-suc 2 p);
}

-- ---- there are two places left
pub record Two (n : ℕ) : Type 0 where
  pub less : ℕ
  pub is : n ≡ suc (suc less)

pub two_left : (n y : ℕ) → 1 ≤ y → 3 * y ≤ 2 ^ n → Two n
two_left zero y h i = absurd (omega arith)
two_left (suc zero) y h i = absurd (omega arith)
two_left (suc (suc n)) y h i = record { less = n; is = refl }

module _ (n m y : ℕ) (w : Passed n m y) (h : 1 ≤ y) where
  pub more : Two w.left
  more = two_left w.left y h w.fits

  pub room : 3 * y ≤ 4 * 2 ^ more.less
  room = omega (arith, w.fits, ap (λ (i : ℕ). 2 ^ i) more.is, pow-suc 2 (suc more.less), pow-suc 2 more.less)

  pub above : Canonical (top nought w.low)
  above = canonical_pad 1 w.low w.canonical

  -- y is y' with a 0 below
  module _ (y' : ℕ) (e : y ≡ 2 * y') where
    unfoldable pub passed_nought : Passed n m y'
    passed_nought = record {
      q = suc w.q;
      k = w.k;
      a = w.a;
      b = w.b;
      low = top nought w.low;
      canonical = above;
      form = form_top nought w.q w.k w.a w.b w.k w.a w.b (omega arith) (omega arith) (omega arith) w.low w.form;
      rest = omega (arith, w.rest, ap (λ (i : ℕ). i * y') (pow-suc 2 (suc w.q)), ap (λ (i : ℕ). 2 ^ suc w.q * i) e);
      left = suc more.less;
      all = omega (arith, more.is, w.all);
      fits = omega (arith, room, pow-suc 2 more.less);
    }

    pub here_nought : here passed_nought ≡ map (top nought) (here w)
    unfolding passed_nought
    here_nought = step_nought w.q w.k w.a w.b w.low above w.form

    pub side_nought : (d : Digit) → nonzero d ≡ 1 → side d passed_nought ≡ []
    unfolding passed_nought
    side_nought d u = beside_nought w.q w.k w.a w.b w.low above w.form d u

  -- y is y' with the digits d, 0 below
  module _ (d : Digit) (u : nonzero d ≡ 1) (y' : ℕ) (e : y + minus_bit d ≡ 4 * y' + plus_bit d) where
    pub rest_digit : (x : ℕ) → x ≡ 2 ^ suc w.q → 2 * m + (w.b + x * minus_bit d) ≡ w.a + x * plus_bit d + 2 ^ suc (suc (suc w.q)) * y'
    rest_digit x i =
        omega (
          arith,
          w.rest,
          ap (λ (j : ℕ). j * y') (pow-suc 2 (suc (suc w.q))),
          ap (λ (j : ℕ). j * y') (pow-suc 2 (suc w.q)),
          ap (λ (j : ℕ). 2 ^ suc w.q * j) e,
          ap (λ (j : ℕ). j * minus_bit d) i,
          ap (λ (j : ℕ). j * plus_bit d) i,
        )

    pub fits_digit : 3 * y' ≤ 2 ^ more.less
    fits_digit = third d y y' (2 ^ more.less) e room
      where
        third : (d : Digit) (y y' x : ℕ) → y + minus_bit d ≡ 4 * y' + plus_bit d → 3 * y ≤ 4 * x → 3 * y' ≤ x
        third one y y' x e r = omega arith
        third nought y y' x e r = omega arith
        third minus_one y y' x e r = omega arith

    pub form_digit : Form (suc (suc w.q)) (suc w.k) (w.a + 2 ^ suc w.q * plus_bit d) (w.b + 2 ^ suc w.q * minus_bit d) (top d (top nought w.low))
    form_digit =
        let x : ℕ = 2 ^ suc w.q in
        let a' : ℕ = w.a + x * plus_bit d in
        let b' : ℕ = w.b + x * minus_bit d in
        let f = form_top nought w.q w.k w.a w.b w.k w.a w.b (omega arith) (omega arith) (omega arith) w.low w.form in
        form_top d (suc w.q) (suc w.k) a' b' w.k (a' + x * minus_bit d) (b' + x * plus_bit d) (omega arith) refl refl (top nought w.low)
        (record { places = f.places; weighs = f.weighs; worth = omega (arith, f.worth) })

    unfoldable pub passed_digit : Passed n m y'
    passed_digit = record {
      q = suc (suc w.q);
      k = suc w.k;
      a = w.a + 2 ^ suc w.q * plus_bit d;
      b = w.b + 2 ^ suc w.q * minus_bit d;
      low = top d (top nought w.low);
      canonical = canonical_top d w.low above;
      form = form_digit;
      rest = rest_digit (2 ^ suc w.q) refl;
      left = more.less;
      all = omega (arith, more.is, w.all);
      fits = fits_digit;
    }

    pub here_digit : here passed_digit ≡ two d (here w) (side d w)
    unfolding passed_digit
    here_digit = digit_on_top w.q w.k w.a w.b w.low above w.form d u

    pub side_same : side d passed_digit ≡ []
    unfolding passed_digit
    side_same = beside_same w.q w.k w.a w.b w.low above w.form d u

    pub side_opposite : side (opposite d) passed_digit ≡ two (opposite d) (here w) (side (opposite d) w)
    unfolding passed_digit
    side_opposite = beside_opposite w.q w.k w.a w.b w.low above w.form d u

-- ---- the end of the walk
-- zeros on top change nothing that g sees
tall : {A : Type 0} (g : DigitString → A) → ((s : DigitString) → g (top nought s) ≡ g s) → (t q n k a b : ℕ) (c : DigitString)
    → t + q ≡ n → Canonical c → Form q k a b c → map g (forms n k a b) ≡ map g (forms q k a b)
tall g e zero q n k a b c l h f = let w : n ≡ q = omega arith in ap (λ (i : ℕ). map g (forms i k a b)) w
tall {A} g e (suc t) q n k a b c l h f =
    let z = canonical_pad 1 c h in
    tall g e t (suc q) n k a b (top nought c) (omega arith) z (form_top nought q k a b k a b (omega arith) (omega arith) (omega arith) c f)
    ∙ ap (map g) (step_nought q k a b c z f)
    ∙ both (forms q k a b)
  where
    both : (l : List DigitString) → map g (map (top nought) l) ≡ map g l
    both [] = refl
    both (s ∷ l) = ap₂ (λ (x : A) (y : List A). x ∷ y) (e s) (both l)

module _ (p m : ℕ) (h : 3 * m ≤ 2 * 2 ^ p) (y : ℕ) (w : Passed (suc p) m y) (z : y ≡ 0) where
  done : 2 * m + w.b ≡ w.a
  done = omega (arith, w.rest, ap (λ (i : ℕ). 2 ^ suc w.q * i) z)

  -- what has been passed are the canonical digits of m, above a 0
  pub passed_all : pad w.left w.low ≡ raised (canonical_nat p m)
  passed_all =
      let c = canonical_nat p m in
      let l = pad w.left w.low in
      let v = (values_eq l (raised c)).1 (omega (arith, done, w.form.worth, canonical_nat_worth p m h, pad_mask plus_bit refl w.left w.low, pad_mask minus_bit refl w.left w.low)) in
      same_equal l (raised c) (omega (arith, pad_places w.left w.low, w.form.places, w.all, canonical_nat_places p m))
      (canonical_unique l (raised c) (canonical_pad w.left w.low w.canonical) (canonical_raised c (canonical_nat_canonical p m)) v)
    where
      canonical_raised : (c : DigitString) → Canonical c → Canonical (raised c)
      canonical_raised [] h zero = omega arith
      canonical_raised [] h (suc i) = omega arith
      canonical_raised (d ∷ c) h zero = omega (arith, bit d)
      canonical_raised (d ∷ c) h (suc i) = h i

  pub here_all : {A : Type 0} (g : DigitString → A) → ((s : DigitString) → g (top nought s) ≡ g s) → map g (here w) ≡ map g (map raised (forms p (weight (canonical_nat p m)) m 0))
  here_all g e =
      let k : w.k ≡ weight (canonical_nat p m) = omega (arith, w.form.weighs, pad_weight w.left w.low, ap weight passed_all) in
      sym (tall g e w.left w.q (suc p) w.k w.a w.b w.low w.all w.canonical w.form)
      ∙ ap (map g)
      (ap (λ (i : ℕ). forms (suc p) i w.a w.b) k
      ∙ forms_same (suc p) (weight (canonical_nat p m)) w.a w.b (2 * m) (2 * 0) (omega (arith, done))
      ∙ doubled p (weight (canonical_nat p m)) m 0)
