-- A mask table on the walk. It holds the masks of one sign: of the strings passed and, at other offsets, of those beside them. The digits
-- still to come are in the offset, so that at the end it is 0. Assumes nothing.
use mathlib.Core.Path.{◌≡◌, refl, ap, ap₂, sym, ◌∙◌, subst}
use mathlib.Core.Bool.{Bool, true}
use mathlib.Core.List.{List, [], ◌∷◌, ◌++◌, map, Memᴰ}
use mathlib.Core.Logic.{◌⊎◌, inl, inr, ⊎_elim}
use Prim.Native.Nat.{ℕ, suc, ◌+◌, ◌*◌, ◌-◌, ◌≤◌, ◌<◌, ◌^◌, ◌/◌, ◌%◌}
use native.Mathlib.Nat.{pow-suc}
use native.Mathlib.Omega.{arith}
use lib.IntN.{pos}
use lib.ListN.{length, take, length-map}
use lib.Pow.{pow_mono}
use Rattle.signed_digit.specs.Digit.{Digit, one, nought, minus_one, nonzero}
use Rattle.signed_digit.specs.String.{DigitString}
use Rattle.signed_digit.specs.Weight.{weight}
use Rattle.signed_digit.specs.Masks.{mask, plus_bit, minus_bit}
use Rattle.signed_digit.specs.CanonicalForm.{opposite, canonical_nat}
use Rattle.signed_digit.specs.Forms.{top, forms, listing}
use Rattle.signed_digit.proofs.Strings.{small, opposite_bits, opposite_twice}
use Rattle.signed_digit.proofs.Forms.{sound}
use Rattle.signed_digit.proofs.Listing.{listing_forms, listing_is}
use Rattle.form_links.specs.Inner.{shifted}
use Rattle.form_links.proofs.Growth.{grown_if}
use Rattle.form_links.proofs.Lists.{raised}
use Rattle.form_links.proofs.Steps.{two}
use Rattle.form_links.proofs.Passed.{Passed, here, side, passed_start, passed_nought, passed_digit, here_nought, side_nought, here_digit, side_same, side_opposite, passed_all, here_all}
use Rattle.form_links.proofs.Counts.{of_side, Counts}
use Rattle.form_links.proofs.SignMasks.{bit_of, mask_of, own_bit, other_bit, mask_nought, mask_digit_lem, mask_pad, masks_nought, masks_two, plus_none}
use Rattle.form_links.proofs.Offsets.{plus, Fronts, own_step, other_step}

-- ---- a table on the walk
pub record Column {n m y : ℕ} (s : Digit) (w : Passed n m y) (needed : Type 0) (first : ℕ) (t : List ℕ) : Type 0 where
  pub κ : ℕ
  pub fronts : Fronts needed (2 ^ w.q / 4) κ t (map (mask_of s) (here w)) (map (mask_of s) (side s w)) (map (mask_of s) (side (opposite s) w))
  pub sum : (κ + mask_of s w.low) % 2 ^ 32 ≡ first

pub column_start : (s : Digit) → nonzero s ≡ 1 → (p m : ℕ) (h : 3 * m ≤ 2 * 2 ^ p) (needed : Type 0) (first : ℕ) (t : List ℕ) → take 1 t ≡ first ∷ []
    → first < 2 ^ 32 → Column s (passed_start p m h) needed first t
unfolding passed_start forms
column_start s u p m h needed first t e l = record { κ = first; fronts = at_start s u; sum = omega arith }
  where
    same : (x : ℕ) → x < 2 ^ 32 → x ≡ (0 + x) % 2 ^ 32
    same x h = omega arith

    flat : take 1 t ≡ (0 + first) % 2 ^ 32 ∷ []
    flat = e ∙ ap (λ (x : ℕ). x ∷ []) (same first l)

    at_start : (s : Digit) → nonzero s ≡ 1
        → Fronts needed 0 first t (map (mask_of s) (here (passed_start p m h))) (map (mask_of s) (side s (passed_start p m h))) (map (mask_of s) (side (opposite s) (passed_start p m h)))
    at_start one u = record { is_flat = flat; is_own = λ i. refl; is_other = λ i. refl }
    at_start nought u = absurd (omega arith)
    at_start minus_one u = record { is_flat = flat; is_own = λ i. refl; is_other = λ i. refl }

fronts_cast : {needed : Type 0} {e e' κ : ℕ} {t t' A A' S S' O O' : List ℕ} → e ≡ e' → t ≡ t' → A ≡ A' → S ≡ S' → O ≡ O'
    → Fronts needed e κ t A S O → Fronts needed e' κ t' A' S' O'
fronts_cast {needed} {e} {e'} {κ} {t} {t'} {A} {A'} {S} {S'} {O} {O'} i j k l o x =
    subst (λ (z : List ℕ). Fronts needed e' κ t' A' S' z) o
    (subst (λ (z : List ℕ). Fronts needed e' κ t' A' z O) l
    (subst (λ (z : List ℕ). Fronts needed e' κ t' z S O) k (subst (λ (z : List ℕ). Fronts needed e' κ z A S O) j (subst (λ (z : ℕ). Fronts needed z κ t A S O) i x))))

opposite_nonzero : (s : Digit) → nonzero s ≡ 1 → nonzero (opposite s) ≡ 1
opposite_nonzero s u = (opposite_bits s).2 ∙ u

module _ (s : Digit) (v : nonzero s ≡ 1) (n m y : ℕ) (w : Passed n m y) (needed : Type 0) (first : ℕ) (t : List ℕ) (C : Column s w needed first t) (h : 1 ≤ y)
    (later : Type 0) where
  -- ---- a 0
  pub column_nought : (y' : ℕ) (e : y ≡ 2 * y') → Column s (passed_nought n m y w h y' e) later first t
  unfolding passed_nought
  column_nought y' e = record {
    κ = C.κ;
    fronts = fronts_cast refl refl
        (sym (ap (map (mask_of s)) (here_nought n m y w h y' e) ∙ masks_nought s (here w)))
        (sym (ap (map (mask_of s)) (side_nought n m y w h y' e s v)))
        (sym (ap (map (mask_of s)) (side_nought n m y w h y' e (opposite s) (opposite_nonzero s v))))
        (record { is_flat = C.fronts.is_flat; is_own = λ i. refl; is_other = λ i. refl });
    sum = ap (λ (x : ℕ). (C.κ + x) % 2 ^ 32) (mask_nought s w.low) ∙ C.sum;
  }

  -- ---- a nonzero digit, for which the table grows
  module _ (l above below : ℕ) (c : Counts w l above below) (low : 2 ^ w.q ≤ 2 ^ 32) (K : ℕ) (back : (K + 2 ^ w.q / 4) % 2 ^ 32 ≡ 0)
      (copied : Bool) (room : copied ≡ true → l + (above + below) ≤ length t) where
    length_a : length (map (mask_of s) (here w)) ≡ l
    length_a = length-map (here w) (mask_of s) ∙ sym c.flat

    length_s : length (map (mask_of s) (side s w)) ≡ of_side s above below
    length_s = length-map (side s w) (mask_of s) ∙ sym (c.sides s v)

    length_o : length (map (mask_of s) (side (opposite s) w)) ≡ of_side (opposite s) above below
    length_o = length-map (side (opposite s) w) (mask_of s) ∙ sym (c.sides (opposite s) (opposite_nonzero s v))

    both : length (map (mask_of s) (side s w)) + length (map (mask_of s) (side (opposite s) w)) ≡ above + below
    both = ap₂ (λ (i j : ℕ). i + j) length_s length_o ∙ sum_of s v
      where
        sum_of : (s : Digit) → nonzero s ≡ 1 → of_side s above below + of_side (opposite s) above below ≡ above + below
        sum_of one u = refl
        sum_of nought u = absurd (omega arith)
        sum_of minus_one u = omega arith

    one_empty : (length (map (mask_of s) (side s w)) ≡ 0) ⊎ (length (map (mask_of s) (side (opposite s) w)) ≡ 0)
    one_empty = ⊎_elim (λ z. inl (length_s ∙ z)) (λ z. inr (length_o ∙ z)) (by_side s v c.alone)
      where
        by_side : (s : Digit) → nonzero s ≡ 1 → (above ≡ 0) ⊎ (below ≡ 0) → (of_side s above below ≡ 0) ⊎ (of_side (opposite s) above below ≡ 0)
        by_side one u z = z
        by_side nought u z = absurd (omega arith)
        by_side minus_one u (inl z) = inr z
        by_side minus_one u (inr z) = inl z

    grows : grown_if copied t (length (map (mask_of s) (here w))) (length (map (mask_of s) (side s w)) + length (map (mask_of s) (side (opposite s) w))) K ≡ grown_if copied t l (above + below) K
    grows = ap₂ (λ (i j : ℕ). grown_if copied t i j K) length_a both

    four : 1 ≤ length (map (mask_of s) (side s w)) + length (map (mask_of s) (side (opposite s) w)) → 2 ^ w.q ≡ 4 * (2 ^ w.q / 4)
    four i = c.quarter (omega (arith, both))

    -- members have q places
    q_here : (r : DigitString) → Memᴰ r (here w) → length r ≡ w.q
    q_here r k = (sound w.q w.k w.a w.b r k).places

    q_side : (d : Digit) (x : DigitString) → Memᴰ x (side d w) → length x ≡ w.q
    q_side d x k = (sound w.q w.k (w.a + 2 ^ w.q * plus_bit d) (w.b + 2 ^ w.q * minus_bit d) x k).places

    -- the masks with s on top, or moved down, and with the opposite digit
    masks_own : map (mask_of s) (two s (here w) (side s w)) ≡ map (plus (2 ^ w.q)) (map (mask_of s) (here w)) ++ map (plus (2 ^ w.q / 2)) (map (mask_of s) (side s w))
    masks_own =
        let b = own_bit s v in
        masks_two s s w.q (2 ^ w.q) (2 ^ w.q / 2)
        (omega (arith, ap (λ (x : ℕ). 2 ^ w.q * x) b)) (omega (arith, ap (λ (x : ℕ). 2 ^ w.q / 2 * x) b)) (here w) (side s w) q_here (q_side s)

    masks_other : map (mask_of s) (two (opposite s) (here w) (side (opposite s) w)) ≡ map (mask_of s) (here w) ++ map (mask_of s) (side (opposite s) w)
    masks_other =
        let b = other_bit s in
        masks_two s (opposite s) w.q 0 0
        (omega (arith, ap (λ (x : ℕ). 2 ^ w.q * x) b)) (omega (arith, ap (λ (x : ℕ). 2 ^ w.q / 2 * x) b)) (here w) (side (opposite s) w) q_here (q_side (opposite s))
        ∙ ap₂ (λ (x y : List ℕ). x ++ y) (plus_none (map (mask_of s) (here w))) (plus_none (map (mask_of s) (side (opposite s) w)))

    enough : copied ≡ true → length (map (mask_of s) (here w)) + (length (map (mask_of s) (side s w)) + length (map (mask_of s) (side (opposite s) w))) ≤ length t
    enough c = omega (arith, room c, length_a, both)

    -- the forms on the side of d, where there are any, were needed and were copied
    abbrev pub Met : Digit → Type 0
    Met d = 1 ≤ of_side d above below → (copied ≡ true) × needed

    fourth : 2 ^ w.q ≡ 2 ^ suc (suc w.q) / 4
    fourth = omega (arith, pow-suc 2 w.q, pow-suc 2 (suc w.q))

    -- the digit is the table's own
    pub column_own : (y' : ℕ) (e : y + minus_bit s ≡ 4 * y' + plus_bit s) → Met s → (later → Met (opposite s))
        → Column s (passed_digit n m y w h s v y' e) later first (grown_if copied t l (above + below) K)
    unfolding passed_digit
    column_own y' e i j = record {
      κ = C.κ + (2 ^ 32 - 2 ^ w.q);
      fronts = fronts_cast fourth grows
          (sym (ap (map (mask_of s)) (here_digit n m y w h s v y' e) ∙ masks_own))
          (sym (ap (map (mask_of s)) (side_same n m y w h s v y' e)))
          (sym (ap (map (mask_of s)) (side_opposite n m y w h s v y' e) ∙ masks_other))
          (own_step needed copied (2 ^ w.q / 4) C.κ (2 ^ w.q) K t (map (mask_of s) (here w)) (map (mask_of s) (side s w)) (map (mask_of s) (side (opposite s) w))
          C.fronts (omega (arith, low)) low four back one_empty enough later (λ x. i (omega (arith, length_s))) (λ z x. j z (omega (arith, length_o))));
      sum = less C.κ (mask_of s w.low) (2 ^ w.q) (mask_of s (top s (top nought w.low))) low
          (omega (arith, mask_digit_lem s s w.q w.low w.form.places, ap (λ (x : ℕ). 2 ^ w.q * x) (own_bit s v))) ∙ C.sum;
    }
      where
        less : (κ x b z : ℕ) → b ≤ 2 ^ 32 → z ≡ x + b → (κ + (2 ^ 32 - b) + z) % 2 ^ 32 ≡ (κ + x) % 2 ^ 32
        less κ x b z i e = omega arith

    -- the digit is the opposite one
    pub column_other : (u : nonzero (opposite s) ≡ 1) (y' : ℕ) (e : y + minus_bit (opposite s) ≡ 4 * y' + plus_bit (opposite s)) → Met (opposite s) → (later → Met s)
        → Column s (passed_digit n m y w h (opposite s) u y' e) later first (grown_if copied t l (above + below) K)
    unfolding passed_digit
    column_other u y' e i j = record {
      κ = C.κ;
      fronts = fronts_cast fourth grows
          (sym (ap (map (mask_of s)) (here_digit n m y w h (opposite s) u y' e) ∙ masks_other))
          (sym (ap (map (mask_of s)) again ∙ masks_own))
          (sym (ap (map (mask_of s)) (side_same n m y w h (opposite s) u y' e)))
          (other_step needed copied (2 ^ w.q / 4) C.κ (2 ^ w.q) K t (map (mask_of s) (here w)) (map (mask_of s) (side s w)) (map (mask_of s) (side (opposite s) w))
          C.fronts (omega (arith, low)) low four back one_empty enough later (λ x. i (omega (arith, length_o))) (λ z x. j z (omega (arith, length_s))));
      sum = ap (λ (x : ℕ). (C.κ + x) % 2 ^ 32)
          (omega (arith, mask_digit_lem s (opposite s) w.q w.low w.form.places, ap (λ (x : ℕ). 2 ^ w.q * x) (other_bit s))) ∙ C.sum;
    }
      where
        again : side s (passed_digit n m y w h (opposite s) u y' e) ≡ two s (here w) (side s w)
        again =
            subst (λ (d : Digit). side d (passed_digit n m y w h (opposite s) u y' e) ≡ two d (here w) (side d w)) (opposite_twice s)
            (side_opposite n m y w h (opposite s) u y' e)

-- ---- the end of the walk
module _ (p m : ℕ) (hp : p ≤ 32) (hm : 3 * m ≤ 2 * 2 ^ p) (s : Digit) (y : ℕ) (w : Passed (suc p) m y) (z : y ≡ 0) where
  -- the offset is 0
  offset_none : (needed : Type 0) (first : ℕ) (t : List ℕ) (C : Column s w needed first t) → first ≡ mask (bit_of s) (canonical_nat p m) → first < 2 ^ 32 → C.κ % 2 ^ 32 ≡ 0
  offset_none needed first t C f l =
      let e : mask_of s w.low ≡ first = sym (mask_pad s w.left w.low) ∙ ap (mask_of s) (passed_all p m hm y w z) ∙ sym f in
      omega (arith, C.sum, e, l)

  masks_raised : (l : List DigitString) → map (mask_of s) (map raised l) ≡ map (mask (bit_of s)) l
  masks_raised [] = refl
  masks_raised (t ∷ l) = ap (λ (x : List ℕ). mask (bit_of s) t ∷ x) (masks_raised l)

  -- masks below 2^32 with the offset 0
  plain : (κ : ℕ) → κ % 2 ^ 32 ≡ 0 → (l : List DigitString) → ((t : DigitString) → Memᴰ t l → length t ≡ p) → map (shifted κ) (map (mask (bit_of s)) l) ≡ map (mask (bit_of s)) l
  plain κ e [] h = refl
  plain κ e (t ∷ l) h =
      ap₂ (λ (x : ℕ) (y : List ℕ). x ∷ y) (none (mask (bit_of s) t) (below s t (h t (Memᴰ.head refl)))) (plain κ e l (λ r k. h r (Memᴰ.tail k)))
    where
      none : (x : ℕ) → x < 2 ^ 32 → (x + κ) % 2 ^ 32 ≡ x
      none x i = omega arith

      below : (s : Digit) (t : DigitString) → length t ≡ p → mask (bit_of s) t < 2 ^ 32
      below one t l = let i : 2 ^ p ≤ 2 ^ 32 = pow_mono hp in omega (arith, small t, ap (λ (n : ℕ). 2 ^ n) l)
      below nought t l = let i : 2 ^ p ≤ 2 ^ 32 = pow_mono hp in omega (arith, small t, ap (λ (n : ℕ). 2 ^ n) l)
      below minus_one t l = let i : 2 ^ p ≤ 2 ^ 32 = pow_mono hp in omega (arith, small t, ap (λ (n : ℕ). 2 ^ n) l)

  -- the front of the table holds the masks of the listing
  pub column_end : (needed : Type 0) (count first : ℕ) (t : List ℕ) → Column s w needed first t → first ≡ mask (bit_of s) (canonical_nat p m) → first < 2 ^ 32
      → count ≡ length (here w) → take count t ≡ map (mask (bit_of s)) (listing p (pos m))
  column_end needed count first t C f l e =
      let L = forms p (weight (canonical_nat p m)) m 0 in
      let q : listing p (pos m) ≡ L = listing_forms p (pos m) hm in
      ap (λ (n : ℕ). take n t) (e ∙ sym (length-map (here w) (mask_of s)))
      ∙ C.fronts.is_flat
      ∙ ap (map (shifted C.κ)) (here_all p m hm y w z (mask_of s) (mask_nought s) ∙ masks_raised L ∙ ap (map (mask (bit_of s))) (sym q))
      ∙ plain C.κ (offset_none needed first t C f l) (listing p (pos m)) (λ r k. ((listing_is p (pos m)).only r k).0)
