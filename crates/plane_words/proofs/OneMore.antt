-- The words of one mask more. Assumes nothing.
use mathlib.Core.Path.{◌≡◌, refl, sym, ap, ap₂, ◌∙◌}
use mathlib.Core.Bool.{Bool, true, false, cond}
use mathlib.Core.Logic.{◌≢◌}
use mathlib.Core.List.{List, [], ◌∷◌, ◌++◌}
use Prim.Native.Nat.{ℕ, zero, suc, ◌+◌, ◌-◌, ◌*◌, ◌≤◌, ◌<◌, ◌/◌, ◌%◌, ◌^◌}
use native.Mathlib.Omega.{arith}
use borrow.Author.Tests.{eqb-true, eqb-false, ltb-true, ltb-false}
use lib.Dec.{eqb, ltb}
use lib.ListN.{length, get_or, length-append, get_or-append, get_or-eq_default}
use lib.Seq.{get_or_at, drop_at}
use Rattle.plane_masks.specs.Binary.{bit_at, binary}
use Rattle.plane_masks.specs.Planes.{plane_word, plane_words_of}
use Rattle.plane_words.specs.Inner.{share, with_cell}
use Rattle.plane_masks.proofs.Binary.{bit_small, no_bit, binary_ext, binary_small, binary_top}
use Rattle.plane_masks.proofs.Planes.{words_length, word_at}
use Rattle.plane_masks.proofs.Lists.{listed}

-- one bit more
pub binary_added : (n a v : ℕ) (f g : ℕ → ℕ) → a < n → f a ≡ 0 → g a ≡ v → ((i : ℕ) → i ≢ a → f i ≡ g i) → binary n f + 2 ^ a * v ≡ binary n g
unfolding binary
binary_added zero a v f g h z e same = absurd (omega arith)
binary_added (suc n) a v f g h z e same = go (eqb a n) refl (λ (l : a < n). binary_added n a v f g l z e same)
  where
    less : (a n : ℕ) → a < suc n → (a ≡ n → ⊥) → a < n
    less a n h d = omega arith

    go : (t : Bool) → eqb a n ≡ t → (a < n → binary n f + 2 ^ a * v ≡ binary n g) → binary n f + 2 ^ n * f n + 2 ^ a * v ≡ binary n g + 2 ^ n * g n
    go true q ih =
        let r = eqb-true a n q in
        let x = ap (λ (y : ℕ). 2 ^ n * y) (ap f (sym r) ∙ z) in
        let y = ap (λ (y : ℕ). 2 ^ n * y) (ap g (sym r) ∙ e) in
        let w = ap (λ (y : ℕ). 2 ^ y * v) r in
        omega (arith, x, y, w, binary_ext n f g (λ (i : ℕ) (l : i < n). same i (λ (s : i ≡ a). omega (arith, s, r))))
    go false q ih =
        let d = eqb-false a n q in
        let x = ap (λ (y : ℕ). 2 ^ n * y) (same n (λ (s : n ≡ a). d (sym s))) in
        omega (arith, x, ih (less a n h d))

-- ---- a list with one element more
module _ (masks : List ℕ) (m : ℕ) where
  last_is : get_or (masks ++ (m ∷ [])) (length masks) 0 ≡ m
  last_is = get_or_at masks m [] 0 (length masks) refl

  others_are : (i : ℕ) → i ≢ length masks → get_or masks i 0 ≡ get_or (masks ++ (m ∷ [])) i 0
  others_are i n = go (ltb i (length masks)) refl
    where
      past : (i l : ℕ) → l ≤ i → (i ≡ l → ⊥) → l + 1 ≤ i
      past i l h n = omega arith

      go : (t : Bool) → ltb i (length masks) ≡ t → get_or masks i 0 ≡ get_or (masks ++ (m ∷ [])) i 0
      go true e = sym (get_or-append masks (m ∷ []) 0 i (ltb-true i (length masks) e))
      go false e =
          let h = ltb-false i (length masks) e in
          get_or-eq_default masks 0 h
          ∙ sym (get_or-eq_default (masks ++ (m ∷ [])) 0 (omega (arith, past i (length masks) h n, length-append masks (m ∷ []))))

module _ (masks : List ℕ) (c : ℕ) (is : length masks ≡ c) where
  -- the bits of word k, of a list of masks
  abbrev bits_of : List ℕ → ℕ → ℕ → ℕ
  bits_of l k b = bit_at (get_or l (64 * (k % 4) + b) 0) (k / 4)

  word_added : (m k : ℕ) → plane_word masks k + 2 ^ (c % 64) * share m c k ≡ plane_word (masks ++ (m ∷ [])) k
  unfolding plane_word share
  word_added m k = go (eqb (k % 4) (c / 64)) refl
    where
      other : (k c b : ℕ) → k % 4 ≡ c / 64 → b ≢ c % 64 → 64 * (k % 4) + b ≢ c
      other k c b e n q = n (omega arith)

      apart : (k c b : ℕ) → b < 64 → (k % 4 ≡ c / 64 → ⊥) → 64 * (k % 4) + b ≢ c
      apart k c b h n q = n (omega arith)

      same : (b : ℕ) → 64 * (k % 4) + b ≢ c → bits_of masks k b ≡ bits_of (masks ++ (m ∷ [])) k b
      same b n = ap (λ (x : ℕ). bit_at x (k / 4)) (others_are masks m (64 * (k % 4) + b) (λ (q : 64 * (k % 4) + b ≡ length masks). n (q ∙ is)))

      go : (t : Bool) → eqb (k % 4) (c / 64) ≡ t
          → binary 64 (bits_of masks k) + 2 ^ (c % 64) * cond t (bit_at m (k / 4)) 0 ≡ binary 64 (bits_of (masks ++ (m ∷ [])) k)
      go true e =
          let q = eqb-true (k % 4) (c / 64) e in
          let cell : 64 * (k % 4) + c % 64 ≡ length masks = omega (arith, q, is) in
          binary_added 64 (c % 64) (bit_at m (k / 4)) (bits_of masks k) (bits_of (masks ++ (m ∷ [])) k) (omega arith)
          (ap (λ (i : ℕ). bit_at (get_or masks i 0) (k / 4)) cell ∙ ap (λ (x : ℕ). bit_at x (k / 4)) (get_or-eq_default masks 0 (omega arith)) ∙ no_bit (k / 4))
          (ap (λ (i : ℕ). bit_at (get_or (masks ++ (m ∷ [])) i 0) (k / 4)) cell ∙ ap (λ (x : ℕ). bit_at x (k / 4)) (last_is masks m))
          (λ (b : ℕ) n. same b (other k c b q n))
      go false e =
          let x : 2 ^ (c % 64) * 0 ≡ 0 = omega arith in
          omega (arith, x, binary_ext 64 (bits_of masks k) (bits_of (masks ++ (m ∷ [])) k) (λ (b : ℕ) h. same b (apart k c b h (eqb-false (k % 4) (c / 64) e))))

  -- words with nothing from cell c on
  word_room : (p : ℕ) → c < 256 → plane_word masks (4 * p + c / 64) < 2 ^ (c % 64)
  unfolding plane_word
  word_room p few =
      let k : ℕ = 4 * p + c / 64 in
      let n : ℕ = c % 64 in
      let s : 64 ≡ n + (64 - n) = omega arith in
      let e : binary 64 (bits_of masks k) ≡ binary n (bits_of masks k) = ap (λ (w : ℕ). binary w (bits_of masks k)) s ∙ binary_top n (64 - n) (bits_of masks k) past in
      omega (arith, e, binary_small n (bits_of masks k) (λ (b : ℕ). bit_small (get_or masks (64 * (k % 4) + b) 0) (k / 4)))
    where
      past : (b : ℕ) → c % 64 ≤ b → bits_of masks (4 * p + c / 64) b ≡ 0
      past b h =
          ap (λ (x : ℕ). bit_at x ((4 * p + c / 64) / 4)) (get_or-eq_default masks 0 (omega (arith, is))) ∙ no_bit ((4 * p + c / 64) / 4)

  module _ (rest : List ℕ) where
    front_at : (k : ℕ) → k < 128 → get_or (plane_words_of masks ++ rest) k 0 ≡ plane_word masks k
    front_at k h = get_or-append (plane_words_of masks) rest 0 k (omega (arith, words_length masks)) ∙ word_at masks k h

    -- there is room for cell c
    pub room : c < 256 → (p : ℕ) → p < 32 → get_or (plane_words_of masks ++ rest) (4 * p + c / 64) 0 < 2 ^ (c % 64)
    room few p h = omega (arith, front_at (4 * p + c / 64) (omega arith), word_room p few)

    pub one_more : (m : ℕ) → with_cell m c (plane_words_of masks ++ rest) ≡ plane_words_of (masks ++ (m ∷ [])) ++ rest
    unfolding with_cell
    one_more m =
        ap₂ (λ (x y : List ℕ). x ++ y)
        (listed 0 (λ (k : ℕ). get_or (plane_words_of masks ++ rest) k 0 + 2 ^ (c % 64) * share m c k) (plane_words_of (masks ++ (m ∷ []))) (words_length (masks ++ (m ∷ [])))
        (λ (k : ℕ) (h : k < 128). ap (λ (x : ℕ). x + 2 ^ (c % 64) * share m c k) (front_at k h) ∙ word_added m k ∙ sym (word_at (masks ++ (m ∷ [])) k h)))
        (drop_at (plane_words_of masks) rest 128 (words_length masks))
