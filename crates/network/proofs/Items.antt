-- Items of one width, one after the other in a table of words: what is read from a table, what writing an item leaves, and the words of all items.
-- proofs/Tables.antt has the two layouts that there are, of rows and of tap rows. Assumes nothing.
use mathlib.Core.Path.{◌≡◌, refl, sym, ap, ap₂, ◌∙◌}
use mathlib.Core.List.{List, [], ◌∷◌, ◌++◌, flat_map, append-nil, append_assoc}
use Prim.Native.Nat.{ℕ, zero, suc, ◌+◌, ◌*◌, ◌≤◌, ◌<◌}
use native.Mathlib.Nat.{mul-suc, mul-zero, mul-le-mul_left, not-suc-le-zero, le_of_suc-le-suc}
use native.Mathlib.Numerals.{add-one}
use native.Mathlib.Omega.{arith}
use lib.ListN.{length, get_or, take, drop, length-append, length-drop, take-append-drop, get_or-append}
use lib.Seq.{sets, sets-eq, length-sets, length-take-le, get_or-take, get_or-drop, drop_at, drop-append-add, drop-drop, take-add, ext_get_or}
use Rattle.sequence.specs.UpTo.{up_to}
use Rattle.sequence.proofs.UpTo.{length_up_to, get_d_up_to, up_to_same, up_to_take}

-- what makes a layout of a width, of the words of an item and of the item that is read at a place
pub record Layout {A : Type 0} (width : ℕ) (words_of : A → List ℕ) (item_at : List ℕ → ℕ → A) : Type 0 where
  -- an item has as many words
  pub size : (a : A) → length (words_of a) ≡ width
  -- it is read back from its own words
  pub there : (a : A) (rest : List ℕ) → item_at (words_of a ++ rest) 0 ≡ a
  -- its words are those that stand there
  pub back : (t : List ℕ) → words_of (item_at t 0) ≡ up_to width (λ (k : ℕ). get_or t k 0)
  -- and nothing else is read
  pub same : (s t : List ℕ) (i j : ℕ) → ((k : ℕ) → k < width → get_or s (width * i + k) 0 ≡ get_or t (width * j + k) 0) → item_at s i ≡ item_at t j

module _ {A : Type 0} {width : ℕ} {words_of : A → List ℕ} {item_at : List ℕ → ℕ → A} (L : Layout width words_of item_at) where
  at_drop : (t : List ℕ) (i : ℕ) → item_at t i ≡ item_at (drop (width * i) t) 0
  at_drop t i = L.same t (drop (width * i) t) i 0 word
    where
      word : (k : ℕ) → k < width → get_or t (width * i + k) 0 ≡ get_or (drop (width * i) t) (width * 0 + k) 0
      word k l =
          let first : k ≡ width * 0 + k = omega (arith, mul-zero width) in
          sym (get_or-drop (width * i) t k 0) ∙ ap (λ (z : ℕ). get_or (drop (width * i) t) z 0) first

  -- ---- an item is written
  module _ (t : List ℕ) (n : ℕ) (a : A) (room : width * n + width ≤ length t) where
    abbrev written : List ℕ
    written = sets t (width * n) (words_of a)

    written_is : written ≡ take (width * n) t ++ (words_of a ++ drop (width * n + width) t)
    written_is =
        sets-eq (words_of a) t (width * n) (omega (arith, L.size a, room))
        ∙ append_assoc (take (width * n) t) (words_of a) (drop (width * n + length (words_of a)) t)
        ∙ ap (λ (k : ℕ). take (width * n) t ++ (words_of a ++ drop (width * n + k) t)) (L.size a)

    taken : length (take (width * n) t) ≡ width * n
    taken = length-take-le (width * n) t (omega (arith, room))

    after : drop (width * n) written ≡ words_of a ++ drop (width * n + width) t
    after = ap (drop (width * n)) written_is ∙ drop_at (take (width * n) t) (words_of a ++ drop (width * n + width) t) (width * n) taken

    pub new_item : item_at written n ≡ a
    new_item = at_drop written n ∙ ap (λ (x : List ℕ). item_at x 0) after ∙ L.there a (drop (width * n + width) t)

    pub old_item : (i : ℕ) → i < n → item_at written i ≡ item_at t i
    old_item i l = L.same written t i i word
      where
        word : (k : ℕ) → k < width → get_or written (width * i + k) 0 ≡ get_or t (width * i + k) 0
        word k h =
            let below : width * i + k < width * n = omega (arith, h, mul-suc width i, mul-le-mul_left width l) in
            ap (λ (x : List ℕ). get_or x (width * i + k) 0) written_is
            ∙ get_or-append (take (width * n) t) (words_of a ++ drop (width * n + width) t) 0 (width * i + k) (omega (arith, taken, below))
            ∙ get_or-take (width * n) t (width * i + k) 0 below

    pub items_written : up_to (n + 1) (item_at written) ≡ up_to n (item_at t) ++ (a ∷ [])
    unfolding up_to
    items_written =
        ap (λ (k : ℕ). up_to k (item_at written)) (add-one n)
        ∙ ap₂ (λ (x : List A) (y : A). x ++ (y ∷ [])) (up_to_same (item_at written) (item_at t) n old_item) new_item

    pub rest_kept : drop (width * (n + 1)) written ≡ drop (width * (n + 1)) t
    rest_kept =
        let next : width * (n + 1) ≡ width * n + width = ap (λ (k : ℕ). width * k) (add-one n) ∙ mul-suc width n in
        ap (λ (k : ℕ). drop k written) next
        ∙ sym (drop-drop width (width * n) written)
        ∙ ap (drop width) after
        ∙ drop_at (words_of a) (drop (width * n + width) t) width (L.size a)
        ∙ ap (λ (k : ℕ). drop k t) (sym next)

  pub length_written : (t : List ℕ) (n : ℕ) (a : A) → length (sets t (width * n) (words_of a)) ≡ length t
  length_written t n a = length-sets t (width * n) (words_of a)

  -- ---- the words of all items
  pub length_words : (items : List A) → length (flat_map words_of items) ≡ width * length items
  unfolding flat_map
  length_words [] = sym (mul-zero width)
  length_words (a ∷ items) =
      length-append (words_of a) (flat_map words_of items)
      ∙ ap₂ ◌+◌ (L.size a) (length_words items)
      ∙ omega (arith, mul-suc width (length items))

  words_append : (items more : List A) → flat_map words_of (items ++ more) ≡ flat_map words_of items ++ flat_map words_of more
  unfolding flat_map
  words_append [] more = refl
  words_append (a ∷ items) more = ap (λ (x : List ℕ). words_of a ++ x) (words_append items more) ∙ sym (append_assoc (words_of a) (flat_map words_of items) (flat_map words_of more))

  item_of_words : (d : A) (rest : List ℕ) (items : List A) (i : ℕ) → i < length items → item_at (flat_map words_of items ++ rest) i ≡ get_or items i d
  unfolding flat_map
  item_of_words d rest [] i l = absurd (not-suc-le-zero l)
  item_of_words d rest (a ∷ items) zero l =
      ap (λ (x : List ℕ). item_at x 0) (append_assoc (words_of a) (flat_map words_of items) rest) ∙ L.there a (flat_map words_of items ++ rest)
  item_of_words d rest (a ∷ items) (suc i) l =
      let more = flat_map words_of items ++ rest in
      let next : width * suc i ≡ width + width * i = omega (arith, mul-suc width i) in
      at_drop ((words_of a ++ flat_map words_of items) ++ rest) (suc i)
      ∙ ap₂ (λ (k : ℕ) (x : List ℕ). item_at (drop k x) 0) next (append_assoc (words_of a) (flat_map words_of items) rest)
      ∙ ap (λ (k : ℕ). item_at (drop (k + width * i) (words_of a ++ more)) 0) (sym (L.size a))
      ∙ ap (λ (x : List ℕ). item_at x 0) (drop-append-add (words_of a) more (width * i))
      ∙ sym (at_drop more i)
      ∙ item_of_words d rest items i (le_of_suc-le-suc l)

  -- a table that starts with the words of some items holds them
  pub items_of_words : (d : A) (rest : List ℕ) (items : List A) → up_to (length items) (item_at (flat_map words_of items ++ rest)) ≡ items
  items_of_words d rest items =
      let read = item_at (flat_map words_of items ++ rest) in
      let n = length items in
      ext_get_or d (up_to n read) items (length_up_to n read)
      (λ i l. let h : i < n = omega (arith, l, length_up_to n read) in get_d_up_to n read d i h ∙ item_of_words d rest items i h)

  item_words : (t : List ℕ) (i : ℕ) → width * i + width ≤ length t → words_of (item_at t i) ≡ take width (drop (width * i) t)
  item_words t i l =
      ap words_of (at_drop t i)
      ∙ L.back (drop (width * i) t)
      ∙ up_to_take (drop (width * i) t) 0 width (omega (arith, l, length-drop (width * i) t))

  -- the words of the items that a table holds are those that it starts with
  pub words_of_items : (t : List ℕ) (n : ℕ) → width * n ≤ length t → flat_map words_of (up_to n (item_at t)) ≡ take (width * n) t
  unfolding flat_map up_to
  words_of_items t zero l = ap (λ (k : ℕ). take k t) (sym (mul-zero width))
  words_of_items t (suc n) l =
      let room : width * n + width ≤ length t = omega (arith, l, mul-suc width n) in
      words_append (up_to n (item_at t)) (item_at t n ∷ [])
      ∙ ap₂ ◌++◌ (words_of_items t n (omega (arith, room))) (append-nil (words_of (item_at t n)) ∙ item_words t n room)
      ∙ sym (take-add (width * n) width t)
      ∙ ap (λ (k : ℕ). take k t) (sym (mul-suc width n))

  -- a table that holds some items and is untouched past them: their words, then what it held before
  pub table_with : (t old : List ℕ) (n : ℕ) (items : List A) → width * n ≤ length t → up_to n (item_at t) ≡ items → drop (width * n) t ≡ drop (width * n) old
      → t ≡ flat_map words_of items ++ drop (length (flat_map words_of items)) old
  table_with t old n items l e d =
      let size : length (flat_map words_of items) ≡ width * n = length_words items ∙ ap (λ (k : ℕ). width * k) (sym (ap length e) ∙ length_up_to n (item_at t)) in
      sym (take-append-drop (width * n) t)
      ∙ ap₂ ◌++◌ (sym (words_of_items t n l) ∙ ap (flat_map words_of) e) (d ∙ ap (λ (k : ℕ). drop k old) (sym size))
