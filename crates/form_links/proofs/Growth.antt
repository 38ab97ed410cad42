-- A table while its first n elements are copied, from the last to the first, and after that. Assumes nothing.
use mathlib.Core.Path.{◌≡◌, refl, ap, ap₂, sym, ◌∙◌, subst}
use mathlib.Core.Bool.{Bool, true, false, cond}
use mathlib.Core.List.{List, [], ◌∷◌, ◌++◌, map, append_assoc}
use Prim.Native.Nat.{ℕ, zero, suc, ◌+◌, ◌-◌, ◌≤◌, ◌<◌}
use native.Mathlib.Omega.{arith}
use lib.ListN.{length, take-append-drop, take, drop, set, get_or, length-append, length-take, length-drop, length-map}
use lib.Seq.{length-take-le, take_at, drop_at, drop-drop}
use Rattle.form_links.specs.Inner.{shifted, grown}

-- ---- the copies down to the element i are made
abbrev pub Part : List ℕ → ℕ → ℕ → ℕ → ℕ → List ℕ → Type 0
Part old at n offset i new = new ≡ take (at + i) old ++ (map (shifted offset) (drop i (take n old)) ++ drop (at + n) old)

next_copy : (j n : ℕ) (l : List ℕ) → j < n → j < length l → drop j (take n l) ≡ get_or l j 0 ∷ drop (suc j) (take n l)
next_copy j zero l h i = absurd (omega arith)
next_copy j (suc n) [] h i = absurd (omega arith)
next_copy zero (suc n) (x ∷ l) h i = refl
next_copy (suc j) (suc n) (x ∷ l) h i = next_copy j n l (omega arith) (omega arith)

read_front : (m j : ℕ) (l r : List ℕ) → j < m → j < length l → get_or (take m l ++ r) j 0 ≡ get_or l j 0
read_front zero j l r h i = absurd (omega arith)
read_front (suc m) j [] r h i = absurd (omega arith)
read_front (suc m) zero (x ∷ l) r h i = refl
read_front (suc m) (suc j) (x ∷ l) r h i = read_front m j l r (omega arith) (omega arith)

write_end : (p v : ℕ) (l r : List ℕ) → p < length l → set (take (suc p) l ++ r) p v ≡ take p l ++ (v ∷ r)
write_end p v [] r h = absurd (omega arith)
write_end zero v (x ∷ l) r h = refl
write_end (suc p) v (x ∷ l) r h = ap (λ (z : List ℕ). x ∷ z) (write_end p v l r (omega arith))

no_copy : (n : ℕ) (l : List ℕ) → drop n (take n l) ≡ []
no_copy zero l = refl
no_copy (suc n) [] = refl
no_copy (suc n) (x ∷ l) = no_copy n l

module _ (old : List ℕ) (at n offset : ℕ) where
  abbrev rest : ℕ → List ℕ
  rest i = map (shifted offset) (drop i (take n old)) ++ drop (at + n) old

  pub part_start : Part old at n offset n old
  part_start = sym (ap (λ (z : List ℕ). take (at + n) old ++ (map (shifted offset) z ++ drop (at + n) old)) (no_copy n old) ∙ take-append-drop (at + n) old)

  module _ (room : at + n ≤ length old) (new : List ℕ) where
    part_step : (i v : ℕ) → i < n → v ≡ shifted offset (get_or new i 0) → Part old at n offset (suc i) new → Part old at n offset i (set new (at + i) v)
    part_step i v l e w =
        ap₂ (λ (x : List ℕ) (y : ℕ). set x (at + i) y) seen
        (e ∙ ap (λ (x : List ℕ). shifted offset (get_or x i 0)) seen ∙ ap (shifted offset) (read_front (suc (at + i)) i old (rest (suc i)) (omega arith) (omega arith)))
        ∙ write_end (at + i) (shifted offset (get_or old i 0)) old (rest (suc i)) (omega arith)
        ∙ ap (λ (z : List ℕ). take (at + i) old ++ (map (shifted offset) z ++ drop (at + n) old)) (sym (next_copy i n old l (omega arith)))
      where
        one_more : (x y : ℕ) → x + suc y ≡ suc (x + y)
        one_more x y = omega arith

        seen : new ≡ take (suc (at + i)) old ++ rest (suc i)
        seen = w ∙ ap (λ (j : ℕ). take j old ++ rest (suc i)) (one_more at i)

    -- as the loop counts: i is the number of copies still to be made
    pub part_next : (i v : ℕ) → 0 < i → i ≤ n → v ≡ shifted offset (get_or new (i - 1) 0) → Part old at n offset i new
        → Part old at n offset (i - 1) (set new (at + (i - 1)) v)
    part_next i v z l e w = let q : i ≡ suc (i - 1) = omega arith in part_step (i - 1) v (omega arith) e (subst (λ (j : ℕ). Part old at n offset j new) q w)

    pub part_end : (i : ℕ) → i ≤ 0 → Part old at n offset i new → new ≡ grown old at n offset
    part_end i l w =
        let q : i ≡ 0 = omega arith in
        let flat : at + 0 ≡ at = omega arith in
        subst (λ (j : ℕ). Part old at n offset j new) q w ∙ ap (λ (j : ℕ). take j old ++ (map (shifted offset) (take n old) ++ drop (at + n) old)) flat

  -- ---- a table that has grown
  copies : List ℕ
  copies = map (shifted offset) (take n old)

  module _ (room : at + n ≤ length old) where
    copies_length : length (take at old ++ copies) ≡ at + n
    unfolding copies
    copies_length = omega (arith, length-append (take at old) copies, length-map (take n old) (shifted offset), length-take n old, length-take at old)

    split : grown old at n offset ≡ (take at old ++ copies) ++ drop (at + n) old
    unfolding copies
    split = sym (append_assoc (take at old) copies (drop (at + n) old))

    pub grown_front : take at (grown old at n offset) ≡ take at old
    grown_front = take_at (take at old) _ at (length-take-le at old (omega arith))

    pub grown_all : take (at + n) (grown old at n offset) ≡ take at old ++ map (shifted offset) (take n old)
    unfolding copies
    grown_all = ap (take (at + n)) split ∙ take_at (take at old ++ copies) (drop (at + n) old) (at + n) copies_length

    pub grown_rest : (count : ℕ) → at + n ≤ count → drop count (grown old at n offset) ≡ drop count old
    grown_rest count h =
        let q : (at + n) + (count - (at + n)) ≡ count = omega arith in
        ap (λ (i : ℕ). drop i (grown old at n offset)) (sym q)
        ∙ sym (drop-drop (count - (at + n)) (at + n) (grown old at n offset))
        ∙ ap (drop (count - (at + n))) (ap (drop (at + n)) split ∙ drop_at (take at old ++ copies) (drop (at + n) old) (at + n) copies_length)
        ∙ drop-drop (count - (at + n)) (at + n) old
        ∙ ap (λ (i : ℕ). drop i old) q

    grown_length : length (grown old at n offset) ≡ length old
    grown_length = omega (arith, ap length split, length-append (take at old ++ copies) (drop (at + n) old), copies_length, length-drop (at + n) old)

-- ---- a table that has grown, or has not
abbrev pub grown_if : Bool → List ℕ → ℕ → ℕ → ℕ → List ℕ
grown_if copied old at n offset = cond copied (grown old at n offset) old

module _ (old : List ℕ) (at n offset : ℕ) where
  pub if_front : (copied : Bool) → (copied ≡ true → at + n ≤ length old) → take at (grown_if copied old at n offset) ≡ take at old
  if_front true room = grown_front old at n offset (room refl)
  if_front false room = refl

  pub if_all : (copied : Bool) → copied ≡ true → at + n ≤ length old → take (at + n) (grown_if copied old at n offset) ≡ take at old ++ map (shifted offset) (take n old)
  if_all copied e room = ap (λ (b : Bool). take (at + n) (grown_if b old at n offset)) e ∙ grown_all old at n offset room

  pub if_rest : (copied : Bool) (count : ℕ) → count ≤ length old → (copied ≡ true → at + n ≤ count)
      → (drop count (grown_if copied old at n offset) ≡ drop count old) × (length (grown_if copied old at n offset) ≡ length old)
  if_rest true count whole room =
      let r = room refl in
      let i : at + n ≤ length old = omega arith in
      (grown_rest old at n offset i count r, grown_length old at n offset i)
  if_rest false count whole room = (refl, refl)
