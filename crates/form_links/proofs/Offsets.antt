-- The fronts of a table that hold the same lists of masks at different offsets, modulo 2^32, and what one growth makes of them. Plain lists
-- of numbers, and no digits yet. Assumes nothing.
use mathlib.Core.Path.{◌≡◌, refl, ap, ap₂, sym, ◌∙◌}
use mathlib.Core.List.{List, [], ◌∷◌, ◌++◌, map, map-append}
use mathlib.Core.Bool.{Bool, true}
use mathlib.Core.Logic.{◌⊎◌, ⊎_elim}
use Prim.Native.Nat.{ℕ, ◌+◌, ◌*◌, ◌-◌, ◌≤◌, ◌/◌, ◌%◌, ◌^◌}
use native.Mathlib.Omega.{arith}
use lib.ListN.{length, take, length-append, length-map}
use Rattle.form_links.specs.Inner.{shifted}
use Rattle.form_links.proofs.Growth.{grown_if, if_front, if_all}

abbrev pub plus : ℕ → ℕ → ℕ
plus c x = x + c

-- ---- offsets
each : (f g : ℕ → ℕ) → ((x : ℕ) → f x ≡ g x) → (l : List ℕ) → map f l ≡ map g l
each f g h [] = refl
each f g h (x ∷ l) = ap₂ (λ (y : ℕ) (r : List ℕ). y ∷ r) (h x) (each f g h l)

twice : (f g : ℕ → ℕ) (l : List ℕ) → map f (map g l) ≡ map (λ (x : ℕ). f (g x)) l
twice f g [] = refl
twice f g (x ∷ l) = ap (λ (r : List ℕ). f (g x) ∷ r) (twice f g l)

-- an offset e and then its opposite K
there_and_back : (x κ e K : ℕ) → e ≤ 2 ^ 32 → (K + e) % 2 ^ 32 ≡ 0 → ((x + (κ + e)) % 2 ^ 32 + K) % 2 ^ 32 ≡ (x + κ) % 2 ^ 32
there_and_back x κ e K h z = go (x + κ) e K ((x + κ + e) / 2 ^ 32) ((K + e) / 2 ^ 32) (omega arith) (omega arith) (omega arith)
  where
    last : (s i j r : ℕ) → 2 ^ 32 * i + r ≡ s + 2 ^ 32 * j → r % 2 ^ 32 ≡ s % 2 ^ 32
    last s i j r q = omega arith

    go : (s e K i j : ℕ) → 2 ^ 32 * i ≤ s + e → K + e ≡ 2 ^ 32 * j → ((x + (κ + e)) % 2 ^ 32 ≡ (s + e) - 2 ^ 32 * i) → ((x + (κ + e)) % 2 ^ 32 + K) % 2 ^ 32 ≡ s % 2 ^ 32
    go s e K i j a b c = last s i j ((x + (κ + e)) % 2 ^ 32 + K) (omega arith)

module _ (κ b : ℕ) (l : List ℕ) (h : b ≤ 2 ^ 32) where
  -- b more in each, and b less in the offset
  stay : map (shifted κ) l ≡ map (shifted (κ + (2 ^ 32 - b))) (map (plus b) l)
  stay = each (shifted κ) (λ (x : ℕ). shifted (κ + (2 ^ 32 - b)) (plus b x)) (λ x. omega arith) l ∙ sym (twice (shifted (κ + (2 ^ 32 - b))) (plus b) l)

  around : map (shifted κ) l ≡ map (shifted (κ + (2 ^ 32 - b) + b)) l
  around = each (shifted κ) (shifted (κ + (2 ^ 32 - b) + b)) (λ x. omega arith) l

move_other : (κ e K : ℕ) (l : List ℕ) → e ≤ 2 ^ 32 → (K + e) % 2 ^ 32 ≡ 0 → map (shifted K) (map (shifted (κ + e)) l) ≡ map (shifted κ) l
move_other κ e K l h z = twice (shifted K) (shifted (κ + e)) l ∙ each (λ (x : ℕ). shifted K (shifted (κ + e) x)) (shifted κ) (λ x. there_and_back x κ e K h z) l

move_own : (κ e b K : ℕ) (l : List ℕ) → b ≡ 4 * e → b ≤ 2 ^ 32 → (K + e) % 2 ^ 32 ≡ 0
    → map (shifted K) (map (shifted (κ + (2 ^ 32 - e))) l) ≡ map (shifted (κ + (2 ^ 32 - b))) (map (plus (b / 2)) l)
move_own κ e b K l q h z =
    ap (λ (k : ℕ). map (shifted K) (map (shifted k) l)) same
    ∙ move_other (κ + (2 ^ 32 - 2 * e)) e K l (omega arith) z
    ∙ each (shifted (κ + (2 ^ 32 - 2 * e))) (λ (x : ℕ). shifted (κ + (2 ^ 32 - b)) (plus (b / 2) x)) (λ x. ap (λ (n : ℕ). n % 2 ^ 32) (flat x)) l
    ∙ sym (twice (shifted (κ + (2 ^ 32 - b))) (plus (b / 2)) l)
  where
    same : κ + (2 ^ 32 - e) ≡ κ + (2 ^ 32 - 2 * e) + e
    same = omega arith

    flat : (x : ℕ) → x + (κ + (2 ^ 32 - 2 * e)) ≡ x + b / 2 + (κ + (2 ^ 32 - b))
    flat x = omega arith

-- ---- the fronts of a table
-- One list stands there at the offset κ, and where they are needed two others at κ - e and κ + e.
pub record Fronts (needed : Type 0) (e κ : ℕ) (t flat own other : List ℕ) : Type 0 where
  pub is_flat : take (length flat) t ≡ map (shifted κ) flat
  pub is_own : needed → take (length own) t ≡ map (shifted (κ + (2 ^ 32 - e))) own
  pub is_other : needed → take (length other) t ≡ map (shifted (κ + e)) other

append-nil : (l : List ℕ) → l ++ [] ≡ l
append-nil [] = refl
append-nil (s ∷ l) = ap (λ (x : List ℕ). s ∷ x) (append-nil l)

module _ (needed : Type 0) (copied : Bool) (e κ b K : ℕ) (t A S O : List ℕ) (F : Fronts needed e κ t A S O) (le : e ≤ 2 ^ 32) (lb : b ≤ 2 ^ 32)
    (four : 1 ≤ length S + length O → b ≡ 4 * e) (back : (K + e) % 2 ^ 32 ≡ 0) (one_of_lem : (length S ≡ 0) ⊎ (length O ≡ 0))
    (room : copied ≡ true → length A + (length S + length O) ≤ length t) where
  -- the table afterwards
  abbrev pub after : List ℕ
  after = grown_if copied t (length A) (length S + length O) K

  -- a list that is not empty was needed, and it was copied
  abbrev pub Copied : List ℕ → Type 0
  Copied X = 1 ≤ length X → (copied ≡ true) × needed

  front : take (length A) after ≡ map (shifted κ) A
  front = if_front t (length A) (length S + length O) K copied room ∙ F.is_flat

  all : (X : List ℕ) → length S + length O ≡ length X → copied ≡ true → take (length A + length X) after ≡ map (shifted κ) A ++ map (shifted K) (take (length X) t)
  all X q c =
      ap (λ (n : ℕ). take (length A + n) after) (sym q)
      ∙ if_all t (length A) (length S + length O) K copied c (room c)
      ∙ ap₂ (λ (u : List ℕ) (n : ℕ). u ++ map (shifted K) (take n t)) F.is_flat q

  -- nothing but the first list
  alone : (X : List ℕ) → length X ≡ 0 → take (length A + length X) after ≡ map (shifted κ) A
  alone X z = let q : length A + length X ≡ length A = omega arith in ap (λ (n : ℕ). take n after) q ∙ front

  no_other : 1 ≤ length S → length O ≡ 0
  no_other h = ⊎_elim (λ z. absurd (omega arith)) (λ z. z) one_of_lem

  no_own : 1 ≤ length O → length S ≡ 0
  no_own h = ⊎_elim (λ z. z) (λ z. absurd (omega arith)) one_of_lem

  new_own : Copied S → take (length (map (plus b) A ++ map (plus (b / 2)) S)) after ≡ map (shifted (κ + (2 ^ 32 - b))) (map (plus b) A ++ map (plus (b / 2)) S)
  new_own h = ap (λ (n : ℕ). take n after) long ∙ go S refl ∙ sym (map-append (shifted κ') (map (plus b) A) (map (plus (b / 2)) S))
    where
      κ' : ℕ
      κ' = κ + (2 ^ 32 - b)

      long : length (map (plus b) A ++ map (plus (b / 2)) S) ≡ length A + length S
      long = omega (arith, length-append (map (plus b) A) (map (plus (b / 2)) S), length-map A (plus b), length-map S (plus (b / 2)))

      go : (s : List ℕ) → s ≡ S → take (length A + length S) after ≡ map (shifted κ') (map (plus b) A) ++ map (shifted κ') (map (plus (b / 2)) S)
      go [] q =
          alone S (sym (ap length q))
          ∙ stay κ b A lb
          ∙ sym (append-nil (map (shifted κ') (map (plus b) A)))
          ∙ ap (λ (s : List ℕ). map (shifted κ') (map (plus b) A) ++ map (shifted κ') (map (plus (b / 2)) s)) q
      go (y ∷ s) q =
          let i : 1 ≤ length S = omega (arith, ap length q) in
          let c = h i in
          let z = no_other i in
          all S (omega arith) c.0
          ∙ ap₂ (λ (u v : List ℕ). u ++ v) (stay κ b A lb) (ap (map (shifted K)) (F.is_own c.1) ∙ move_own κ e b K S (four (omega arith)) lb back)

  new_other : Copied O → take (length (A ++ O)) after ≡ map (shifted κ) (A ++ O)
  new_other h = ap (λ (n : ℕ). take n after) (length-append A O) ∙ go O refl ∙ sym (map-append (shifted κ) A O)
    where
      go : (s : List ℕ) → s ≡ O → take (length A + length O) after ≡ map (shifted κ) A ++ map (shifted κ) O
      go [] q = alone O (sym (ap length q)) ∙ sym (append-nil (map (shifted κ) A)) ∙ ap (λ (s : List ℕ). map (shifted κ) A ++ map (shifted κ) s) q
      go (y ∷ s) q =
          let i : 1 ≤ length O = omega (arith, ap length q) in
          let c = h i in
          let z = no_own i in
          all O (omega arith) c.0 ∙ ap (λ (v : List ℕ). map (shifted κ) A ++ v) (ap (map (shifted K)) (F.is_other c.1) ∙ move_other κ e K O le back)

  -- later says whether the lists beside are needed after this
  pub own_step : (later : Type 0) → Copied S → (later → Copied O) → Fronts later b (κ + (2 ^ 32 - b)) after (map (plus b) A ++ map (plus (b / 2)) S) [] (A ++ O)
  own_step later h k = record { is_flat = new_own h; is_own = λ i. refl; is_other = λ i. new_other (k i) ∙ around κ b (A ++ O) lb }

  pub other_step : (later : Type 0) → Copied O → (later → Copied S) → Fronts later b κ after (A ++ O) (map (plus b) A ++ map (plus (b / 2)) S) []
  other_step later h k = record { is_flat = new_other h; is_own = λ i. new_own (k i); is_other = λ i. refl }
