-- The length and the elements of a list given place by place. Assumes nothing.
use mathlib.Core.Path.{◌≡◌, refl, sym, ap, ◌∙◌}
use mathlib.Core.Bool.{Bool, true, false}
use mathlib.Core.List.{List, [], ◌∷◌, ◌++◌, map}
use Prim.Native.Nat.{ℕ, zero, suc, ◌<◌, ◌≤◌}
use native.Mathlib.Omega.{arith}
use borrow.Author.Tests.{ltb-true, ltb-false}
use lib.Dec.{ltb}
use lib.ListN.{length, get_or, take, length-append, length-map, get_or-append, get_or-map}
use lib.Seq.{get_or_at, take-suc, ext_get_or}
use Rattle.sequence.specs.UpTo.{up_to}

module _ {ℓ} {A : Type ℓ} where
  pub length_up_to : (n : ℕ) (f : ℕ → A) → length (up_to n f) ≡ n
  unfolding up_to
  length_up_to zero f = refl
  length_up_to (suc n) f = simp length-append (omega (arith, length_up_to n f))

  up_to_last : (n : ℕ) (f : ℕ → A) (d : A) (k : ℕ) → k < suc n → (k < n → get_or (up_to n f) k d ≡ f k) → (t : Bool) → ltb k n ≡ t
      → get_or (up_to n f ++ (f n ∷ [])) k d ≡ f k
  up_to_last n f d k h ih true e =
      let l : k < n = ltb-true k n e in
      get_or-append (up_to n f) (f n ∷ []) d k (omega (arith, length_up_to n f)) ∙ ih l
  up_to_last n f d k h ih false e =
      let q : n ≡ k = omega (arith, ltb-false k n e) in
      get_or_at (up_to n f) (f n) [] d k (length_up_to n f ∙ q) ∙ ap f q

  pub get_d_up_to : (n : ℕ) (f : ℕ → A) (d : A) (k : ℕ) → k < n → get_or (up_to n f) k d ≡ f k
  unfolding up_to
  get_d_up_to zero f d k h = absurd (omega arith)
  get_d_up_to (suc n) f d k h = up_to_last n f d k h (λ l. get_d_up_to n f d k l) (ltb k n) refl

  -- the front of a list, place by place
  pub up_to_take : (s : List A) (d : A) (n : ℕ) → n ≤ length s → up_to n (λ k. get_or s k d) ≡ take n s
  unfolding up_to
  up_to_take s d zero h = refl
  up_to_take s d (suc n) h = ap (λ r. r ++ (get_or s n d ∷ [])) (up_to_take s d n (omega arith)) ∙ sym (take-suc s n d h)

-- two lists that agree at each place
pub up_to_same : {A : Type 0} (f g : ℕ → A) (n : ℕ) → ((i : ℕ) → i < n → f i ≡ g i) → up_to n f ≡ up_to n g
unfolding up_to
up_to_same f g zero h = refl
up_to_same f g (suc n) h = rw (up_to_same f g n (λ i l. h i (omega arith)), h n (omega arith))

-- f of each element of a list, place by place
pub up_to_map : {A B : Type 0} (f : A → B) (s : List A) (d : A) → up_to (length s) (λ k. f (get_or s k d)) ≡ map f s
up_to_map f s d =
    let n : length (up_to (length s) (λ k. f (get_or s k d))) ≡ length s = length_up_to (length s) _ in
    ext_get_or (f d) (up_to (length s) (λ k. f (get_or s k d))) (map f s) (n ∙ sym (length-map s f))
    (λ k h. get_d_up_to (length s) (λ k. f (get_or s k d)) (f d) k (omega (arith, n)) ∙ sym (get_or-map f s k d))

-- f of each element of a list that is given place by place
pub map_up_to : {A B : Type 0} (f : A → B) (g : ℕ → A) (n : ℕ) → map f (up_to n g) ≡ up_to n (λ i. f (g i))
map_up_to f g n =
    let l : length (map f (up_to n g)) ≡ n = length-map (up_to n g) f ∙ length_up_to n g in
    ext_get_or (f (g 0)) (map f (up_to n g)) (up_to n (λ i. f (g i))) (l ∙ sym (length_up_to n (λ i. f (g i))))
    (λ k h.
    let m : k < n = omega (arith, l) in
    get_or-map f (up_to n g) k (g 0) ∙ ap f (get_d_up_to n g (g 0) k m) ∙ sym (get_d_up_to n (λ i. f (g i)) (f (g 0)) k m))
