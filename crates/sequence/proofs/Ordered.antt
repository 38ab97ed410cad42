-- A list in order is fixed by its members. Assumes nothing.
use mathlib.Core.Path.{◌≡◌, refl, sym, ap₂, ◌∙◌}
use mathlib.Core.List.Memᴰ
use mathlib.Core.List.{List, [], ◌∷◌, Memᴰ}
use mathlib.Core.Logic.{◌⊎◌, inl, inr}

-- in order: each member comes before every one after it, and no two come before each other
module _ {A : Type 0} (Before : A → A → Type 0) (one_way : (x y : A) → Before x y → Before y x → ⊥)
    (InOrder : List A → Type 0) (rest : (x : A) (l : List A) → InOrder (x ∷ l) → InOrder l)
    (to_later : (x : A) (l : List A) → InOrder (x ∷ l) → (y : A) → Memᴰ y l → Before x y) where
  -- a member past the head is not the other list's head
  past : (x y z : A) (l m : List A) → x ≡ y → InOrder (x ∷ l) → Memᴰ z l → (z ≡ y) ⊎ Memᴰ z m → Memᴰ z m
  past x y z l m e o n (inr k) = k
  past x y z l m e o n (inl q) = let b = to_later x l o x (Memᴰ.cast (e ∙ sym q) n) in absurd (one_way x x b b)

  pub in_order_only : (l m : List A) → InOrder l → InOrder m
      → ((x : A) → Memᴰ x l → Memᴰ x m) → ((x : A) → Memᴰ x m → Memᴰ x l) → l ≡ m
  in_order_only [] [] o u f g = refl
  in_order_only [] (y ∷ m) o u f g = absurd (Memᴰ.not-nil (g y (Memᴰ.head refl)))
  in_order_only (x ∷ l) [] o u f g = absurd (Memᴰ.not-nil (f x (Memᴰ.head refl)))
  in_order_only (x ∷ l) (y ∷ m) o u f g =
      ap₂ (λ (z : A) (r : List A). z ∷ r) heads
      (in_order_only l m (rest x l o) (rest y m u)
      (λ z n. past x y z l m heads o n (Memᴰ.cases_cons (f z (Memᴰ.tail n))))
      (λ z n. past y x z m l (sym heads) u n (Memᴰ.cases_cons (g z (Memᴰ.tail n)))))
    where
      pick : (x ≡ y) ⊎ Memᴰ x m → (y ≡ x) ⊎ Memᴰ y l → x ≡ y
      pick (inl e) b = e
      pick (inr n) (inl e) = sym e
      pick (inr n) (inr k) = absurd (one_way x y (to_later x l o y k) (to_later y m u x n))

      heads : x ≡ y
      heads = pick (Memᴰ.cases_cons (f x (Memᴰ.head refl))) (Memᴰ.cases_cons (g y (Memᴰ.head refl)))
