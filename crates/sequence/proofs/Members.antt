-- A member of a list, by its number, and the elements of a list that repeats one. Assumes nothing.
use mathlib.Core.Path.{◌≡◌, refl}
use mathlib.Core.List.{List, [], ◌∷◌, Memᴰ}
use Prim.Native.Nat.{ℕ, zero, suc, ◌<◌}
use native.Mathlib.Nat.{le_of_suc-le-suc, not-suc-le-zero}
use lib.ListN.{length, get_or, replicate}

pub member : {A : Type 0} (a : A) (l : List A) (k : ℕ) → k < length l → Memᴰ (get_or l k a) l
member a [] k h = absurd (not-suc-le-zero h)
member a (x ∷ l) zero h = Memᴰ.head refl
member a (x ∷ l) (suc k) h = Memᴰ.tail (member a l k (le_of_suc-le-suc h))

pub same_at : {A : Type 0} (n k : ℕ) (a : A) → get_or (replicate n a) k a ≡ a
same_at zero k a = refl
same_at (suc n) zero a = refl
same_at (suc n) (suc k) a = same_at n k a
