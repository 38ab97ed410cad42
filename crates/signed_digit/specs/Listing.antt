-- Document 01: "The listing of N holds each form of N's value with the least weight, once". Its order is that of `Earlier`.
use Rattle.std.specs.Prelude.{ℕ, ◌≡◌, ℤ, length}
use mathlib.Core.List.{List, Memᴰ, Pairwise}
use Rattle.signed_digit.specs.String.{DigitString}
use Rattle.signed_digit.specs.Same.{Same}
use Rattle.signed_digit.specs.Minimal.{Minimal}
use Rattle.signed_digit.specs.Order.{Earlier}

-- each member is earlier than every one after it
abbrev pub Ordered : List DigitString → Type 0
Ordered l = Pairwise Earlier l

-- no two members are the same, leading zeros aside
abbrev pub Once : List DigitString → Type 0
Once l = Pairwise (λ s t. Same s t → ⊥) l

-- s stands in the list, leading zeros aside
abbrev pub StandsIn : DigitString → List DigitString → Type 0
StandsIn s l = (f : DigitString) × Memᴰ f l × Same f s

-- l is the listing of n over p places: each minimal string of n with p places, no other, once, in order
pub record IsListing (p : ℕ) (n : ℤ) (l : List DigitString) : Type 0 where
  pub holds : (s : DigitString) → length s ≡ p → Minimal n s → Memᴰ s l
  pub only : (s : DigitString) → Memᴰ s l → (length s ≡ p) × Minimal n s
  pub once : Once l
  pub ordered : Ordered l
