-- The answer of a listing, by the lengths of its tables.
use mathlib.Core.Path.{◌≡◌, refl, ap, ap₂, ◌∙◌}
use mathlib.Core.Bool.{Bool, true, false, ◌||◌}
use mathlib.Core.Logic.{◌⊎◌, inl, inr}
use Prim.Native.Nat.{ℕ, ◌≤◌, ◌<◌}
use borrow.Author.Tests.{lt-ltb, le-ltb}
use lib.Dec.{ltb}
use lib.IntN.{ℤ}
use lib.ListN.{length}
use Rattle.refusal.specs.Answer.{given, refused}
use Rattle.refusal.proofs.Checks.{check_applies, check_passes}
use Rattle.signed_digit.specs.Forms.{listing}
use Rattle.signed_digit.specs.Listed.{form_count_of}

or-true : (b : Bool) → b || true ≡ true
or-true true = refl
or-true false = refl

module _ (n : ℤ) (p m : ℕ) where
  short : ltb p 1597 || ltb m 1597 ≡ true → form_count_of n p m ≡ refused 3 0
  unfolding form_count_of
  short h = check_applies (ltb p 1597 || ltb m 1597) 3 (given (length (listing 32 n))) h

  pub plus_short : p < 1597 → form_count_of n p m ≡ refused 3 0
  plus_short h = short (ap (λ (b : Bool). b || ltb m 1597) (lt-ltb p 1597 h))

  pub minus_short : 1597 ≤ p → m < 1597 → form_count_of n p m ≡ refused 3 0
  minus_short h k = short (ap₂ (λ (a b : Bool). a || b) (le-ltb p 1597 h) (lt-ltb m 1597 k))

  pub one_short : (p < 1597) ⊎ (m < 1597) → form_count_of n p m ≡ refused 3 0
  one_short (inl h) = plus_short h
  one_short (inr h) = short (ap (λ (b : Bool). ltb p 1597 || b) (lt-ltb m 1597 h) ∙ or-true (ltb p 1597))

  pub long_enough : 1597 ≤ p → 1597 ≤ m → form_count_of n p m ≡ given (length (listing 32 n))
  unfolding form_count_of
  long_enough h k = check_passes (ltb p 1597 || ltb m 1597) 3 (given (length (listing 32 n))) (ap₂ (λ (a b : Bool). a || b) (le-ltb p 1597 h) (le-ltb m 1597 k))
