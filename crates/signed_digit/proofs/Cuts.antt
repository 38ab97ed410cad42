-- Where there are no strings of p places, weight k and value a - b: the weight is too small, or the value out of reach.
use mathlib.Core.Path.{◌≡◌, refl, ap}
use mathlib.Core.List.{List, [], ◌∷◌, Memᴰ}
use Prim.Native.Nat.{ℕ, ◌+◌, ◌≤◌, ◌<◌, ◌^◌}
use native.Mathlib.Omega.{arith}
use Rattle.signed_digit.specs.String.{DigitString}
use Rattle.signed_digit.specs.Weight.{weight}
use Rattle.signed_digit.specs.Canonical.{Canonical}
use Rattle.signed_digit.specs.Forms.{forms}
use Rattle.signed_digit.proofs.Strings.{small}
use Rattle.signed_digit.proofs.Minimal.{Worth}
use Rattle.signed_digit.proofs.Canonical.{canonical_lightest}
use Rattle.signed_digit.proofs.Forms.{sound}

pub empty : (l : List DigitString) → ((s : DigitString) → Memᴰ s l → ⊥) → l ≡ []
empty [] h = refl
empty (s ∷ l) h = absurd (h s (Memᴰ.head refl))

module _ (p k a b : ℕ) where
  pub cut_heavy : (c : DigitString) → Canonical c → Worth a b c → k < weight c → forms p k a b ≡ []
  cut_heavy c h e l = empty (forms p k a b) (λ s m. (let f = sound p k a b s m in omega (arith, canonical_lightest c h s (omega arith))))

  reach : (s : DigitString) → Memᴰ s (forms p k a b) → (a < b + 2 ^ p) × (b < a + 2 ^ p)
  reach s m = let f = sound p k a b s m in let l = ap (λ (n : ℕ). 2 ^ n) f.places in (omega (arith, small s), omega (arith, small s))

  pub cut_above : b + 2 ^ p ≤ a → forms p k a b ≡ []
  cut_above l = empty (forms p k a b) (λ s m. omega (arith, reach s m))

  pub cut_below : a + 2 ^ p ≤ b → forms p k a b ≡ []
  cut_below l = empty (forms p k a b) (λ s m. omega (arith, reach s m))
