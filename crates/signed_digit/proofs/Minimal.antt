-- Minimality by masks, which the other proofs work with, and that it does not depend on leading zeros or on the sign.
use mathlib.Core.Path.{◌≡◌, sym, ◌∙◌}
use mathlib.Core.Logic.{◌↔◌}
use Prim.Native.Nat.{ℕ, ◌+◌, ◌≤◌}
use native.Mathlib.Omega.{arith}
use lib.IntN.{ℤ}
use Rattle.signed_digit.specs.String.{DigitString}
use Rattle.signed_digit.specs.Value.{value}
use Rattle.signed_digit.specs.Weight.{weight}
use Rattle.signed_digit.specs.Same.{Same}
use Rattle.signed_digit.specs.Minimal.{Minimal}
use Rattle.signed_digit.specs.Masks.{plus_mask, minus_mask}
use Rattle.signed_digit.specs.CanonicalForm.{negated}
use Rattle.signed_digit.specs.Forms.{positive_part, negative_part}
use Rattle.signed_digit.proofs.Strings.{negated_is}
use Rattle.signed_digit.proofs.Same.{same_numbers}
use Rattle.signed_digit.proofs.Value.{value_eq, values_eq}

-- no string of the value of s is lighter than s
abbrev pub Lightest : DigitString → Type 0
Lightest s = (t : DigitString) → plus_mask t + minus_mask s ≡ minus_mask t + plus_mask s → weight s ≤ weight t

-- s has the value a - b
abbrev pub Worth : ℕ → ℕ → DigitString → Type 0
Worth a b s = plus_mask s + b ≡ minus_mask s + a

pub minimal_lightest : (n : ℤ) (s : DigitString) → Minimal n s ↔ (Worth (positive_part n) (negative_part n) s × Lightest s)
minimal_lightest n s = (
  λ m. ((value_eq s n).0 m.has_value, λ t e. m.least t ((values_eq t s).1 e ∙ m.has_value)),
  λ w. (let v = (value_eq s n).1 w.0 in record { has_value = v; least = λ t e. w.1 t ((values_eq t s).0 (e ∙ sym v)) }),
)

pub same_lightest : (s t : DigitString) → Same s t → Lightest s → Lightest t
same_lightest s t h m u e = let q = same_numbers s t h in omega (arith, m u (omega arith))

pub same_minimal : (n : ℤ) (s t : DigitString) → Same s t → Minimal n s → Minimal n t
same_minimal n s t h m =
    let q = same_numbers s t h in
    let v : value t ≡ value s = (values_eq t s).1 (omega arith) in
    record { has_value = v ∙ m.has_value; least = λ u e. omega (arith, m.least u e) }

pub negated_lightest : (s : DigitString) → Lightest s → Lightest (negated s)
negated_lightest s h t e =
    let a = negated_is s in
    let b = negated_is t in
    omega (arith, h (negated t) (omega arith))
