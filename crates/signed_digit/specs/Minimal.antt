-- Document 01, of the forms of N with the least weight: "no string of that value, of any length, has fewer nonzero digits."
use Rattle.std.specs.Prelude.{◌≤◌, ◌≡◌, ℤ}
use Rattle.signed_digit.specs.String.{DigitString}
use Rattle.signed_digit.specs.Value.{value}
use Rattle.signed_digit.specs.Weight.{weight}

-- s is a minimal string of n
pub record Minimal (n : ℤ) (s : DigitString) : Type 0 where
  pub has_value : value s ≡ n
  pub least : (t : DigitString) → value t ≡ n → weight s ≤ weight t
