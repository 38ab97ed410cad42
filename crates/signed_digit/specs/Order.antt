-- Document 01: "Of two forms the earlier is the one that is nonzero at the highest place where they differ."
use Rattle.std.specs.Prelude.{ℕ, ◌<◌, ◌≡◌}
use Rattle.signed_digit.specs.Digit.{nought, nonzero}
use Rattle.signed_digit.specs.String.{DigitString, digit_at}

-- The later one is 0 at that place: strings of one value never hold 1 and -1 there (`never_opposite`).
pub record Earlier (s t : DigitString) : Type 0 where
  pub place : ℕ
  pub nonzero_here : nonzero (digit_at s place) ≡ 1
  pub zero_there : digit_at t place ≡ nought
  pub same_above : (i : ℕ) → place < i → digit_at s i ≡ digit_at t i
