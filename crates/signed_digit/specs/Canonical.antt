-- Document 01: "The CSD form has no two adjacent nonzero digits (source 000, "property M")."
use Rattle.std.specs.Prelude.{ℕ, suc, ◌+◌, ◌≤◌}
use Rattle.signed_digit.specs.Digit.{nonzero}
use Rattle.signed_digit.specs.String.{DigitString, digit_at}

abbrev pub Canonical : DigitString → Type 0
Canonical s = (place : ℕ) → nonzero (digit_at s place) + nonzero (digit_at s (suc place)) ≤ 1
