-- Document 01: "Its value is the sum of digit × 2^place, a whole number."
use Rattle.std.specs.Prelude.{ℕ, ◌^◌, ℤ, pos, ◌*ℤ◌, length}
use Rattle.sequence.specs.Sum.{sum_below}
use Rattle.signed_digit.specs.Digit.{digit_value}
use Rattle.signed_digit.specs.String.{DigitString, digit_at}

-- digit × 2^place
abbrev pub term : DigitString → ℕ → ℤ
term s place = digit_value (digit_at s place) *ℤ pos (2 ^ place)

unfoldable pub value : DigitString → ℤ
value s = sum_below (length s) (term s)
