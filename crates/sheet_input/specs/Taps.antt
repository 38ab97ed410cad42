-- The taps on standard input. Document 01, "The sheet". Definitions only.
use Rattle.std.specs.Prelude.{List, [], ◌∷◌, ℕ, ◌+◌, ◌*◌, ◌/◌, Float, length, take, drop}
use Rattle.std.specs.Float.{binary64}
use Rattle.std.specs.Float.Ieee.{of_bits}
use Rattle.sequence.specs.UpTo.{up_to}

-- bytes as a number, "low byte first"
unfoldable pub low_first : List ℕ → ℕ
low_first [] = 0
low_first (b ∷ bs) = b + 256 * low_first bs

-- tap i: "8 bytes a tap", and "A tap is an IEEE 754 binary64 number"
unfoldable pub tap_at_of : List ℕ → ℕ → Float
tap_at_of input i = of_bits binary64 (low_first (take 8 (drop (8 * i) input)))

abbrev pub whole_taps : List ℕ → ℕ
whole_taps input = length input / 8

-- the whole taps of an input
abbrev pub taps_of : List ℕ → List Float
taps_of input = up_to (whole_taps input) (tap_at_of input)
