-- Document 01: "Weight is the number of nonzero digits."
use Rattle.std.specs.Prelude.{ℕ, ◌+◌, [], ◌∷◌}
use Rattle.signed_digit.specs.Digit.{nonzero}
use Rattle.signed_digit.specs.String.{DigitString}

abbrev pub weight : DigitString → ℕ
weight [] = 0
weight (d ∷ s) = nonzero d + weight s
