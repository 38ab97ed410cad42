-- What fits where. Document 01, "The product": "samples 16-bit signed"; "256 registers r, each 64 bits". Definitions only.
use Rattle.std.specs.Prelude.{List, ℕ, ◌<◌, ◌^◌, ℤ, pos, get_or}
use Rattle.std.specs.Int.{Width}
use Rattle.std.proofs.Common.{SFits}
use Rattle.run_convolution.specs.Sums.{held}

-- every number of the list is a signed one of that width
abbrev pub Within : Width → List ℤ → Type 0
Within w xs = (k : ℕ) → SFits w (get_or xs k (pos 0))

-- every register holds 64 bits
abbrev pub Words : List ℕ → Type 0
Words r = (k : ℕ) → held r k < 2 ^ 64
