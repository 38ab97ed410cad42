-- What is claimed of every text that has a meaning. Definitions only; proofs/Claims.antt proves it.
use Rattle.std.specs.Prelude.{◌≡◌, List, ℕ, ℤ}
use Rattle.verilog.specs.Reading.{reads}
use Rattle.verilog.specs.Syntax.{Module}
use Rattle.verilog.specs.Meaning.{meaning, Settled, evaluated}

pub record MeaningClaims : Type 0 where
  -- the values worked out in the order of the text settle it
  pub in_order : (text : List ℕ) (m : Module) → meaning text ≡ reads m → (x : ℤ) → Settled m x (evaluated m x)
