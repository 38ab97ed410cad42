-- What the checks before building say. For the contract of an inner function. Definitions only.
use Rattle.std.specs.Prelude.{◌≡◌, List, ℕ, ℤ}
use Rattle.refusal.specs.declared.Refusal.{Refusal}
use Rattle.refusal.specs.Answer.{given, turned_down_of}
use Rattle.build_steps.specs.TapRows.{built}
use Rattle.build_steps.specs.Answer.{build_answer}
use Rattle.build_steps.specs.CanBuild.{CanBuildInto}

-- every check is passed
pub record CanBeBuilt (coefficients : List ℤ) (choices rows taps : List ℕ) : Type 0 where
  pub answer : build_answer coefficients choices rows taps ≡ given (built coefficients choices)
  pub can_build : CanBuildInto coefficients choices rows taps

-- a check turns the input down
abbrev pub IsRefused : List ℤ → List ℕ → List ℕ → List ℕ → Refusal → Type 0
IsRefused coefficients choices rows taps r = build_answer coefficients choices rows taps ≡ turned_down_of r
