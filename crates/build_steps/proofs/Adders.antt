-- The adders of a filter whose network was built: `built_adders`, `most_adders`. Assumes nothing.
use mathlib.Core.Path.{◌≡◌, sym, ap}
use mathlib.Core.List.{List}
use Prim.Native.Nat.{ℕ, ◌+◌, ◌≤◌}
use native.Mathlib.Omega.{arith}
use lib.IntN.{ℤ}
use Rattle.sequence.proofs.Count.{count_few}
use Rattle.network.specs.Adders.{row_adders, is_nonzero, joining_adders_of, adders}
use Rattle.build_steps.specs.TapRows.{built}
use Rattle.build_steps.specs.CanBuild.{CanBuild}
use Rattle.build_steps.proofs.Passes.{built_few, built_passed}

module _ (cs : List ℤ) (ks : List ℕ) (c : CanBuild cs ks) where
  pub built_adders : adders (built cs ks) ≡ row_adders (built cs ks) + joining_adders_of cs
  built_adders = ap (λ (h : List ℤ). row_adders (built cs ks) + joining_adders_of h) (sym (built_passed cs ks c).result)

  pub most_adders : adders (built cs ks) ≤ 3840 + 255
  most_adders = omega (arith, built_adders, built_few cs ks c, count_few is_nonzero cs, c.few)
