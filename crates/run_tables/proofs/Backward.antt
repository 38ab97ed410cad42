-- A table of offsets, filled from its end. Assumes nothing.
use mathlib.Core.Path.{◌≡◌, sym, ap, ap₂, ◌∙◌}
use mathlib.Core.List.{List}
use Prim.Native.Nat.{ℕ, ◌+◌, ◌<◌, ◌≤◌}
use native.Mathlib.Omega.{arith}
use lib.ListN.{length, get_or, replicate, length-replicate, get_or-replicate}
use Rattle.run_products.specs.Inner.{offset_below_of}
use Rattle.run_tables.specs.Inner.{StoredZeroFrom}

-- from place j on, v holds the offsets
pub record From (c v : List ℕ) (j : ℕ) : Type 0 where
  pub size : length v ≡ 265
  pub is : (i : ℕ) → j ≤ i → i < 264 → get_or v i 0 ≡ offset_below_of (get_or v (i + 1) 0) (get_or c i 0)

-- past the places in use the offsets are 0
pub from_end : (w : ℕ) (c v : List ℕ) → v ≡ replicate 265 0 → StoredZeroFrom w c → From c v (w + 4)
from_end w c v e q = record { size = ap length e ∙ length-replicate {A = ℕ} 265 0; is = is }
  where
    zero_at : (i : ℕ) → i < 265 → get_or v i 0 ≡ 0
    zero_at i l = ap (λ t. get_or t i 0) e ∙ get_or-replicate 265 i 0 0 l

    is : (i : ℕ) → w + 4 ≤ i → i < 264 → get_or v i 0 ≡ offset_below_of (get_or v (i + 1) 0) (get_or c i 0)
    is i a b = zero_at i (omega arith) ∙ sym (ap₂ offset_below_of (zero_at (i + 1) (omega arith)) (q i a b))
