-- The rounded-up base-2 logarithm: enough, least, and known between two powers. Assumes nothing.
use mathlib.Core.Path.{◌≡◌}
use mathlib.Core.Bool.{Bool, true, false, not}
use Prim.Native.Nat.{ℕ, zero, suc, ◌+◌, ◌≤◌, ◌<◌, ◌^◌}
use native.Mathlib.Omega.{arith}
use lib.Dec.{T, leb, leb→le, nleb→lt}
use Rattle.word.proofs.LowZeros.{power_above, exponent_below}
use Rattle.least_weight.specs.Logarithm.{or_next, least_from, log2up}

from_enough : (k w d : ℕ) → w ≤ d + k → w ≤ 2 ^ least_from k w d
unfolding least_from
from_enough zero w d h = omega (arith, power_above d)
from_enough (suc k) w d h = go (leb w (2 ^ d)) (leb→le w (2 ^ d)) (from_enough k w (suc d) (omega arith))
  where
    go : (b : Bool) → (T b → w ≤ 2 ^ d) → w ≤ 2 ^ least_from k w (suc d) → w ≤ 2 ^ (or_next b d (least_from k w))
    go true f ih = f tt
    go false f ih = ih

from_least : (k w d e : ℕ) → d ≤ e → w ≤ 2 ^ e → least_from k w d ≤ e
unfolding least_from
from_least zero w d e l h = l
from_least (suc k) w d e l h = go (leb w (2 ^ d)) (nleb→lt w (2 ^ d)) (λ m. from_least k w (suc d) e m h)
  where
    go : (b : Bool) → (T (not b) → 2 ^ d < w) → (d < e → least_from k w (suc d) ≤ e) → or_next b d (least_from k w) ≤ e
    go true f ih = l
    go false f ih = ih (exponent_below d e (omega (arith, f tt)))

pub log_enough : (w : ℕ) → w ≤ 2 ^ log2up w
unfolding log2up
log_enough w = from_enough w w 0 (omega arith)

pub log_least : (w d : ℕ) → w ≤ 2 ^ d → log2up w ≤ d
unfolding log2up
log_least w d h = from_least w w 0 d (omega arith) h

pub log_between : (w d : ℕ) → 2 ^ d < w → w ≤ 2 ^ suc d → log2up w ≡ suc d
log_between w d l h = omega (arith, log_least w (suc d) h, exponent_below d (log2up w) (omega (arith, log_enough w)))
