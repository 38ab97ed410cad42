-- `fir_taps::fir_round_taps` meets its contract. A report's two numbers are no not-a-numbers, so they have bits. Assumes nothing.
use mathlib.Core.Path.{◌≡◌, sym, subst}
use mathlib.Core.Bool.{Bool, false, not}
use lib.Dec.{T}
use lib.Ieee.{Float, is_nan}
use Rattle.tap_set.proofs.Claims.{set_claims}
use Rattle.fir_taps.proofs.fir_round_taps.Goals as goal

-- a number of a report is no not-a-number
number : (x : Float) → is_nan x ≡ false → T (not (is_nan x))
number x e = subst (λ (b : Bool). T (not b)) (sym e) tt

pub float_to_bits-divisor : goal.float_to_bits-divisor
float_to_bits-divisor c =
    let r = c.in-Ok.report in
    number r.divisor (set_claims.never_nan _ _ _ _ r _ (c.in-Ok.ensures)).0

pub float_to_bits-leftover : goal.float_to_bits-leftover
float_to_bits-leftover c =
    let r = c.in-Ok.report in
    number r.leftover (set_claims.never_nan _ _ _ _ r _ (c.in-Ok.ensures)).1
