-- A whole number in decimal by its sign and its magnitude, and its most bytes. Assumes nothing.
use borrow.Author.Tests.{ltb-true}
use mathlib.Core.Path.{◌≡◌, refl, subst}
use mathlib.Core.Bool.{true, false}
use mathlib.Core.List.{◌∷◌}
use Prim.Native.Nat.{ℕ, suc, ◌^◌, ◌≤◌, ◌<◌}
use native.Mathlib.Omega.{arith}
use lib.Dec.{T}
use lib.IntN.{ℤ, pos, negsuc, nat_abs}
use lib.ListN.{length}
use lib.Signed.{lt_z}
use Rattle.text.specs.Numbers.{decimal, integer}
use Rattle.text.proofs.Decimals.{decimal_le}

pub negative : (z : ℤ) → lt_z z (pos 0) ≡ true → integer z ≡ 45 ∷ decimal (nat_abs z)
unfolding integer
negative (pos k) p = absurd (omega (arith, ltb-true k 0 p))
negative (negsuc k) p = refl

pub not_negative : (z : ℤ) → lt_z z (pos 0) ≡ false → integer z ≡ decimal (nat_abs z)
unfolding integer
not_negative (pos k) p = refl
not_negative (negsuc k) p = absurd (subst T p tt)

-- k digits and a sign
pub integer_le : (k : ℕ) (z : ℤ) → 1 ≤ k → nat_abs z < 10 ^ k → length (integer z) ≤ suc k
unfolding integer
integer_le k (pos n) h l = omega (arith, decimal_le k n h l)
integer_le k (negsuc n) h l = omega (arith, decimal_le k (suc n) h l)
