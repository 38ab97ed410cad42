-- A coefficient is a number that an i32 holds, and the computed bounds are the bounds. Assumes nothing.
use mathlib.Core.Path.{◌≡◌, refl}
use mathlib.Core.Bool.{Bool, true, false, ◌&&◌, false≢true}
use Prim.Native.Nat.{◌-◌, ◌≤◌, ◌^◌}
use native.Mathlib.Omega.{arith}
use lib.Dec.{leb→le, le→leb}
use lib.IntN.{ℤ, pos, negsuc, nat_abs}
use lib.Signed.{le_z, nat_abs-le}
use mir.Syntax.{w32}
use mir.Val.{SFits}
use Rattle.word.specs.Bounds.{least_coefficient, greatest_coefficient, Coefficient, within_bounds}
use Rattle.word.proofs.Booleans.{holds, is_true}

pub coefficient_i32 : (n : ℤ) → Coefficient n → SFits w32 n
coefficient_i32 (pos n) c = record { sfits = omega (arith, leb→le n (2 ^ 31 - 1) c.to_greatest.le) }
coefficient_i32 (negsuc n) c = record { sfits = omega (arith, leb→le n (2 ^ 31 - 1) c.from_least.le) }

pub i32_coefficient : (n : ℤ) → SFits w32 n → Coefficient n
i32_coefficient (pos n) h = record { from_least = record { le = tt }; to_greatest = record { le = le→leb n (2 ^ 31 - 1) (omega (arith, h.sfits)) } }
i32_coefficient (negsuc n) h = record { from_least = record { le = le→leb n (2 ^ 31 - 1) (omega (arith, h.sfits)) }; to_greatest = record { le = tt } }

pub coefficient_magnitude : (n : ℤ) → Coefficient n → nat_abs n ≤ 2 ^ 31
coefficient_magnitude n c = nat_abs-le n (coefficient_i32 n c).sfits

pub within_bounds_lem : (n : ℤ) → Coefficient n → within_bounds n ≡ true
within_bounds_lem n c = rw (is_true (le_z least_coefficient n) c.from_least.le, is_true (le_z n greatest_coefficient) c.to_greatest.le)

pub bounds_within : (n : ℤ) → within_bounds n ≡ true → Coefficient n
bounds_within n e = go (le_z least_coefficient n) (le_z n greatest_coefficient) refl refl e
  where
    go : (x y : Bool) → le_z least_coefficient n ≡ x → le_z n greatest_coefficient ≡ y → (x && y) ≡ true → Coefficient n
    go true true p q h = record { from_least = record { le = holds (le_z least_coefficient n) p }; to_greatest = record { le = holds (le_z n greatest_coefficient) q } }
    go true false p q h = absurd (false≢true h)
    go false y p q h = absurd (false≢true h)
