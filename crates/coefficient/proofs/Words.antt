-- What the 32 bits of a coefficient tell of its parts. Assumes nothing.
use mathlib.Core.Path.{◌≡◌, refl, sym, ap, ◌∙◌}
use Prim.Native.Nat.{ℕ, ◌/◌, ◌^◌, ◌<◌}
use native.Mathlib.Omega.{arith}
use borrow.Author.Tests.{le-ltb}
use lib.Count.{count_trailing_zeros}
use lib.IntN.{ℤ, pos, negsuc, nat_abs}
use lib.Signed.{nat_abs-le, lt_z}
use mir.Syntax.{w32}
use mir.Val.{SFits, of_z, to_z}
use mir.ValLaws.{to_z-of_z}
use Rattle.word.proofs.Zero.{nonzero_word}
use Rattle.signed_digit.specs.Reduction.{Reduction}
use Rattle.signed_digit.proofs.Reduction.{reduction}
use Rattle.coefficient.specs.Parts.{parts, sign_of, shift_of, odd_part_of, parts_of, sign_if}
use Rattle.coefficient.proofs.PartsOf.{zeros_are, shift_is, reduction_bounds}

below_zero : (n : ℤ) → sign_if (lt_z n (pos 0)) ≡ sign_of n
below_zero (pos m) = ap sign_if (le-ltb m 0 (omega arith))
below_zero (negsuc m) = refl

module _ (n : ℤ) (f : SFits w32 n) (h : of_z w32 n ≡ 0 → ⊥) where
  reduced : Reduction n
  reduced = reduction n (λ e. h (ap (of_z w32) e))

  shift_32 : shift_of n < 32
  shift_32 = omega (arith, shift_is n reduced, reduction_bounds n reduced (nat_abs-le n f.sfits))

  -- 32 digits are enough
  zeros_32 : count_trailing_zeros 32 (nat_abs n) ≡ shift_of n
  zeros_32 = zeros_are n reduced 32 (rw (shift_is n reduced) at shift_32) ∙ sym (shift_is n reduced)

  -- m is the magnitude as `unsigned_abs` gives it
  module _ (m : ℕ) (e : m ≡ nat_abs (to_z w32 (of_z w32 n))) where
    pub places_32 : count_trailing_zeros 32 m < 32
    places_32 = rw (e, to_z-of_z w32 n f, zeros_32) shift_32

    pub parts_32 : parts (sign_if (lt_z (to_z w32 (of_z w32 n)) (pos 0))) (m / 2 ^ count_trailing_zeros 32 m) (count_trailing_zeros 32 m) ≡ parts_of n
    unfolding parts_of odd_part_of
    parts_32 = rw (e, to_z-of_z w32 n f, zeros_32, below_zero n, nonzero_word n h)
