-- A signed number as the machine hands it on: as its bits, read back at each call. Assumes nothing.
use Rattle.std.proofs.Common.{◌≡◌, ◌^◌, ◌≤◌, ℤ, nat_abs, ap, ◌∙◌, arith, w32, SFits, to_z, of_z}
use mir.ValLaws.{to_z-of_z}
use Rattle.word.proofs.Bounds.{i32_coefficient, coefficient_magnitude}

-- n as the machine hands it on
abbrev pub given : ℤ → ℤ
given n = to_z w32 (of_z w32 n)

pub read_once : (n : ℤ) → SFits w32 n → given n ≡ n
read_once n h = to_z-of_z w32 n h

pub read_twice : (n : ℤ) → SFits w32 n → given (given n) ≡ n
read_twice n h = ap given (read_once n h) ∙ read_once n h

pub bounded : (n : ℤ) → SFits w32 n → nat_abs (given n) ≤ 2 ^ 31
bounded n r = omega (arith, ap nat_abs (read_once n r), coefficient_magnitude n (i32_coefficient n r))
