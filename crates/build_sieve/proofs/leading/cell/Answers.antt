-- `build_sieve::leading::cell` meets its contract. The machine writes x as bits and reads it back. Assumes nothing.
use mathlib.Core.Path.{sym, ap, ◌∙◌, subst}
use mathlib.Core.Bool.{not}
use Prim.Native.Nat.{◌<◌, ◌*◌, ◌/◌, ◌%◌, ◌^◌}
use native.Mathlib.Nat.{lt_of_lt_of_le, lt_of_le_of_lt}
use lib.Dec.{T, lit≤, lit<}
use lib.IntN.{ℤ, pos, negsuc, nat_abs}
use lib.Ieee.{binary64, of_int, to_bits, is_nan}
use mir.Syntax.{w32}
use mir.Val.{SFits, to_z, of_z}
use mir.ValLaws.{to_z-of_z}
use Rattle.build_sieve.proofs.Cells.{cell_of_lem, whole_number, high_half}
use Rattle.build_sieve.proofs.leading.cell.Goals as goal

small : (z : ℤ) → SFits w32 z → nat_abs z < 2 ^ 32
small (pos n) h = lt_of_lt_of_le h.sfits (lit≤ tt)
small (negsuc k) h = lt_of_le_of_lt h.sfits (lit< tt)

pub float_to_bits-high : goal.float_to_bits-high
float_to_bits-high c =
    let x = c.args.x in
    let fits = c.ranges.x in
    subst (λ (z : ℤ). T (not (is_nan (of_int binary64 z)))) (sym (to_z-of_z w32 x fits)) (whole_number x (small x fits))

pub overflow_cast-high : goal.overflow_cast-high
overflow_cast-high c = record { fits = high_half (to_z w32 (of_z w32 c.args.x)) }

pub returns : goal.returns
returns c =
    let x = c.args.x in
    let shift = c.args.shift in
    let fits = c.ranges.x in
    ap (λ (z : ℤ). to_bits binary64 (of_int binary64 z) / 2 ^ 32 * 2 ^ 12 % 2 ^ 32 / 2 ^ shift) (to_z-of_z w32 x fits) ∙ cell_of_lem shift x (small x fits)
