-- `verilog_length::digits_below` meets its contract, by the digits below n (`digits_below_lem`). Assumes nothing.
use mathlib.Core.Path.{◌≡◌}
use Prim.Native.Nat.{◌+◌}
use native.Mathlib.Omega.{arith}
use Rattle.verilog_text.proofs.Lengths.{digits_from, digits_below_of, digits_below_lem}
use Rattle.verilog_length.proofs.digits_below.Goals as goal

pub returns : goal.returns
unfolding digits_below_of
returns c =
    let n = c.args.n in
    let all : n + c.saturating_sub.result + c.saturating_sub-2.result + c.saturating_sub-3.result ≡ digits_from 0 n
    = omega (arith, c.saturating_sub.ensures, c.saturating_sub-2.ensures, c.saturating_sub-3.ensures, digits_below_lem n (omega (arith, c.requires))) in
    (all, omega (arith, c.saturating_sub.ensures, c.saturating_sub-2.ensures, c.saturating_sub-3.ensures))
