-- `run_kernel::by_fours` meets its contract. The words stand for the registers, raised, before `fours` and after it, and `lower` finds the registers that they stand for (`lowered_to`). Assumes nothing.
use Rattle.std.proofs.Common.{sym, subst, arith}
use Rattle.run_tables.specs.Inner.{ZeroFrom}
use Rattle.run_kernel.proofs.Passes.{passed_same, lowered_to, passed_zero_from, passed_registers, passed_outputs}
use Rattle.run_kernel.proofs.by_fours.Goals as goal

pub returns : goal.returns
returns c =
    let r = c.args.registers.now in
    let e = c.fill_coefficients.ensures.coefficients in
    let zero_from = subst (λ g. ZeroFrom c.args.w g r) (sym e) c.requires.zero_from in
    let p = passed_same e (c.fours.ensures r (omega arith) zero_from c.raise.ensures.raised) in
    let s = lowered_to (omega arith) (omega arith) c.requires.width_to (omega arith) c.requires.zero_from p _ c.lower.ensures in
    record { zero_from = passed_zero_from p s; registers_after = passed_registers p s; outputs_after = passed_outputs p s }
