-- `run_kernel::feed` meets its contract. The first 256 registers are run, and memory past them has no say in it and stays. Assumes nothing.
use Rattle.std.proofs.Common.{◌++◌, length, drop, ap, ◌∙◌}
use Rattle.run_convolution.specs.Running.{registers_of, outputs_of}
use Rattle.run_convolution.proofs.Past.{cut_registers, cut_outputs}
use Rattle.run_kernel.proofs.feed.Goals as goal

pub returns-clause-registers_after : goal.returns-clause-registers_after
returns-clause-registers_after c =
    let h = c.args.h.now in
    let r = c.args.registers.now in
    let xs = c.args.samples.now in
    ap (λ s. s ++ drop 256 r) (c.feed_registers.ensures.registers_after ∙ ap (λ s. registers_of h s xs) c.in-Some.ensures.cases.same) ∙ cut_registers h r xs c.requires.registers

pub returns-clause-outputs_after : goal.returns-clause-outputs_after
returns-clause-outputs_after c =
    let h = c.args.h.now in
    let r = c.args.registers.now in
    let xs = c.args.samples.now in
    c.feed_registers.ensures.outputs_after
    ∙ ap (λ os. os ++ drop (length xs) c.args.outputs.now) (ap (λ s. outputs_of h s xs) c.in-Some.ensures.cases.same ∙ cut_outputs h r xs c.requires.registers)
