-- `run_kernel::feed_registers` meets its contract. Where there are four samples or more, `by_fours` leaves registers and outputs from which the samples left over give those of the whole run, and `singly` runs these. Assumes nothing.
use Rattle.std.proofs.Common.{◌≡◌, ◌-◌, ◌%◌, ◌++◌, take, length, drop, take_all, subst, sym, ap, ◌∙◌, arith, length-drop}
use Rattle.run_convolution.specs.Running.{outputs_of}
use Rattle.run_convolution.proofs.Steps.{length_outputs}
use Rattle.run_singly.proofs.Single.{all_outputs}
use Rattle.run_kernel.proofs.Passes.{sets_rest}
use Rattle.run_kernel.proofs.feed_registers.Goals as goal

pub returns-clause-outputs_after : goal.returns-clause-outputs_after
returns-clause-outputs_after c =
    let h = c.args.h.now in
    let xs = c.args.samples.now in
    let i = length xs - length xs % 4 in
    let r = c.by_fours.new.registers in
    let outs = c.by_fours.new.outputs in
    let os = outputs_of h r (drop i xs) in
    let n : length os ≡ length (drop i xs) = length_outputs h r (drop i xs) in
    let whole : take (length xs - i) (drop i xs) ≡ drop i xs = take_all (length xs - i) (drop i xs) (omega (arith, length-drop i xs)) in
    let part = take (length outs - i) (drop i outs) in
    let f = subst (λ ys. c.singly-2.new.outputs ≡ outputs_of h r ys ++ drop (length ys) part) whole c.singly-2.ensures.outputs_after in
    sets_rest outs os c.singly-2.new.outputs i (length outs - i) (omega (arith, c.requires)) (omega arith)
    (omega (arith, n, length-drop i xs, c.requires)) (f ∙ ap (λ k. os ++ drop k part) (sym n))
    ∙ c.by_fours.ensures.outputs_after ∙ all_outputs h xs c.args.registers.now c.args.outputs.now c.requires
