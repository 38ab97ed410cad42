-- `run_kernel::fours` meets its contract. Assumes nothing.
use Rattle.std.proofs.Common.{◌≡◌, ◌+◌, ◌-◌, ◌*◌, ◌≤◌, length, ap, subst, arith, rules}
use borrow.Rule.Slice.PartMut.{put_mid}
use Rattle.run_tables.specs.Inner.{coefficients_in}
use Rattle.run_moves.proofs.Places.{length_in}
use Rattle.run_kernel.specs.Inner.{Passed}
use Rattle.run_kernel.proofs.Passes.{passed_four}
use Rattle.run_kernel.proofs.fours.Goals as goal

pub loop-pass-preserved : goal.loop-pass-preserved
loop-pass-preserved c r b q f =
    let t = c.args.tables.now in
    let h = coefficients_in t.stored.now in
    let xs = c.args.samples.now in
    let i = 4 * c.loop-pass.pass in
    let l : i + 4 ≤ length xs = omega arith in
    let m : length xs ≤ length c.loop-pass.outputs = omega arith in
    let few : length h ≤ 256 = omega (arith, length_in t.stored.now) in
    let j : i + 4 - i ≡ 4 = omega arith in
    let u : i + 4 ≡ 4 * (c.loop-pass.pass + 1) = omega arith in
    let outs = c.loop-pass.outputs in
    subst (λ k. Passed h t.width t.offsets.now r xs c.args.outputs.now k c.of_four.new.line.bias c.of_four.new.line.words (put_mid i (i + 4 - i) outs c.of_four.new.outputs)) u
    (passed_four h few t.width t.offsets.now r xs c.args.outputs.now i c.loop-pass.line.bias c.of_four.new.line.bias c.loop-pass.line.words c.of_four.new.line.words outs
    (put_mid i (i + 4 - i) outs c.of_four.new.outputs) _ c.of_four.new.outputs l b m
    (search rules) c.of_four.ensures (ap (λ k. put_mid i k outs c.of_four.new.outputs) j) (c.loop-pass.invariant r b q f))
