-- `run_singly::singly` meets its contract. Assumes nothing.
use Rattle.std.proofs.Common.{◌≡◌, ◌<◌, pos, ◌+ℤ◌, ◌*ℤ◌, length, get_or, subst, sym, ap, ◌∙◌, arith, rules, w64, to_z, of_z}
use mir.ValLaws.{to_z-of_z}
use Rattle.run_convolution.specs.Words.{wrapped}
use Rattle.run_convolution.specs.Running.{sum_at, next}
use Rattle.run_tables.specs.Inner.{ZeroFrom}
use Rattle.run_tables.proofs.ZeroFrom.{zero_from_next}
use Rattle.run_singly.proofs.Single.{one_registers, one_outputs, end_registers, end_outputs, all_outputs}
use Rattle.run_singly.proofs.singly.Goals as goal

pub loop-i-preserved : goal.loop-i-preserved
unfolding sum_at
loop-i-preserved c =
    let h = c.args.h.now in
    let xs = c.args.samples.now in
    let r = c.loop-i.registers in
    let i = c.loop-i.i in
    let x = get_or xs i (pos 0) in
    let l : i < length xs = c.loop-i-test.true in
    let s : c.sum.result ≡ wrapped (pos (get_or r 0 0) +ℤ get_or h 0 (pos 0) *ℤ x) = search rules in
    let o : to_z w64 (of_z w64 c.cast_signed.result) ≡ to_z w64 (sum_at h x r 0) =
    to_z-of_z w64 c.cast_signed.result (record { sfits = c.cast_signed.type_inv }) ∙ c.cast_signed.ensures ∙ ap (to_z w64) s in
    let e : c.move_one.new.registers ≡ next h x r = search rules in
    record {
      zero_from = subst (ZeroFrom c.args.w h) (sym e) (zero_from_next h (omega arith) c.args.w x r c.loop-i.invariant.zero_from);
      registers_left = one_registers h xs r i l _ e ∙ c.loop-i.invariant.registers_left;
      outputs_left = one_outputs h xs r i l _ e c.loop-i.outputs _ o ∙ c.loop-i.invariant.outputs_left;
    }

pub returns-clause-registers_after : goal.returns-clause-registers_after
returns-clause-registers_after c =
    sym (end_registers c.args.h.now c.args.samples.now c.loop-i.registers c.loop-i.i c.loop-i-test.false) ∙ c.loop-i.invariant.registers_left

pub returns-clause-outputs_after : goal.returns-clause-outputs_after
returns-clause-outputs_after c =
    sym (end_outputs c.args.h.now c.args.samples.now c.loop-i.registers c.loop-i.i c.loop-i.outputs c.loop-i-test.false) ∙ c.loop-i.invariant.outputs_left
    ∙ all_outputs c.args.h.now c.args.samples.now c.args.registers.now c.args.outputs.now c.requires.outputs
