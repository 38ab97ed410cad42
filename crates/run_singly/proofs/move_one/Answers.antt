-- `run_singly::move_one` meets its contract. From w on registers are 0 before and after, so the first w of the 255 that move are enough (`moved_one`). Assumes nothing.
use Rattle.std.proofs.Common.{◌≡◌, ◌+◌, ◌<◌, pos, ◌+ℤ◌, ◌*ℤ◌, length, get_or, slice_set, min, sym, ap, ◌∙◌, add-one, arith, rules, w16, to_z, of_z}
use mir.ValLaws.{to_z-of_z}
use Rattle.sequence.specs.Inner.{front}
use Rattle.sequence.proofs.Front.{front_start, front_read, front_next}
use Rattle.run_convolution.specs.Words.{wrapped}
use Rattle.run_convolution.specs.Running.{next}
use Rattle.run_convolution.specs.Sums.{held}
use Rattle.run_convolution.proofs.Steps.{held_low, held_next}
use Rattle.run_moves.proofs.Moves.{moved_one}
use Rattle.run_singly.proofs.move_one.Goals as goal

pub loop-k-init : goal.loop-k-init
loop-k-init c = sym (front_start _ _)

pub loop-k-preserved : goal.loop-k-preserved
loop-k-preserved c =
    let r = c.args.registers.now in
    let h = c.args.h.now in
    let x = to_z w16 (of_z w16 c.args.x) in
    let k = c.loop-k.k in
    let f = held (next h x r) in
    let n = c.sum.result in
    let m : k < 255 = omega (arith, c.min-k-end.ensures) in
    let l : k < length r = omega (arith, m, c.requires.registers) in
    let e : get_or c.loop-k.registers (k + 1) 0 ≡ held r (k + 1) =
    ap (λ q. get_or q (k + 1) 0) c.loop-k.invariant ∙ front_read f r k 1 0 ∙ sym (held_low r (k + 1) (omega (arith, m))) in
    let s : n ≡ wrapped (pos (get_or c.loop-k.registers (k + 1) 0) +ℤ get_or h (k + 1) (pos 0) *ℤ x) = search rules in
    let v : n ≡ f k =
    s ∙ ap (λ p. wrapped (pos p +ℤ get_or h (k + 1) (pos 0) *ℤ x)) e ∙ ap (λ i. wrapped (pos (held r i) +ℤ get_or h i (pos 0) *ℤ x)) (add-one k)
    ∙ sym (held_next h (omega arith) x r k) in
    ap (λ q. slice_set q k n) c.loop-k.invariant ∙ ap (slice_set (front f r k) k) v ∙ front_next f r k 0 l

pub returns : goal.returns
returns c =
    let r = c.args.registers.now in
    let h = c.args.h.now in
    let x = to_z w16 (of_z w16 c.args.x) in
    let e : c.loop-k.k ≡ min c.args.w 255 = omega (arith, c.min-k-end.ensures) in
    moved_one h (omega arith) c.args.w x r c.requires.registers c.requires.zero_from c.loop-k.registers (c.loop-k.invariant ∙ ap (front (held (next h x r)) r) e)
    ∙ ap (λ y. next h y r) (to_z-of_z w16 c.args.x c.ranges.x)
