-- `bench_second::form::least` meets its contract. Assumes nothing.
use Rattle.std.proofs.Common.{◌≡◌, arith}
use Rattle.bench_second.proofs.Least.{walked_none, room, walked_even, walked_odd, walked_all}
use Rattle.bench_second.proofs.form.least.Goals as goal

pub loop-place-init : goal.loop-place-init
loop-place-init c = walked_none c.args.magnitude

pub of_odd-odd-requires : goal.of_odd-odd-requires
of_odd-odd-requires c =
    let at = c.loop-place in
    room c.args.magnitude at.place at.here at.next c.loop-place-test.true at.auto.place at.invariant

pub loop-place-preserved-then-magnitude-place-eq0 : goal.loop-place-preserved-then-magnitude-place-eq0
loop-place-preserved-then-magnitude-place-eq0 c =
    let at = c.loop-place in
    let w = walked_even c.args.magnitude at.place at.here at.next c.loop-place-test.true at.auto.place at.invariant c.if-magnitude-place-eq0.true in
    rw c.of_odd-odd.ensures w

pub loop-place-preserved : goal.loop-place-preserved
loop-place-preserved c =
    let at = c.loop-place in
    let w = walked_odd c.args.magnitude at.place at.here at.next c.loop-place-test.true at.auto.place at.invariant c.if-magnitude-place-eq0.false in
    rw c.of_odd-odd.ensures w

pub returns : goal.returns
returns c =
    let at = c.loop-place in
    let e : at.place ≡ 0 = omega arith in
    record { least = walked_all c.args.magnitude at.here at.next (rw e at at.invariant) }
