-- `verilog_taps::put_ports` meets its contract. Assumes nothing.
use native.Mathlib.Omega.{arith}
use Rattle.text.specs.Lines.{numbered_from}
use Rattle.text.proofs.Puts.{then_all}
use Rattle.text.proofs.Lines.{numbered_next, none_put, room_next}
use Rattle.verilog_text.specs.Text.{port}
use Rattle.verilog_text.proofs.Lengths.{port_length}
use Rattle.verilog_taps.proofs.put_ports.Goals as goal

pub loop-k-init : goal.loop-k-init
loop-k-init c = none_put port c.args.to.now

pub put_with-requires : goal.put_with-requires
put_with-requires c =
    let k = c.loop-k.k in
    omega (
      arith,
      c.requires.1,
      c.loop-k.invariant.next,
      c.loop-k.invariant.same_length,
      port_length k,
      room_next (numbered_from port 0) port (numbered_next port) k c.args.m (omega arith),
    )

pub loop-k-preserved : goal.loop-k-preserved
loop-k-preserved c = rw (numbered_next port c.loop-k.k) (then_all c.loop-k.invariant c.put_with.ensures.put_all)
