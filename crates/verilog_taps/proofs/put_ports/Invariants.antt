-- The invariant of the loop of `verilog_taps::put_ports`: the ports of the numbers passed are written.
use Rattle.text.specs.Lines.{numbered_from}
use Rattle.text.specs.Inner.{WroteAll}
use Rattle.verilog_text.specs.Text.{port}
use Rattle.verilog_taps.proofs.put_ports.Given as goal

abbrev pub invariant-loop-k : goal.invariant-loop-k
invariant-loop-k l = WroteAll l.initial.to (numbered_from port 0 l.k) l.to
