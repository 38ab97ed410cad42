-- `verilog_writer::put_module_line` meets its contract. Assumes nothing.
use Rattle.text.proofs.Puts.{then_all}
use Rattle.verilog_writer.proofs.put_module_line.Goals as goal

pub returns : goal.returns
returns c = then_all c.put.ensures (then_all c.put_ports.ensures c.put-2.ensures)
