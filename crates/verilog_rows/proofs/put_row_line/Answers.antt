-- `verilog_rows::put_row_line` meets its contract, by the number and the sign of the row. Assumes nothing.
use Rattle.verilog_rows.proofs.put_row_line.Goals as goal

pub returns-then-i-eq0 : goal.returns-then-i-eq0
returns-then-i-eq0 c = rw c.if-i-eq0.true c.put.ensures
