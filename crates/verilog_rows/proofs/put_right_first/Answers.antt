-- `verilog_rows::put_right_first` meets its contract. Assumes nothing.
use Rattle.text.proofs.Puts.{then_all}
use Rattle.verilog_rows.proofs.put_right_first.Goals as goal

pub returns : goal.returns
returns c =
    then_all c.put_with.ensures.put_all
    (then_all c.put_with-2.ensures.put_all
    (then_all c.put_with-3.ensures.put_all
    (then_all c.put_with-4.ensures.put_all c.put.ensures)))
