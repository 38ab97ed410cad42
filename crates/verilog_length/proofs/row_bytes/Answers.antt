-- `verilog_length::row_bytes` meets its contract. Assumes nothing.
use borrow.Author.Rules.{rules}
use mathlib.Core.Path.{refl}
use Rattle.text.specs.Numbers.{decimal, decimal_by}
use Rattle.verilog_length.proofs.row_bytes.Goals as goal

pub returns-then-i-eq0 : goal.returns-then-i-eq0
unfolding decimal decimal_by
returns-then-i-eq0 c = record { bytes = rw c.if-i-eq0.true refl; within = search rules }
