-- `form_number::offset_at` meets its contract: a link is taken or not, and none is left. Assumes nothing.
use Rattle.std.proofs.Common.{arith}
use Rattle.form_number.proofs.Offsets.{add_not, add_taken, add_end}
use Rattle.form_number.proofs.offset_at.Goals as goal

pub loop-link-preserved-then-link-i : goal.loop-link-preserved-then-link-i
loop-link-preserved-then-link-i c = add_taken _ _ _ c.in-Some.ensures.steps _ _ _ c.loop-link.invariant c.if-link-i.true

pub loop-link-preserved : goal.loop-link-preserved
loop-link-preserved c = add_not _ _ _ c.in-Some.ensures.steps _ _ _ c.loop-link.invariant c.if-link-i.false

pub returns : goal.returns
returns c = add_end _ _ _ _ c.in-None.ensures.steps.0 (omega arith) c.loop-link.invariant
