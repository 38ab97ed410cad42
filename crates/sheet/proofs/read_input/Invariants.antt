-- `sheet::read_input`: no more is read than the area has room for. The measure is the room left.
use Rattle.std.proofs.Common.{◌≤◌, ◌-◌, length}
use Rattle.sheet.proofs.read_input.Given as goal

abbrev pub invariant-loop-done : goal.invariant-loop-done
invariant-loop-done g l = l.done ≤ length l.area

abbrev pub decreases-loop-done : goal.decreases-loop-done
decreases-loop-done g l = length l.area - l.done
