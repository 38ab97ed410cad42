-- Four samples a pass have passed; the words are the registers after them, raised by their offsets and the bias, and the outputs of these samples are written (`Passed`, of whatever registers the words stood for at the start).
use Rattle.std.proofs.Common.{ℕ, ◌*◌, ◌≤◌, List, length}
use Rattle.run_tables.specs.Inner.{coefficients_in, Raised, ZeroFrom}
use Rattle.run_kernel.specs.Inner.{Passed}
use Rattle.run_kernel.proofs.fours.Given as goal

abbrev pub invariant-loop-pass : goal.invariant-loop-pass
invariant-loop-pass l =
    (r : List ℕ) → 256 ≤ length r → ZeroFrom l.tables.width (coefficients_in l.tables.stored.now) r
    → Raised l.tables.width l.tables.offsets.now l.initial.line.bias r l.initial.line.words
    → Passed (coefficients_in l.tables.stored.now) l.tables.width l.tables.offsets.now r l.samples l.initial.outputs (4 * l.pass) l.line.bias l.line.words l.outputs
