-- The invariant of the loop of `text::Writer::put`: the area is as it was but for the first i bytes of the text, which stand past those that were written.
use mathlib.Core.Path.{◌≡◌}
use lib.ListN.{take}
use lib.Seq.{sets}
use Rattle.text.proofs.Writer.put.Given as goal

abbrev pub invariant-loop-i : goal.invariant-loop-i
invariant-loop-i l =
    (l.self.at ≡ l.initial.self.at) × (l.self.area.ghost_name ≡ l.initial.self.area.ghost_name) × (l.self.area.now ≡ sets l.initial.self.area.now l.initial.self.at (take l.i l.text))
