-- `text::Writer::put` meets its contract. Assumes nothing.
use mathlib.Core.Path.{ap, ◌∙◌}
use Prim.Native.Nat.{◌+◌}
use lib.ListN.{set, get_or}
use Rattle.text.proofs.Puts.{sets_next}
use Rattle.text.proofs.Writer.put.Goals as goal

pub loop-i-preserved : goal.loop-i-preserved
loop-i-preserved c =
    let u = c.args.self.now in
    let text = c.args.text.now in
    let i = c.loop-i.i in
    let at = c.loop-i.invariant.0 in (
      at,
      c.loop-i.invariant.1,
      ap (λ k. set c.loop-i.self.area.now (k + i) (get_or text i 0)) at
          ∙ ap (λ l. set l (u.at + i) (get_or text i 0)) c.loop-i.invariant.2
          ∙ sets_next text u.area.now u.at i c.loop-i-test.true,
    )
