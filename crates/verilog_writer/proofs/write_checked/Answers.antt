-- `verilog_writer::write_checked` meets its contract. Assumes nothing.
use borrow.Author.Rules.{rules}
use mathlib.Core.Path.{◌≡◌, ap, ◌∙◌}
use mathlib.Core.List.{List, ◌++◌}
use Prim.Native.Nat.{ℕ, ◌+◌, ◌≤◌}
use native.Mathlib.Omega.{arith}
use lib.ListN.{length, drop}
use lib.Seq.{sets, sets-eq}
use Rattle.verilog_writer.proofs.write_checked.Goals as goal

-- the area, once a text is written at its start
from_start : (x y text old : List ℕ) → x ≡ y → y ≡ sets old 0 text → length text ≤ length old → x ≡ text ++ drop (length text) old
from_start x y text old e w h =
    let from_zero : 0 + length text ≡ length text = omega arith in
    e ∙ w ∙ sets-eq text old 0 (omega arith) ∙ ap (λ (k : ℕ). text ++ drop k old) from_zero

pub returns-clause-text_after : goal.returns-clause-text_after
returns-clause-text_after c =
    from_start _ c.put_text.new.to.area.now _ c.args.text.now (search rules) c.put_text.ensures.text (omega (arith, c.if-text-text_bytes.false, c.text_bytes.ensures))
