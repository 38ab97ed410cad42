-- `text::Writer::put_integer` meets its contract: by the sign, what is written is `-` and the magnitude, or the magnitude alone. Assumes nothing.
use mathlib.Core.Path.{◌≡◌, sym, ap, subst, ◌∙◌}
use lib.IntN.{nat_abs}
use lib.Dec.{lit≤}
use mir.ValLaws.{to_z-of_z}
use mir.Syntax.{w32}
use Rattle.word.proofs.Signed.{low, high}
use Rattle.text.specs.declared.Writer.{Writer}
use Rattle.text.specs.Inner.{Wrote, number_bytes}
use Rattle.text.specs.Numbers.{decimal}
use Rattle.text.proofs.Integers.{negative, not_negative}
use Rattle.text.proofs.Puts.{then, widen, put_as}
use Rattle.text.proofs.Writer.put_integer.Goals as goal
use Rattle.text.proofs.Writer.put_integer.Goals.{then-n-lt0, else-n-lt0}

pub returns : goal.returns
returns c =
    let n = c.args.n in
    let size : c.unsigned_abs.result ≡ nat_abs n = c.unsigned_abs.ensures.value ∙ ap nat_abs (to_z-of_z w32 n c.ranges.n) in
    let number = put_as (ap decimal (sym size)) c.put_number.ensures in
    elim c.if-n-lt0.branch [
      | then-n-lt0 w ↦
          put_as (negative n (low w32 w32 n c.ranges.n (lit≤ tt) w.if-n-lt0.true))
          (then w.put_byte.ensures (subst (λ (v : Writer). Wrote v (decimal (nat_abs n)) number_bytes c.put_number.new.self) w.self-is number))
      | else-n-lt0 w ↦
          put_as (not_negative n (high w32 w32 n c.ranges.n (lit≤ tt) w.if-n-lt0.false))
          (widen (lit≤ tt) (subst (λ (v : Writer). Wrote v (decimal (nat_abs n)) number_bytes c.put_number.new.self) w.self-is number))
    ]
