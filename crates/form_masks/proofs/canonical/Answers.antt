-- `form_masks::canonical` meets its contract: the masks of a negative number are those of its magnitude, exchanged. Assumes nothing.
use mathlib.Core.Path.{ap, ◌∙◌}
use Prim.Native.Nat.{ℕ}
use lib.IntN.{nat_abs}
use mir.Syntax.{w32}
use mir.ValLaws.{to_z-of_z}
use Rattle.signed_digit.specs.CanonicalForm.{canonical_nat}
use Rattle.form_masks.specs.Form.{form_of}
use Rattle.form_masks.proofs.Sign.{exchanged, canonical_negative}
use Rattle.form_masks.proofs.canonical.Goals as goal

pub returns-then-n-lt0 : goal.returns-then-n-lt0
returns-then-n-lt0 c =
    let back = to_z-of_z w32 c.args.n c.ranges.n in
    let size = c.unsigned_abs.ensures.value ∙ ap nat_abs back in
    let form = c.canonical_of-form.ensures ∙ ap (λ (m : ℕ). form_of (canonical_nat 32 m)) size in
    record { masks = ap exchanged form ∙ canonical_negative c.args.n (rw back at c.if-n-lt0.true) }
