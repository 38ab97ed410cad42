-- `form_masks::disjoint` meets its contract. Assumes nothing.
use Rattle.std.proofs.Common.{◌<◌, sym, refl, ◌∙◌, arith}
use Rattle.std.proofs.Math.Nat.{pos_of_ne-zero}
use lib.Bits.{bit_and, and_le_l}
use Rattle.form_masks.proofs.Overlap.{overlap_and, lowest_zeros}
use Rattle.form_masks.proofs.disjoint.Goals as goal

pub returns-then-both-ne0 : goal.returns-then-both-ne0
returns-then-both-ne0 c =
    let x = c.args.form.plus in
    let y = c.args.form.minus in
    let both : 0 < bit_and x y = pos_of_ne-zero c.if-both-ne0.true in
    record { number = refl; place = sym (overlap_and 32 x y ∙ lowest_zeros 32 (bit_and x y) both (omega (arith, and_le_l x y))) }
