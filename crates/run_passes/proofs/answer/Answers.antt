-- `run_passes::answer` meets its contract. Each of the four outputs is what its place comes to, which is the output of its sample (`output_place0` and so on). Assumes nothing.
use Rattle.std.proofs.Common.{refl, ap, ◌∙◌, w64, to_z, get_or}
use mir.ValLaws.{to_z-of_z}
use Rattle.run_convolution.specs.Sums.{held}
use Rattle.run_products.specs.Inner.{sample_in}
use Rattle.run_tables.specs.Inner.{coefficients_in}
use Rattle.run_moves.proofs.Places.{output_place0, output_place1, output_place2, output_place3}
use Rattle.run_passes.proofs.Outputs.{four_outputs, written}
use Rattle.run_passes.proofs.answer.Goals as goal

pub returns : goal.returns
returns c g r e f =
    let t = c.args.tables.now.stored.now in
    let p = c.args.tables.now.padded in
    let y = c.args.y.now in
    let x0 = sample_in (get_or y 0 0) in
    let x1 = sample_in (get_or y 1 0) in
    let x2 = sample_in (get_or y 2 0) in
    let x3 = sample_in (get_or y 3 0) in
    let o0 = to_z-of_z w64 c.output.result (record { sfits = c.output.type_inv }) ∙ c.output.ensures g r e f ∙ ap (to_z w64) (output_place0 t p x0 x1 x2 x3 r (held r 0) refl) in
    let o1 = to_z-of_z w64 c.output-2.result (record { sfits = c.output-2.type_inv }) ∙ c.output-2.ensures g r e f ∙ ap (to_z w64) (output_place1 t p x0 x1 x2 x3 r (held r 1) refl) in
    let o2 = to_z-of_z w64 c.output-3.result (record { sfits = c.output-3.type_inv }) ∙ c.output-3.ensures g r e f ∙ ap (to_z w64) (output_place2 t p x0 x1 x2 x3 r (held r 2) refl) in
    let o3 = to_z-of_z w64 c.output-4.result (record { sfits = c.output-4.type_inv }) ∙ c.output-4.ensures g r e f ∙ ap (to_z w64) (output_place3 t p x0 x1 x2 x3 r (held r 3) refl) in
    written c.args.outputs.now _ _ _ _ c.requires ∙ four_outputs (coefficients_in t) r x0 x1 x2 x3 _ _ _ _ o0 o1 o2 o3
