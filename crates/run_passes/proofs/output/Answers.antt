-- `run_passes::output` meets its contract. What `place` makes of a raised word is the sum, raised by the offset of the output's place and by the bias after the four samples (`place_raised`); a word is raised from one number only (`raised_one`), so `lowered` gives the sum. Assumes nothing.
use Rattle.std.proofs.Common.{◌≡◌, ◌+◌, ◌<◌, ◌^◌, ℕ, sym, ap, ◌∙◌, arith, get_or, w64, to_z}
use mir.ValLaws.{to_z-of_z}
use Rattle.run_convolution.specs.Sums.{held}
use Rattle.run_products.specs.Inner.{bias_after_of, raised_by}
use Rattle.run_products.proofs.FourSums.{four_word, raised_one}
use Rattle.run_moves.specs.Inner.{placed, summed}
use Rattle.run_moves.proofs.Raising.{place_raised}
use Rattle.run_passes.proofs.output.Goals as goal

pub returns : goal.returns
returns c g r e f =
    let t = c.args.tables.now.stored.now in
    let v = c.args.tables.now.offsets.now in
    let y = c.args.y.now in
    let j = c.args.j in
    let n = c.lowered.result in
    let s = summed t y j (held r j) in
    let low : (k : ℕ) → get_or y k 0 < 2 ^ 16 = λ k. omega (arith, c.fits-y k) in
    let p : c.place-sum.result ≡ raised_by (get_or v (j + 1) 0) (bias_after_of g y) s =
    c.place-sum.ensures ∙ ap (placed t y j) (f.at j c.requires) ∙ place_raised t v c.args.tables.now.offset y low g j (held r j) (omega (arith, c.requires)) in
    let q : raised_by (get_or v (j + 1) 0) c.args.bias n ≡ raised_by (get_or v (j + 1) 0) c.args.bias s = c.lowered.ensures ∙ p ∙ ap (λ b. raised_by (get_or v (j + 1) 0) b s) (sym e) in
    to_z-of_z w64 c.cast_signed.result (record { sfits = c.cast_signed.type_inv }) ∙ c.cast_signed.ensures
    ∙ ap (to_z w64) (raised_one (get_or v (j + 1) 0) c.args.bias n s (omega arith) (four_word (held r j) _ _ _ _ _ _ _ _) q)
