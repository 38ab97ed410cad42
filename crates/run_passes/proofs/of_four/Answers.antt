-- `run_passes::of_four` meets its contract. `top` makes the registers four more, all 0, so that every place in use has a word four places on. Then `slide` leaves the registers four samples on, raised by the bias after them (`slide_raised`), and `answer` the outputs. Assumes nothing.
use Rattle.std.proofs.Common.{◌≡◌, ◌<◌, ◌^◌, ℕ, [], ◌∷◌, length, arith, rules, get_or, pos, sym, ap, ◌∙◌, subst}
use Rattle.run_products.specs.Inner.{sample_in, bias_after_of}
use Rattle.run_convolution.specs.Running.{registers_of, outputs_of}
use Rattle.run_tables.specs.Inner.{coefficients_in, Raised}
use Rattle.run_moves.proofs.Raising.{slide_raised}
use Rattle.run_passes.proofs.Outputs.{four_registers, items, four_low}
use Rattle.run_passes.specs.Inner.{samples_in}
use Rattle.run_passes.proofs.of_four.Goals as goal

pub returns : goal.returns
returns c r q f =
    let t = c.args.tables.now in
    let xs = c.args.samples in
    let h = coefficients_in t.stored.now in
    let y = c.offset_sample.result ∷ c.offset_sample-2.result ∷ c.offset_sample-3.result ∷ c.offset_sample-4.result ∷ [] in
    let n : length xs ≡ 4 = omega arith in
    let low : (k : ℕ) → get_or y k 0 < 2 ^ 16 = four_low _ _ _ _ (omega arith) (omega arith) (omega arith) (omega arith) in
    let e0 : sample_in c.offset_sample.result ≡ get_or xs 0 (pos 0) = search rules in
    let e1 : sample_in c.offset_sample-2.result ≡ get_or xs 1 (pos 0) = search rules in
    let e2 : sample_in c.offset_sample-3.result ≡ get_or xs 2 (pos 0) = search rules in
    let e3 : sample_in c.offset_sample-4.result ≡ get_or xs 3 (pos 0) = search rules in
    let e : samples_in y ≡ xs = rw (e0, e1, e2, e3) (items xs n) in
    let high = c.top.ensures.raised r (λ k l. (q k l).0) f in
    let first : Raised 4 t.offsets.now c.args.line.now.bias r c.top.new.line.words = record { at = λ k l. high.at k (omega (arith, l)) } in
    let new = slide_raised t.stored.now t.offsets.now t.offset y low c.args.line.now.bias t.padded t.width r c.top.new.line.words c.slide.new.words t.width_to high c.slide.ensures.moved in
    let s = four_registers h r (sample_in c.offset_sample.result) (sample_in c.offset_sample-2.result) (sample_in c.offset_sample-3.result) (sample_in c.offset_sample-4.result) ∙ ap (registers_of h r) e in (
      subst (λ b. Raised t.width t.offsets.now b (registers_of h r xs) c.slide.new.words) (sym c.bias_after-after.ensures)
          (subst (λ g. Raised t.width t.offsets.now (bias_after_of c.args.line.now.bias y) g c.slide.new.words) s new),
      c.answer.ensures c.args.line.now.bias r c.bias_after-after.ensures first ∙ ap (outputs_of h r) e,
    )
