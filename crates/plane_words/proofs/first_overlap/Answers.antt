-- `plane_words::first_overlap` meets its contract. Assumes nothing.
use Rattle.std.proofs.Common.{◌*◌, arith}
use Rattle.plane_words.proofs.Both.{none_found, word_none, word_found, word_past}
use Rattle.plane_words.proofs.first_overlap.Goals as goal

pub returns-then-c-cells : goal.returns-then-c-cells
returns-then-c-cells c =
    let word = c.overlap_word-both in
    word_found c.args.plus.now c.args.minus.now c.args.cells c.loop-j.j word.result word.ensures c.loop-j.invariant c.if-both-ne0.true word.type_inv c.if-c-cells.true

pub returns-then-both-ne0 : goal.returns-then-both-ne0
returns-then-both-ne0 c =
    let word = c.overlap_word-both in
    word_past c.args.plus.now c.args.minus.now c.args.cells c.loop-j.j word.result word.ensures c.loop-j.invariant c.if-both-ne0.true word.type_inv c.if-c-cells.false

pub loop-j-preserved : goal.loop-j-preserved
loop-j-preserved c =
    let word = c.overlap_word-both in
    word_none c.args.plus.now c.args.minus.now c.args.cells c.loop-j.j word.result word.ensures c.loop-j.invariant (omega arith)

pub returns : goal.returns
returns c = none_found c.args.plus.now c.args.minus.now c.args.cells (64 * c.loop-j.j) c.loop-j.invariant (omega arith)
