-- `fir_networks::building::fir_build` meets its contract: the count as `usize` is the count of the answer of `build`. Assumes nothing.
use mathlib.Core.Path.{◌≡◌, ap, ◌∙◌}
use Rattle.std.proofs.Common.{rules}
use Rattle.std.specs.Prelude.{ℕ, Result}
use Rattle.refusal.specs.declared.Refusal.{Refusal}
use Rattle.refusal.specs.Answer.{Answer, stored, answer_of}
use Rattle.fir_words.specs.Words.{refusal_word_of}
use Rattle.fir_networks.proofs.building.fir_build.Goals as goal

pub returns : goal.returns
returns c =
    let same : ◌≡◌ {A = Result ℕ Refusal} c.map.result c.build-count.result = search rules in
    let e = ap answer_of same in
    record {
      answer = answer_of c.build-count.result;
      word = c.store.ensures.word ∙ ap refusal_word_of e;
      row_count = c.store.ensures.lent ∙ ap (λ (a : Answer ℕ). stored a (λ (k : ℕ). k) c.args.row_count.now) e;
      built = c.build-count.ensures;
    }
