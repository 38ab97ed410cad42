-- `form_masks::weight` meets its contract. Assumes nothing.
use Rattle.std.proofs.Common.{sym, ap, ◌∙◌, arith}
use Rattle.std.proofs.lemmas.Result.{err_from_is_err_and}
use Rattle.refusal.specs.Answer.{given}
use Rattle.signed_digit.specs.Weight.{weight}
use Rattle.form_masks.specs.Form.{string_of}
use Rattle.form_masks.specs.Weight.{weight_of}
use Rattle.form_masks.proofs.Forms.{overlapping, disjoint, string_union}
use Rattle.form_masks.proofs.weight.Goals as goal

pub returns-in_err-disjoint : goal.returns-in_err-disjoint
unfolding weight_of
returns-in_err-disjoint c =
    let form = c.args.form in
    let p = err_from_is_err_and c.from_residual.result c.from_residual.ensures.1 in
    rw (p.1, p.2) (record { weighed = overlapping form _ (given (weight (string_of form))) c.in_err-disjoint.ensures })

pub returns : goal.returns
unfolding weight_of
returns c =
    let form = c.args.form in
    let apart = c.in_ok-disjoint.ensures in
    record {
      weighed =
          ap given (c.ones.ensures ∙ sym (string_union form (omega arith) (omega arith) apart))
          ∙ disjoint form.plus form.minus (given (weight (string_of form))) apart;
    }
