-- The weight of a form. Document 01: "Weight is the number of nonzero digits." Definitions only.
use Rattle.std.specs.Prelude.{◌≡◌, ℕ}
use Rattle.refusal.specs.Answer.{Answer, given, refuse_at}
use Rattle.signed_digit.specs.Weight.{weight}
use Rattle.form_masks.specs.declared.Form.{Form}
use Rattle.form_masks.specs.Form.{string_of, overlap}

-- the weight of the form's string, with the check 8 of the table "Turned down"
unfoldable pub weight_of : Form → Answer ℕ
weight_of form = refuse_at (overlap form) 8 (given (weight (string_of form)))

-- the weight of the form is answered so: the contract of `weight`, and what every claim about it speaks of
pub record FormWeighed (form : Form) (answer : Answer ℕ) : Type 0 where
  pub weighed : answer ≡ weight_of form
