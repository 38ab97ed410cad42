-- The value of a form. Document 01: "Its value is the first mask minus the second, as a 64-bit signed number." Definitions only.
use Rattle.std.specs.Prelude.{◌≡◌, ℤ}
use Rattle.refusal.specs.Answer.{Answer, given, refuse_at}
use Rattle.signed_digit.specs.Value.{value}
use Rattle.form_masks.specs.declared.Form.{Form}
use Rattle.form_masks.specs.Form.{string_of, overlap}

-- the value of the form's string, with the check 8 of the table "Turned down"
unfoldable pub value_of : Form → Answer ℤ
value_of form = refuse_at (overlap form) 8 (given (value (string_of form)))

-- the value of the form is answered so: the contract of `value`, and what every claim about it speaks of
pub record FormValued (form : Form) (answer : Answer ℤ) : Type 0 where
  pub valued : answer ≡ value_of form
