-- `form_masks::value` meets its contract. Of masks that are apart the difference, which fits 64 bits with its sign, is the value of their string. Assumes nothing.
use Rattle.std.proofs.Common.{◌≡◌, ℕ, ◌<◌, ◌^◌, sym, ap, ap₂, subst, ◌∙◌, arith, pos, ◌-ℤ◌}
use Rattle.std.proofs.lemmas.Result.{err_from_is_err_and}
use native.Mathlib.Nat.{lt_trans}
use lib.Dec.{lit<}
use mir.Syntax.{w64}
use mir.Val.{SFits, to_z}
use mir.ValLaws.{to_z_pos, to_z-of_z}
use Rattle.refusal.specs.Answer.{given}
use Rattle.signed_digit.specs.Value.{value}
use Rattle.form_masks.specs.declared.Form.{Form}
use Rattle.form_masks.specs.Form.{string_of}
use Rattle.form_masks.specs.Value.{value_of}
use Rattle.form_masks.proofs.Forms.{overlapping, disjoint, string_value, difference_fits}
use Rattle.form_masks.proofs.value.Goals as goal

-- a mask as a 64-bit signed number
wide : (x : ℕ) → x < 2 ^ 32 → to_z w64 x ≡ pos x
wide x h = to_z_pos w64 x (lt_trans h (lit< tt))

difference : (x y : ℕ) → x < 2 ^ 32 → y < 2 ^ 32 → to_z w64 x -ℤ to_z w64 y ≡ pos x -ℤ pos y
difference x y h k = ap₂ ◌-ℤ◌ (wide x h) (wide y k)

fits : (form : Form) → form.plus < 2 ^ 32 → form.minus < 2 ^ 32 → SFits w64 (to_z w64 form.plus -ℤ to_z w64 form.minus)
fits form h k = subst (SFits w64) (sym (difference form.plus form.minus h k)) (difference_fits form.plus form.minus h k)

pub returns-in_err-disjoint : goal.returns-in_err-disjoint
unfolding value_of
returns-in_err-disjoint c =
    let form = c.args.form in
    let p = err_from_is_err_and c.from_residual.result c.from_residual.ensures.1 in
    rw (p.1, p.2) (record { valued = overlapping form _ (given (value (string_of form))) c.in_err-disjoint.ensures })

pub returns : goal.returns
unfolding value_of
returns c =
    let form = c.args.form in
    let hx : form.plus < 2 ^ 32 = omega arith in
    let hy : form.minus < 2 ^ 32 = omega arith in
    let apart = c.in_ok-disjoint.ensures in
    record {
      valued =
          ap given (to_z-of_z w64 _ (fits form hx hy) ∙ difference form.plus form.minus hx hy ∙ sym (string_value form hx hy apart))
          ∙ disjoint form.plus form.minus (given (value (string_of form))) apart;
    }

pub overflow_sub-result : goal.overflow_sub-result
overflow_sub-result c =
    let form = c.args.form in
    let hx : form.plus < 2 ^ 32 = omega arith in
    let hy : form.minus < 2 ^ 32 = omega arith in
    fits form hx hy
