-- The form of a cell as the machine hands its coefficient on. Assumes nothing.
use mathlib.Core.Path.{◌≡◌, ap, ◌∙◌}
use mathlib.Core.List.{List, []}
use Prim.Native.Nat.{ℕ}
use lib.IntN.{ℤ, pos}
use lib.ListN.{get_or}
use mir.Syntax.{w32}
use mir.Val.{SFits, to_z, of_z}
use mir.ValLaws.{to_z-of_z}
use Rattle.signed_digit.specs.Forms.{listing}
use Rattle.form_masks.specs.declared.Form.{Form}
use Rattle.form_masks.specs.Form.{form_of}
use Rattle.plane_masks.specs.Grid.{chosen}

module _ (coefficients : List ℤ) (choices : List ℕ) (c : ℕ) (fits : SFits w32 (get_or coefficients c (pos 0))) where
  -- the coefficient as it is handed on
  abbrev handed : ℤ
  handed = to_z w32 (of_z w32 (get_or coefficients c (pos 0)))

  same : handed ≡ get_or coefficients c (pos 0)
  same = to_z-of_z w32 (get_or coefficients c (pos 0)) fits

  pub form_chosen : (form : Form) → form ≡ form_of (get_or (listing 32 handed) (get_or choices c 0) []) → form ≡ form_of (chosen coefficients choices c)
  form_chosen form e = e ∙ ap (λ (z : ℤ). form_of (get_or (listing 32 z) (get_or choices c 0) [])) same
