-- `build_chain::chosen::chosen_form` meets its contract. Assumes nothing.
use mathlib.Core.Path.{◌≡◌, sym, ap, ◌∙◌, subst}
use mathlib.Core.List.{[]}
use Prim.Native.Nat.{◌<◌}
use lib.IntN.{ℤ, pos}
use lib.ListN.{length, get_or}
use mir.Syntax.{w32}
use mir.Val.{to_z, of_z}
use mir.ValLaws.{to_z-of_z}
use Rattle.signed_digit.specs.Forms.{listing}
use Rattle.form_masks.specs.Form.{form_of}
use Rattle.build_steps.specs.Chain.{chosen_form_of}
use Rattle.build_chain.proofs.chosen.chosen_form.Goals.{Start}
use Rattle.build_chain.proofs.chosen.chosen_form.Goals as goal

-- v as the machine hands it on
same : (s : Start) → to_z w32 (of_z w32 (pos s.args.v)) ≡ pos s.args.v
same s = to_z-of_z w32 (pos s.args.v) (record { sfits = s.requires.0 })

pub form_at-requires : goal.form_at-requires
form_at-requires c =
    subst (λ (z : ℤ). c.args.choice < length (listing 32 z)) (sym (same c)) c.requires.1

pub returns : goal.returns
unfolding chosen_form_of
returns c =
    c.form_at.ensures ∙ ap (λ (z : ℤ). form_of (get_or (listing 32 z) c.args.choice [])) (same c.before)
