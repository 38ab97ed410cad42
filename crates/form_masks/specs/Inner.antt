-- What the search for the lowest place in both masks goes by. Definitions of the algorithm's own.
use Rattle.std.specs.Prelude.{◌≡◌, ℕ}
use Rattle.refusal.specs.declared.Refusal.{Refusal}
use Rattle.refusal.specs.Table.{number_of, place_of}
use Rattle.refusal.specs.Answer.{Place, at_place, lowest}
use Rattle.signed_digit.specs.Masks.{holds}
use Rattle.form_masks.specs.declared.Form.{Form}
use Rattle.form_masks.specs.Form.{places_from, overlap}

-- the lowest of p places that a mask holds
unfoldable pub lowest_in : ℕ → ℕ → Place
lowest_in p mask = lowest (holds mask) (places_from 0 p)

-- the refusal is that of masks that overlap, at their lowest place in common
pub record OverlapTold (form : Form) (refusal : Refusal) : Type 0 where
  pub number : number_of refusal ≡ 8
  pub place : at_place (place_of refusal) ≡ overlap form
