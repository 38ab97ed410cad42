-- `form_number::by_links` meets its contract. `note_links` says which links the walk of n has, and `offset_at` what the form of this number has more than the
-- canonical one in both masks (`form_is`). Assumes nothing.
use Rattle.std.proofs.Common.{◌<◌, [], length, get_or, ℤ, refl, sym, ap, ◌∙◌, subst}
use Rattle.signed_digit.specs.Forms.{listing}
use Rattle.form_masks.specs.Form.{form_of}
use Rattle.form_listing.proofs.Machine.{given, bounded, read_once}
use Rattle.form_number.proofs.Masks.{form_is}
use Rattle.form_number.proofs.by_links.Goals as goal

pub returns : goal.returns
returns c =
    let n = c.args.n in
    let k = read_once n c.ranges.n in
    let noted = c.note_links-count in
    let form = c.canonical-first in
    form_is (given n) (bounded n c.ranges.n) noted.new.links noted.result noted.ensures c.args.number
    (subst (λ (z : ℤ). c.args.number < length (listing 32 z)) (sym k) c.requires)
    c.offset_at-offset.result c.offset_at-offset.ensures form.result form.ensures.masks _ _ refl refl
    ∙ ap (λ (z : ℤ). form_of (get_or (listing 32 z) c.args.number [])) k
