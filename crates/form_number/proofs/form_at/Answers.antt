-- `form_number::form_at` meets its contract: the canonical form is the first of every listing. Assumes nothing.
use Rattle.std.proofs.Common.{◌≡◌, ℕ, List, [], get_or, ℤ, sym, ap, ◌∙◌, w32, SFits}
use Rattle.word.proofs.Bounds.{i32_coefficient, coefficient_magnitude}
use Rattle.signed_digit.specs.String.{DigitString}
use Rattle.signed_digit.specs.CanonicalForm.{canonical}
use Rattle.signed_digit.specs.Forms.{listing}
use Rattle.signed_digit.proofs.Coefficients.{canonical_32}
use Rattle.form_masks.specs.Form.{form_of}
use Rattle.form_listing.proofs.Machine.{read_once}
use Rattle.form_number.proofs.form_at.Goals as goal

-- the first form
first_is : (n : ℤ) → SFits w32 n → canonical 32 n ≡ get_or (listing 32 n) 0 []
first_is n r = sym (ap (λ (l : List DigitString). get_or l 0 []) (canonical_32 n (coefficient_magnitude n (i32_coefficient n r))).first.1)

pub returns-then-number-eq0 : goal.returns-then-number-eq0
returns-then-number-eq0 c =
    let n = c.args.n in
    c.canonical.ensures.masks
    ∙ ap (λ (z : ℤ). form_of (canonical 32 z)) (read_once n c.ranges.n)
    ∙ ap form_of (first_is n c.ranges.n)
    ∙ ap (λ (k : ℕ). form_of (get_or (listing 32 n) k [])) (sym c.if-number-eq0.true)
