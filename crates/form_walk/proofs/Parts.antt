-- What the leaf functions of src/lib.rt return. Assumes nothing.
use mathlib.Core.Path.{◌≡◌, refl, ap, ap₂, sym, ◌∙◌}
use Prim.Native.Nat.{ℕ, ◌*◌, ◌<◌, ◌/◌, ◌^◌}
use native.Mathlib.Omega.{arith}
use lib.Bits.{bit_and, bit_or, and_le_l, or_lt}
use lib.IntN.{ℤ, pos, negsuc, nat_abs}
use Rattle.signed_digit.specs.CanonicalForm.{canonical_nat, canonical}
use Rattle.form_masks.specs.declared.Form.{Form}
use Rattle.form_links.specs.Inner.{opposed, alike, links_of, taken_links}
use Rattle.form_links.proofs.LinkMasks.{opposed_links, alike_links, taken_links_lem, taken_small, opposed_negated, taken_negated}
use Rattle.form_links.proofs.LookAhead.{four_times}
use Rattle.form_walk.specs.declared.Chains.{Chains}
use Rattle.form_walk.specs.declared.Walk.{Walk}
use Rattle.form_walk.specs.Inner.{ahead_of, IsTaken, IsStart, start_of}

-- two walks are the same by their numbers
pub walk : {links links' opposite opposite' bit bit' forms forms' moved moved' : ℕ} → links ≡ links' → opposite ≡ opposite' → bit ≡ bit' → forms ≡ forms' → moved ≡ moved'
    → ◌≡◌ {A = Walk} (record { links = links; opposite = opposite; bit = bit; forms = forms; moved = moved })
    (record { links = links'; opposite = opposite'; bit = bit'; forms = forms'; moved = moved' })
walk {links} {links'} {opposite} {opposite'} {bit} {bit'} {forms} {forms'} {moved} {moved'} a b c d e =
    ap₂ (λ (i j : ℕ). record { links = i; opposite = j; bit = bit; forms = forms; moved = moved }) a b
    ∙ ap₂ (λ (i j : ℕ). record { links = links'; opposite = opposite'; bit = i; forms = j; moved = moved }) c d
    ∙ ap (λ (i : ℕ). record { links = links'; opposite = opposite'; bit = bit'; forms = forms'; moved = i }) e

-- ---- `taken`
pub taken_is : (opposite equal : ℕ) → opposite < 2 ^ 32 → equal < 2 ^ 32 → (a b c d : Chains)
    → a ≡ ahead_of 2 (record { taken = opposite; chained = equal }) → b ≡ ahead_of 4 a → c ≡ ahead_of 8 b → d ≡ ahead_of 16 c → IsTaken opposite equal d.taken
taken_is opposite equal h k a b c d ea eb ec ed v l e =
    four_times opposite equal v h k l e
    ∙ sym (ap (λ (x : Chains). x.taken) (ed ∙ ap (ahead_of 16) (ec ∙ ap (ahead_of 8) (eb ∙ ap (ahead_of 4) ea))))

-- ---- `start`
abbrev opposite_in : Form → ℕ
opposite_in form = bit_or (bit_and form.plus (form.minus / 4)) (bit_and form.minus (form.plus / 4))

abbrev equal_in : Form → ℕ
equal_in form = bit_or (bit_and form.plus (form.plus / 4)) (bit_and form.minus (form.minus / 4))

pub either_small : (a b c d : ℕ) → a < 2 ^ 32 → c < 2 ^ 32 → bit_or (bit_and a b) (bit_and c d) < 2 ^ 32
either_small a b c d h k = or_lt 32 (bit_and a b) (bit_and c d) (omega (arith, and_le_l a b)) (omega (arith, and_le_l c d))

pub start_is : (form : Form) (t : ℕ) → IsTaken (opposite_in form) (equal_in form) t
    → IsStart form (record { links = t * 4; opposite = opposite_in form * 4; bit = 1; forms = 1; moved = 0 })
start_is form t h s l e =
    let o : opposite_in form ≡ links_of opposed s = ap opposite_in e ∙ opposed_links s in
    let q : equal_in form ≡ links_of alike s = ap equal_in e ∙ alike_links s in
    let i : taken_links s < 2 ^ 32 = omega (arith, taken_small s, ap (λ (n : ℕ). 2 ^ n) l) in
    let k = taken_links_lem s ∙ sym (ap₂ (λ (x y : ℕ). bit_or x (bit_and y (taken_links s / 4))) o q) in
    walk (ap (λ (x : ℕ). x * 4) (sym (h (taken_links s) i k))) (ap (λ (x : ℕ). x * 4) o) refl refl refl

-- the canonical form of a number starts the walk of its magnitude's
pub start_same : (n : ℤ) → start_of (canonical 32 n) ≡ start_of (canonical_nat 32 (nat_abs n))
start_same (pos m) = refl
start_same (negsuc k) =
    let s = canonical_nat 32 (nat_abs (negsuc k)) in
    walk (ap (λ (x : ℕ). x * 4) (taken_negated s)) (ap (λ (x : ℕ). x * 4) (opposed_negated s)) refl refl refl
