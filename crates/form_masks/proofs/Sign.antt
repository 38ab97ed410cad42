-- The canonical form of a whole number by its sign and magnitude. Assumes nothing.
use mathlib.Core.Path.{◌≡◌, refl, sym, ap, ap₂, subst}
use mathlib.Core.Bool.{true, false}
use Prim.Native.Nat.{ℕ, suc}
use native.Mathlib.Omega.{arith}
use borrow.Author.Tests.{ltb-true}
use lib.Dec.{T}
use lib.IntN.{ℤ, pos, negsuc, nat_abs}
use lib.Signed.{lt_z}
use Rattle.signed_digit.specs.CanonicalForm.{canonical_nat, canonical}
use Rattle.signed_digit.proofs.Strings.{negated_is}
use Rattle.form_masks.specs.declared.Form.{Form}
use Rattle.form_masks.specs.Form.{form_of}

pub not_negative : (n : ℤ) → lt_z n (pos 0) ≡ false → n ≡ pos (nat_abs n)
not_negative (pos k) h = refl
not_negative (negsuc k) h = absurd (subst T h tt)

-- the masks of a negative number are those of its magnitude, exchanged
abbrev pub exchanged : Form → Form
exchanged form = record { plus = form.minus; minus = form.plus }

pub canonical_negative : (n : ℤ) → lt_z n (pos 0) ≡ true → exchanged (form_of (canonical_nat 32 (nat_abs n))) ≡ form_of (canonical 32 n)
canonical_negative (pos k) h = absurd (omega (arith, ltb-true k 0 h))
canonical_negative (negsuc k) h =
    let s = negated_is (canonical_nat 32 (suc k)) in
    ap₂ (λ (x y : ℕ). record { plus = x; minus = y }) (sym s.plus) (sym s.minus)

pub canonical_not_negative : (n : ℤ) → lt_z n (pos 0) ≡ false → form_of (canonical_nat 32 (nat_abs n)) ≡ form_of (canonical 32 n)
canonical_not_negative n h = sym (ap (λ (z : ℤ). form_of (canonical 32 z)) (not_negative n h))
