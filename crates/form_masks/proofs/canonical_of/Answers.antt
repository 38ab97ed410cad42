-- `form_masks::canonical_of` meets its contract. Assumes nothing.
use mathlib.Core.Path.{◌≡◌, ap₂}
use Prim.Native.Nat.{ℕ, ◌+◌, ◌*◌, ◌-◌, ◌/◌}
use native.Mathlib.Omega.{arith}
use lib.Bits.{bit_xor}
use Rattle.signed_digit.specs.Masks.{plus_mask, minus_mask}
use Rattle.signed_digit.specs.CanonicalForm.{canonical_nat}
use Rattle.form_masks.proofs.CanonicalMasks.{canonical_masks}
use Rattle.form_masks.proofs.canonical_of.Goals as goal

pub returns : goal.returns
returns c =
    let s = canonical_masks 32 c.args.m (omega (arith, c.requires)) in
    let both : ℕ = bit_xor (3 * c.args.m) c.args.m / 2 in
    let p : (both + c.args.m) / 2 ≡ plus_mask (canonical_nat 32 c.args.m) = omega arith in
    let q : both - (both + c.args.m) / 2 ≡ minus_mask (canonical_nat 32 c.args.m) = omega arith in
    ap₂ (λ (x y : ℕ). record { plus = x; minus = y }) p q
