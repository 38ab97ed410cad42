-- A choice and the number of forms. Assumes nothing.
use mathlib.Core.Path.{◌≡◌, refl, sym, ap, ◌∙◌}
use mathlib.Core.Bool.{true, false, not, not-not}
use mathlib.Core.Logic.{◌≢◌}
use Prim.Native.Nat.{ℕ, zero, suc, ◌≤◌, ◌<◌, ◌^◌}
use native.Mathlib.Omega.{arith}
use borrow.Author.Tests.{lt-ltb, ne_eqb}
use lib.Dec.{ltb}
use lib.IntN.{ℤ, pos, negsuc, nat_abs}
use lib.ListN.{length}
use lib.Signed.{nat_abs-le}
use mir.Syntax.{w32}
use mir.Val.{SFits}
use Rattle.signed_digit.specs.Reduction.{Sign}
use Rattle.signed_digit.specs.Forms.{listing}
use Rattle.word.proofs.Bounds.{i32_coefficient}
use Rattle.signed_digit.proofs.Coefficients.{canonical_32}
use Rattle.signed_digit.proofs.Reduction.{reduction}
use Rattle.coefficient.specs.declared.Reduction.{Reduction}
use Rattle.std.specs.Prelude.{Some}
use Rattle.coefficient.specs.Parts.{Parts, no_odd_part, parts, parts_of, parts_in}
use Rattle.coefficient.proofs.PartsOf.{reduction_parts, reduction_bounds}
use Rattle.coefficient.proofs.TheReduction.{answer_right}
use Rattle.build_steps.specs.Answer.{no_such_form}

-- the odd part of a coefficient is below 2^31
pub split_small : (n : ℤ) → SFits w32 n → (r : Reduction) → parts_in (Some r) ≡ parts_of n → r.odd_part < 2 ^ 31
split_small n f r e = ((answer_right n (parts_in (Some r)) (record { split = e })).bounds (i32_coefficient n f)).0

-- every odd part has a form
some_form : (v : ℕ) → v ≤ 2 ^ 31 → 0 < length (listing 32 (pos v))
some_form v h = omega (arith, ap length (canonical_32 (pos v) h).first.1)

part_form : (s : Sign) (v i : ℕ) → v ≤ 2 ^ 31 → no_such_form (parts s v i) 0 ≡ false
unfolding no_such_form
part_form s v i h = ap not (lt-ltb 0 (length (listing 32 (pos v))) (some_form v h))

nonzero_form : (n : ℤ) → SFits w32 n → n ≢ pos 0 → no_such_form (parts_of n) 0 ≡ false
nonzero_form n f z =
    let r = reduction n z in
    let b = reduction_bounds n r (nat_abs-le n f.sfits) in
    ap (λ p. no_such_form p 0) (reduction_parts n r) ∙ part_form r.sign r.odd_part r.shift (omega (arith, b.0))

-- the choice 0 is always there
pub choice_zero : (n : ℤ) → SFits w32 n → no_such_form (parts_of n) 0 ≡ false
unfolding no_such_form parts_of
choice_zero (pos zero) f = refl
choice_zero (pos (suc m)) f = nonzero_form (pos (suc m)) f (λ e. omega (arith, ap nat_abs e))
choice_zero (negsuc m) f = nonzero_form (negsuc m) f (λ e. omega (arith, ap nat_abs e))

-- another choice for a zero tap
pub no_odd_part_choice : (p : Parts) (k : ℕ) → no_odd_part ≡ p → (k ≡ 0 → ⊥) → no_such_form p k ≡ true
unfolding no_such_form
no_odd_part_choice p k e h = ap (λ (q : Parts). no_such_form q k) (sym e) ∙ ap not (ne_eqb k 0 h)

-- a choice for an odd part with so many forms
pub counted_choice : (p : Parts) (s : Sign) (v i k count : ℕ) → parts s v i ≡ p → count ≡ length (listing 32 (pos v)) → ltb k count ≡ not (no_such_form p k)
unfolding no_such_form
counted_choice p s v i k count e f =
    ap (λ (n : ℕ). ltb k n) f ∙ sym (not-not (ltb k (length (listing 32 (pos v))))) ∙ ap (λ (q : Parts). not (no_such_form q k)) e
