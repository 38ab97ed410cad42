-- Patterns of 64 bits: differences, shifts, and 16 bits made 64. Assumes nothing.
use mathlib.Core.Path.{◌≡◌, refl, ap, ◌∙◌}
use mathlib.Core.Bool.{Bool, true, false, cond}
use Prim.Native.Nat.{ℕ, zero, suc, ◌+◌, ◌-◌, ◌*◌, ◌%◌, ◌^◌, ◌<◌}
use native.Mathlib.Nat.{two-pow-succ, mul-add}
use native.Mathlib.Omega.{arith}
use borrow.Author.Tests.{le-leb, lt-leb}
use lib.Dec.{leb}
use lib.IntN.{ℤ, pos, negsuc, neg_ℤ, ◌-ℤ◌}
use mir.Syntax.{w16}
use mir.Val.{SFits}
use Rattle.network.specs.Evaluation.{shifted_up}
use Rattle.run_convolution.specs.Words.{wrapped}
use Rattle.run_convolution.proofs.Words.{wrapped_add, wrapped_lt}
use Rattle.verilog.specs.Values.{extended, pattern_of}

pub wrapped_negative : (z : ℤ) → (18446744073709551616 - wrapped z) % 18446744073709551616 ≡ wrapped (neg_ℤ z)
wrapped_negative (pos zero) = refl
wrapped_negative (pos (suc n)) = omega arith
wrapped_negative (negsuc n) = omega arith

pub wrapped_difference : (a b : ℤ) → (wrapped a + (18446744073709551616 - wrapped b)) % 18446744073709551616 ≡ wrapped (a -ℤ b)
wrapped_difference a b = omega (arith, wrapped_add a (neg_ℤ b), wrapped_negative b)

pub wrapped_shift : (s : ℕ) (z : ℤ) → wrapped z * 2 ^ s % 18446744073709551616 ≡ wrapped (shifted_up s z)
wrapped_shift zero z = omega (arith, wrapped_lt z)
wrapped_shift (suc s) z =
    let e : wrapped z * 2 ^ suc s ≡ wrapped z * 2 ^ s + wrapped z * 2 ^ s = ap (λ (n : ℕ). wrapped z * n) (two-pow-succ s) ∙ mul-add (wrapped z) (2 ^ s) (2 ^ s) in
    ap (λ (n : ℕ). n % 18446744073709551616) e ∙ omega (arith, wrapped_shift s z, wrapped_add (shifted_up s z) (shifted_up s z))

-- 64 bits as 64 bits
pub same_width : (v : ℕ) → extended true 64 64 v ≡ v
same_width v = go (leb 18446744073709551616 (2 * v))
  where
    go : (b : Bool) → cond b (v + 0) v ≡ v
    go true = omega arith
    go false = refl

-- a sample as 64 bits
pub sample_extended : (x : ℤ) → SFits w16 x → extended true 64 16 (pattern_of 16 x) ≡ wrapped x
sample_extended (pos n) h =
    let l : n < 32768 = h.sfits in
    rw (lt-leb 65536 (2 * (n % 65536)) (omega arith)) (omega arith)
sample_extended (negsuc n) h =
    let l : n < 32768 = h.sfits in
    rw (le-leb 65536 (2 * (65535 - n % 65536)) (omega arith)) (omega arith)
