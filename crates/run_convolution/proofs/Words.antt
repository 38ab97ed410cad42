-- Laws of `wrapped`: it is the word congruent to z modulo 2^64, it goes on as whole sums do, and small numbers are read back. Assumes nothing.
use mathlib.Core.Path.{◌≡◌, refl, sym, ap, ap₂, ◌∙◌}
use mathlib.Core.Bool.{Bool, true, false}
use Prim.Native.Nat.{ℕ, suc, ◌+◌, ◌-◌, ◌*◌, ◌%◌, ◌/◌, ◌<◌, ◌≤◌, ◌^◌}
use native.Mathlib.Omega.{arith}
use borrow.Author.Tests.{ltb-true, ltb-false, lt-ltb, le-ltb}
use lib.Dec.{ltb}
use lib.IntN.{ℤ, pos, negsuc, neg_ℤ, sub_ℕ, ◌+ℤ◌, ◌*ℤ◌, zero-*ℤ, +ℤ_idr}
use mir.Syntax.{w64}
use mir.Val.{SFits, to_z, of_z}
use mir.ValLaws.{to_z-of_z}
use Rattle.run_convolution.specs.Words.{wrapped}

-- a - b where a is less, and where it is not
pub sub_less : (a b : ℕ) → a < b → sub_ℕ a b ≡ negsuc (b - suc a)
sub_less a b h = rw (lt-ltb a b h)

pub sub_more : (a b : ℕ) → b ≤ a → sub_ℕ a b ≡ pos (a - b)
sub_more a b h = rw (le-ltb a b h)

wrapped_sub : (a b : ℕ) (t : Bool) → ltb a (suc b) ≡ t → (wrapped (pos a) + wrapped (negsuc b)) % 2 ^ 64 ≡ wrapped (sub_ℕ a (suc b))
wrapped_sub a b true p = let h : a ≤ b = omega (arith, ltb-true a (suc b) p) in rw (sub_less a (suc b) (omega arith)) (omega arith)
wrapped_sub a b false p = let h : b < a = omega (arith, ltb-false a (suc b) p) in rw (sub_more a (suc b) (omega arith)) (omega arith)

pub wrapped_add : (a b : ℤ) → (wrapped a + wrapped b) % 2 ^ 64 ≡ wrapped (a +ℤ b)
wrapped_add (pos a) (pos b) = omega arith
wrapped_add (pos a) (negsuc b) = wrapped_sub a b (ltb a (suc b)) refl
wrapped_add (negsuc a) (pos b) = omega (arith, wrapped_sub b a (ltb b (suc a)) refl)
wrapped_add (negsuc a) (negsuc b) = omega arith

-- it is a word
pub wrapped_lt : (z : ℤ) → wrapped z < 2 ^ 64
wrapped_lt (pos n) = omega arith
wrapped_lt (negsuc n) = omega arith

pub wrapped_word : (n : ℕ) → n < 2 ^ 64 → wrapped (pos n) ≡ n
wrapped_word n h = omega arith

-- how many times 2^64 lie between z and its word
abbrev pub turns : ℤ → ℤ
turns (pos n) = pos (n / 2 ^ 64)
turns (negsuc n) = negsuc (n / 2 ^ 64)

-- it differs from z by a multiple of 2^64
pub wrapped_congruent : (z : ℤ) → z ≡ pos (wrapped z) +ℤ turns z *ℤ pos (2 ^ 64)
wrapped_congruent (pos n) = let e : n ≡ n % 2 ^ 64 + n / 2 ^ 64 * 2 ^ 64 = omega arith in ap pos e
wrapped_congruent (negsuc n) =
    let a = 2 ^ 64 - 1 - n % 2 ^ 64 in
    let b = n / 2 ^ 64 * 2 ^ 64 + (2 ^ 64 - 1) in
    let e : suc (n / 2 ^ 64) * 2 ^ 64 ≡ suc b = omega arith in
    let m : a < suc b = omega arith in
    let q : n ≡ suc b - suc a = omega arith in
    ap negsuc q ∙ sym (sub_less a (suc b) m) ∙ ap (λ k. pos a +ℤ neg_ℤ (pos k)) (sym e)

-- a wrapped sum goes on as the whole sum does
pub wrapped_next : (s z : ℤ) → wrapped (pos (wrapped s) +ℤ z) ≡ wrapped (s +ℤ z)
wrapped_next s z =
    sym (wrapped_add (pos (wrapped s)) z) ∙ ap (λ n. (n + wrapped z) % 2 ^ 64) (wrapped_word (wrapped s) (wrapped_lt s)) ∙ wrapped_add s z

-- a product with the coefficient 0 adds nothing
pub wrapped_none : (n : ℕ) (x : ℤ) → n < 2 ^ 64 → wrapped (pos n +ℤ pos 0 *ℤ x) ≡ n
wrapped_none n x h = ap (λ z. wrapped (pos n +ℤ z)) (zero-*ℤ x) ∙ ap wrapped (+ℤ_idr (pos n)) ∙ wrapped_word n h

-- a number of 64 bits is its own pattern, and is read back
pub wrapped_fits : (z : ℤ) → SFits w64 z → wrapped z ≡ of_z w64 z
wrapped_fits (pos n) h = omega (arith, h.sfits)
wrapped_fits (negsuc n) h = omega (arith, h.sfits)

pub wrapped_exact : (z : ℤ) → SFits w64 z → to_z w64 (wrapped z) ≡ z
wrapped_exact z h = ap (to_z w64) (wrapped_fits z h) ∙ to_z-of_z w64 z h

-- the sum of a word and the pattern of a number
pub wrapped_sum : (r : ℕ) (z : ℤ) → r < 2 ^ 64 → SFits w64 z → (r + of_z w64 z) % 2 ^ 64 ≡ wrapped (pos r +ℤ z)
wrapped_sum r z l h = ap₂ (λ a b. (a + b) % 2 ^ 64) (sym (wrapped_word r l)) (sym (wrapped_fits z h)) ∙ wrapped_add (pos r) z
