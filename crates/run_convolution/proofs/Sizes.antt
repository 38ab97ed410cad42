-- Magnitudes of sums and products. Assumes nothing.
use mathlib.Core.Path.{◌≡◌, refl}
use mathlib.Core.Bool.{Bool, true, false}
use Prim.Native.Nat.{ℕ, zero, suc, ◌+◌, ◌*◌, ◌<◌, ◌≤◌, ◌^◌}
use native.Mathlib.Nat.{mul-le-mul}
use native.Mathlib.Omega.{arith}
use borrow.Author.Tests.{ltb-true, ltb-false}
use lib.Dec.{ltb}
use lib.IntN.{ℤ, pos, negsuc, neg_ℤ, nat_abs, sub_ℕ, ◌+ℤ◌, ◌*ℤ◌}
use lib.Signed.{mag}
use mir.Syntax.{w16, w32, w64}
use mir.Val.{SFits}
use Rattle.sequence.specs.Sum.{sum_below}
use Rattle.run_convolution.proofs.Words.{sub_less, sub_more}

abs_neg : (n : ℕ) → nat_abs (neg_ℤ (pos n)) ≡ n
abs_neg zero = refl
abs_neg (suc n) = refl

abs_sub : (a b : ℕ) (t : Bool) → ltb a b ≡ t → nat_abs (sub_ℕ a b) ≤ a + b
abs_sub a b true p = let h : a < b = ltb-true a b p in rw (sub_less a b h) (omega arith)
abs_sub a b false p = let h : b ≤ a = ltb-false a b p in rw (sub_more a b h) (omega arith)

abs_add : (a b : ℤ) → nat_abs (a +ℤ b) ≤ nat_abs a + nat_abs b
abs_add (pos a) (pos b) = omega arith
abs_add (pos a) (negsuc b) = abs_sub a (suc b) (ltb a (suc b)) refl
abs_add (negsuc a) (pos b) = omega (arith, abs_sub b (suc a) (ltb b (suc a)) refl)
abs_add (negsuc a) (negsuc b) = omega arith

abs_mul : (a b : ℤ) → nat_abs (a *ℤ b) ≡ nat_abs a * nat_abs b
abs_mul (pos a) (pos b) = refl
abs_mul (pos a) (negsuc b) = abs_neg (a * suc b)
abs_mul (negsuc a) (pos b) = abs_neg (suc a * b)
abs_mul (negsuc a) (negsuc b) = refl

abs_fits : (z : ℤ) → nat_abs z < 2 ^ 63 → SFits w64 z
abs_fits (pos n) h = record { sfits = omega arith }
abs_fits (negsuc n) h = record { sfits = omega arith }

mag_abs : (z : ℤ) (n : ℕ) → mag z < n → nat_abs z ≤ n
mag_abs (pos k) n h = omega arith
mag_abs (negsuc k) n h = omega arith

-- a coefficient times a sample is at most 2^46 in size
pub product_size : (c x : ℤ) → SFits w32 c → SFits w16 x → nat_abs (c *ℤ x) ≤ 2 ^ 46
product_size c x f g =
    let a : nat_abs c ≤ 2 ^ 31 = mag_abs c (2 ^ 31) f.sfits in
    let b : nat_abs x ≤ 2 ^ 15 = mag_abs x (2 ^ 15) g.sfits in
    omega (arith, abs_mul c x, mul-le-mul a b)

pub product_fits : (c x : ℤ) → SFits w32 c → SFits w16 x → SFits w64 (c *ℤ x)
product_fits c x f g = abs_fits (c *ℤ x) (omega (arith, product_size c x f g))

sum_size : (n : ℕ) (f : ℕ → ℤ) → ((k : ℕ) → nat_abs (f k) ≤ 2 ^ 46) → nat_abs (sum_below n f) ≤ n * 2 ^ 46
sum_size zero f h = omega arith
sum_size (suc n) f h = omega (arith, abs_add (sum_below n f) (f n), h n, sum_size n f h)

-- 256 such products sum up within 64 bits
pub sum_fits : (n : ℕ) (f : ℕ → ℤ) → n ≤ 256 → ((k : ℕ) → nat_abs (f k) ≤ 2 ^ 46) → SFits w64 (sum_below n f)
sum_fits n f l h = abs_fits (sum_below n f) (omega (arith, sum_size n f h))
