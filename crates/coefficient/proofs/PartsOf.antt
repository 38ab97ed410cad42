-- The sign, odd part and shift of any reduction of n are those that specs/Parts.antt defines. Assumes nothing.
use mathlib.Core.Path.{◌≡◌, refl, sym, ap, ◌∙◌}
use mathlib.Core.Bool.{false}
use mathlib.Core.Logic.{◌≢◌}
use Prim.Native.Nat.{ℕ, zero, suc, ◌*◌, ◌^◌, ◌≤◌, ◌<◌}
use native.Mathlib.Nat.{one-mul}
use native.Mathlib.Omega.{arith}
use lib.Count.{count_trailing_zeros}
use lib.IntN.{ℤ, pos, negsuc, neg_ℤ, nat_abs, ◌*ℤ◌}
use lib.Pow.{shl-shr}
use Rattle.word.specs.Zero.{is_zero}
use Rattle.word.proofs.LowZeros.{low_zeros, product_above, power_above, exponent_below}
use Rattle.word.proofs.Multiples.{negative_times}
use Rattle.signed_digit.specs.Reduction.{Sign, positive, negative, sign_value, Reduction}
use Rattle.signed_digit.proofs.Reduction.{zero_irreducible}
use Rattle.coefficient.specs.Parts.{no_odd_part, parts, sign_of, shift_of, odd_part_of, parts_of}

-- ---- a sign and a magnitude
abbrev signed : Sign → ℕ → ℤ
signed positive m = pos m
signed negative m = neg_ℤ (pos m)

product_signed : (s : Sign) (x y : ℕ) → sign_value s *ℤ pos x *ℤ pos y ≡ signed s (x * y)
product_signed positive x y = ap (λ (z : ℕ). pos (z * y)) (one-mul x)
product_signed negative x y = negative_times (pos y) (pos (1 * x)) ∙ ap (λ (z : ℕ). neg_ℤ (pos (z * y))) (one-mul x)

signed_size : (s : Sign) (m : ℕ) → nat_abs (signed s m) ≡ m
signed_size positive m = refl
signed_size negative zero = refl
signed_size negative (suc m) = refl

signed_sign : (s : Sign) (m : ℕ) → 0 < m → sign_of (signed s m) ≡ s
signed_sign positive m h = refl
signed_sign negative zero h = absurd (omega arith)
signed_sign negative (suc m) h = refl

nonzero : (n : ℤ) → Reduction n → is_zero n ≡ false
nonzero (pos zero) r = absurd (zero_irreducible r)
nonzero (pos (suc m)) r = refl
nonzero (negsuc m) r = refl

-- ---- parts apart from each other
pub no_parts : (s : Sign) (x i : ℕ) → no_odd_part ≡ parts s x i → ⊥
no_parts s x i e = let z : ◌≡◌ {A = ℕ} 0 1 = cc in omega arith

pub same_parts : (s t : Sign) (x y i j : ℕ) → parts s x i ≡ parts t y j → (s ≡ t) × (x ≡ y) × (i ≡ j)
same_parts s t x y i j e = (cc, cc, cc)

-- zero alone has no odd part
pub zero_parts : (n : ℤ) → parts_of n ≡ no_odd_part → n ≡ pos 0
unfolding parts_of
zero_parts (pos zero) e = refl
zero_parts (pos (suc m)) e = absurd (no_parts (sign_of (pos (suc m))) (odd_part_of (pos (suc m))) (shift_of (pos (suc m))) (sym e))
zero_parts (negsuc m) e = absurd (no_parts (sign_of (negsuc m)) (odd_part_of (negsuc m)) (shift_of (negsuc m)) (sym e))

pub not_zero : (n : ℤ) (s : Sign) (x i : ℕ) → parts_of n ≡ parts s x i → n ≢ pos 0
unfolding parts_of
not_zero n s x i e z = no_parts s x i (sym (ap parts_of z) ∙ e)

-- ---- the parts of a reduction
module _ (n : ℤ) (r : Reduction n) where
  is_signed : n ≡ signed r.sign (r.odd_part * 2 ^ r.shift)
  is_signed = r.product ∙ product_signed r.sign r.odd_part (2 ^ r.shift)

  size_is : nat_abs n ≡ r.odd_part * 2 ^ r.shift
  size_is = ap nat_abs is_signed ∙ signed_size r.sign (r.odd_part * 2 ^ r.shift)

  within_size : (r.odd_part ≤ nat_abs n) × (2 ^ r.shift ≤ nat_abs n)
  within_size = rw size_is (product_above r.odd_part r.shift (omega (arith, r.odd)))

  shift_below : r.shift < nat_abs n
  shift_below = omega (arith, within_size, power_above r.shift)

  sign_is : sign_of n ≡ r.sign
  sign_is = ap sign_of is_signed ∙ signed_sign r.sign (r.odd_part * 2 ^ r.shift) (omega (arith, size_is, shift_below))

  pub zeros_are : (k : ℕ) → r.shift < k → count_trailing_zeros k (nat_abs n) ≡ r.shift
  zeros_are k h = ap (count_trailing_zeros k) size_is ∙ low_zeros k r.odd_part r.shift r.odd h

  pub shift_is : shift_of n ≡ r.shift
  unfolding shift_of
  shift_is = zeros_are (nat_abs n) shift_below

  odd_part_is : odd_part_of n ≡ r.odd_part
  unfolding odd_part_of
  odd_part_is = rw (shift_is, size_is) (shl-shr r.odd_part r.shift)

  pub reduction_parts : parts_of n ≡ parts r.sign r.odd_part r.shift
  unfolding parts_of
  reduction_parts = rw (nonzero n r, sign_is, shift_is, odd_part_is)

  -- the greatest magnitude of a coefficient, 2^31, is even
  pub reduction_bounds : nat_abs n ≤ 2 ^ 31 → (r.odd_part < 2 ^ 31) × (r.shift ≤ 31)
  reduction_bounds h = (omega (arith, within_size, r.odd), omega (arith, exponent_below r.shift 32 (omega (arith, within_size))))
