-- Whether a number is 0, by its test, by its words and by its 32 bits. Assumes nothing.
use mathlib.Core.Path.{◌≡◌, refl}
use mathlib.Core.Bool.{true, false, false≢true}
use mathlib.Core.Logic.{◌≢◌}
use Prim.Native.Nat.{zero, suc}
use native.Mathlib.Omega.{arith}
use lib.IntN.{ℤ, pos, negsuc}
use mir.Syntax.{w32}
use mir.Val.{SFits, of_z}
use Rattle.word.specs.Zero.{is_zero}

pub zero_is : (n : ℤ) → is_zero n ≡ true → n ≡ pos 0
zero_is (pos zero) e = refl
zero_is (pos (suc m)) e = absurd (false≢true e)
zero_is (negsuc m) e = absurd (false≢true e)

pub nonzero_is : (n : ℤ) → n ≢ pos 0 → is_zero n ≡ false
nonzero_is (pos zero) h = absurd (h refl)
nonzero_is (pos (suc m)) h = refl
nonzero_is (negsuc m) h = refl

pub zero_word : (n : ℤ) → SFits w32 n → of_z w32 n ≡ 0 → is_zero n ≡ true
zero_word (pos zero) f e = refl
zero_word (pos (suc m)) f e = absurd (omega arith)
zero_word (negsuc m) f e = absurd (omega (arith, f.sfits))

pub nonzero_word : (n : ℤ) → (of_z w32 n ≡ 0 → ⊥) → is_zero n ≡ false
nonzero_word (pos zero) h = absurd (h refl)
nonzero_word (pos (suc m)) h = refl
nonzero_word (negsuc m) h = refl
