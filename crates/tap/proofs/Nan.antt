-- The bit patterns of a not-a-number. Assumes nothing.
use mathlib.Core.Path.{◌≡◌, refl, sym, ap, ◌∙◌, subst}
use mathlib.Core.Bool.{Bool, true, not, false≢true}
use Prim.Native.Nat.{ℕ, ◌≤◌, ◌<◌}
use lib.Dec.{T, ltb}
use lib.Bits.{bit_and, and_mask}
use lib.Ieee.{Float, nan, inf, fin, binary64, is_nan, nan_bits, of_bits}
use lib.Ieee.Bits.{nan_bits_is, nan_bits_above}
use borrow.Author.Tests.{lt-ltb, le-ltb}

nan_of : (x : Float) → is_nan x ≡ true → x ≡ nan
unfolding is_nan
nan_of nan h = refl
nan_of (inf s) h = absurd (false≢true h)
nan_of (fin s m e) h = absurd (false≢true h)

-- `f64::NAN`
no_number : of_bits binary64 0x7ff8_0000_0000_0000 ≡ nan
unfolding of_bits
no_number = refl

nan_test : (b : ℕ) → nan_bits binary64 b ≡ ltb 0x7ff0_0000_0000_0000 (bit_and b 0x7fff_ffff_ffff_ffff)
nan_test b = nan_bits_above binary64 b ∙ ap (λ (x : ℕ). ltb 0x7ff0_0000_0000_0000 x) (sym (and_mask b 63))

pub nan_read : (b : ℕ) → 0x7ff0_0000_0000_0000 < bit_and b 0x7fff_ffff_ffff_ffff → of_bits binary64 0x7ff8_0000_0000_0000 ≡ of_bits binary64 b
nan_read b h = no_number ∙ sym (nan_of (of_bits binary64 b) (sym (nan_bits_is binary64 b) ∙ nan_test b ∙ lt-ltb _ _ h))

pub not_nan : (b : ℕ) → bit_and b 0x7fff_ffff_ffff_ffff ≤ 0x7ff0_0000_0000_0000 → T (not (nan_bits binary64 b))
not_nan b h = subst (λ (t : Bool). T (not t)) (sym (nan_test b ∙ le-ltb _ _ h)) tt
