-- A finite float by its bits. Assumes nothing.
use mathlib.Core.Path.{◌≡◌, refl, sym, ap, ◌∙◌}
use mathlib.Core.Bool.{Bool, true, false, not, cond, true≢false}
use Prim.Native.Nat.{ℕ, zero, suc, ◌+◌, ◌/◌, ◌%◌, ◌^◌}
use lib.Pow.{field}
use lib.Dec.{T, eqb, leb}
use lib.Ieee.{Float, binary64, nan, inf, fin, is_nan, odd, of_fields, of_bits, to_bits, fits, top, hid}
use lib.Ieee.Bits.{of_bits-to_bits}
use Rattle.tap.specs.Rounding.{finite}

pub nan_never : (x : Float) (b : Bool) → is_nan x ≡ b → b ≡ true → false ≡ finite x
unfolding is_nan
nan_never nan b e h = refl
nan_never (inf s) b e h = refl
nan_never (fin s m e) b p h = absurd (true≢false (sym h ∙ sym p))

odd_finite : (d : ℕ) (s : Bool) (q k l : ℕ) → finite (odd d s q k l) ≡ true
unfolding odd
odd_finite d s zero k l = refl
odd_finite d s (suc q) k l = refl

pick : (b d s : Bool) (y : Float) → finite y ≡ true → finite (cond b (cond d (inf s) nan) y) ≡ not b
pick true true s y h = refl
pick true false s y h = refl
pick false d s y h = h

fields_finite : (s : Bool) (x t : ℕ) → finite (of_fields binary64 s x t) ≡ not (eqb x 2047)
unfolding of_fields
fields_finite s zero t = odd_finite 53 s t 0 1074
fields_finite s (suc x) t = pick (eqb (suc x) 2047) (eqb t 0) s _ (odd_finite 53 s (2 ^ 52 + t) x 1074)

pub bits_finite : (x : Float) → T (fits binary64 x) → not (eqb (to_bits binary64 x / 2 ^ 52 % 2048) 2047) ≡ finite x
unfolding of_bits
bits_finite x h =
    let b = to_bits binary64 x in
    ap (λ (k : ℕ). not (eqb k 2047)) (sym (field b 11 52))
    ∙ sym (fields_finite (leb (top binary64) b) (b % top binary64 / hid binary64) (b % hid binary64))
    ∙ ap finite (of_bits-to_bits binary64 x h)
