-- The leading digits of a value: a factor 2 changes only the exponent's field, and a sign only the highest bit, and neither field is among them. Assumes nothing.
use mathlib.Core.Path.{◌≡◌, refl, sym, ap, ◌∙◌, subst}
use mathlib.Core.Bool.{Bool, true, false, not, cond}
use Prim.Native.Nat.{ℕ, suc, ◌+◌, ◌-◌, ◌*◌, ◌/◌, ◌%◌, ◌^◌, ◌≤◌, ◌<◌}
use native.Mathlib.Nat.{le_trans, le_of_lt, le_of_eq, lt_of_lt_of_le, lt_of_le_of_lt, lt_of_not-le, not-le_of_lt, zero-add, one-mul, mul-one, mul_comm, mul_assoc, mul_right_comm, mul-le-mul_right, mul-pos, mul-div_cancel, mod-lt}
use native.Mathlib.Omega.{arith}
use lib.Dec.{T, lit≤}
use lib.IntN.{ℤ, pos, negsuc, nat_abs}
use lib.Pow.{pow-add, pow_pos, pow_mono, shl_lt, shr_lt, shl-shr}
use lib.Ieee.{Float, nan, inf, fin, Format, binary64, prec, low, hid, top, up, down, size, of_int, is_nan, to_bits}
use lib.Ieee.Digits.{back, size-lt, size-le}
use lib.Ieee.Fits.{down_pos, of_int-fits}
use lib.Ieee.Exact.{HasValue}
use lib.Ieee.Nearest.{div_same}
use lib.Ieee.Bits.{to_bits-lt}
use lib.Ieee.Back.{round_whole}
use Rattle.build_sieve.specs.Inner.{cell_of}

-- ---- 2 ^ t times a number has t more digits
reached : (n t : ℕ) → 0 < n → t ≤ size (n * 2 ^ t)
reached n t h =
    let more : 2 ^ t ≤ n * 2 ^ t = le_trans (le_of_eq (sym (one-mul (2 ^ t)))) (mul-le-mul_right (2 ^ t) h) in
    le_of_lt (lt_of_not-le (λ (g : size (n * 2 ^ t) ≤ t). not-le_of_lt (lt_of_lt_of_le (size-lt (n * 2 ^ t)) (pow_mono g)) more))

size_shifted : (n t : ℕ) → 0 < n → size (n * 2 ^ t) ≡ size n + t
size_shifted n t h =
    let z = size (n * 2 ^ t) in
    let long : t ≤ z = reached n t h in
    let low : z ≤ size n + t = size-le (n * 2 ^ t) (size n + t) (shl_lt (size n) t (size-lt n)) in
    let high : size n ≤ z - t = size-le n (z - t) (subst (λ (k : ℕ). k < 2 ^ (z - t)) (shl-shr n t) (shr_lt (z - t) t (subst (λ (k : ℕ). n * 2 ^ t < 2 ^ k) (sym (back z t long)) (size-lt (n * 2 ^ t))))) in
    meet z (size n) t long low high
  where
    meet : (z y t : ℕ) → t ≤ z → z ≤ y + t → y ≤ z - t → z ≡ y + t
    meet z y t a b c = omega arith

-- ---- the bits of a value that is n times the smallest one
module _ (f : Format) where
  abbrev fields : ℕ → ℕ
  fields n = (size n - prec f) * hid f + n / 2 ^ (size n - prec f)

  -- t more factors 2 add t to the exponent's field
  fields_lifted : (n t : ℕ) → 0 < n → prec f ≤ size n → fields (n * 2 ^ t) ≡ t * hid f + fields n
  fields_lifted n t h long =
      let k = size n - prec f in
      let e : size (n * 2 ^ t) - prec f ≡ k + t = ap (λ (z : ℕ). z - prec f) (size_shifted n t h) ∙ over (size n) (prec f) t long in
      let d : n * 2 ^ t / 2 ^ (k + t) ≡ n / 2 ^ k = div_same (n * 2 ^ t) (2 ^ (k + t)) n (2 ^ k) (pow_pos (k + t)) (pow_pos k) (mul_assoc n (2 ^ t) (2 ^ k) ∙ ap (λ (x : ℕ). n * x) (mul_comm (2 ^ t) (2 ^ k) ∙ sym (pow-add 2 k t))) in
      ap (λ (j : ℕ). j * hid f + n * 2 ^ t / 2 ^ j) e ∙ ap (λ (q : ℕ). (k + t) * hid f + q) d ∙ apart k t (hid f) (n / 2 ^ k)
    where
      over : (z p t : ℕ) → p ≤ z → z + t - p ≡ z - p + t
      over z p t h = omega arith

      apart : (k t h q : ℕ) → (k + t) * h + q ≡ t * h + (k * h + q)
      apart k t h q = omega arith

  bits_of : (s : Bool) (a : ℕ) (x : Float) → HasValue x s a 1 → to_bits f x ≡ cond s (top f) 0 + fields (a * 2 ^ low f)
  unfolding to_bits
  bits_of s a nan v = absurd v
  bits_of s a (inf t) v = absurd v
  bits_of s a (fin t m e) v =
      let u : m * up e * 2 ^ low f / down e ≡ a * 2 ^ low f =
      ap (λ (k : ℕ). k * 2 ^ low f / down e) (sym (mul-one (m * up e)) ∙ v.1) ∙ ap (λ (k : ℕ). k / down e) (mul_right_comm a (down e) (2 ^ low f)) ∙ mul-div_cancel (a * 2 ^ low f) (down_pos e) in
      ap (λ (n : ℕ). cond t (top f) 0 + (size n - prec f) * hid f + n / 2 ^ (size n - prec f)) u
      ∙ ap (λ (b : Bool). cond b (top f) 0 + (size (a * 2 ^ low f) - prec f) * hid f + a * 2 ^ low f / 2 ^ (size (a * 2 ^ low f) - prec f)) v.0
      ∙ joined (cond s (top f) 0) ((size (a * 2 ^ low f) - prec f) * hid f) (a * 2 ^ low f / 2 ^ (size (a * 2 ^ low f) - prec f))
    where
      joined : (x y z : ℕ) → x + y + z ≡ x + (y + z)
      joined x y z = omega arith

positive_bits : (a : ℕ) → a ≤ 2 ^ 53 → to_bits binary64 (of_int binary64 (pos a)) ≡ fields binary64 (a * 2 ^ 1074)
unfolding of_int
positive_bits a h = bits_of binary64 false a _ (round_whole binary64 false a h) ∙ zero-add (fields binary64 (a * 2 ^ 1074))

negative_bits : (k : ℕ) → suc k ≤ 2 ^ 53 → to_bits binary64 (of_int binary64 (negsuc k)) ≡ 2 ^ 63 + fields binary64 (suc k * 2 ^ 1074)
unfolding of_int
negative_bits k h = bits_of binary64 true (suc k) _ (round_whole binary64 true (suc k) h)

-- ---- of the bits, the 20 below the exponent's field
cut_lifted : (t b : ℕ) → (t * 2 ^ 52 + b) / 2 ^ 32 * 2 ^ 12 % 2 ^ 32 ≡ b / 2 ^ 32 * 2 ^ 12 % 2 ^ 32
cut_lifted t b = omega arith

cut_signed : (b : ℕ) → (2 ^ 63 + b) / 2 ^ 32 * 2 ^ 12 % 2 ^ 32 ≡ b / 2 ^ 32 * 2 ^ 12 % 2 ^ 32
cut_signed b = omega arith

cell_is : (shift x : ℕ) → cell_of shift x ≡ to_bits binary64 (of_int binary64 (pos x)) / 2 ^ 32 * 2 ^ 12 % 2 ^ 32 / 2 ^ shift
unfolding cell_of
cell_is shift x = refl

cell_fields : (shift a : ℕ) → a < 2 ^ 32 → cell_of shift a ≡ fields binary64 (a * 2 ^ 1074) / 2 ^ 32 * 2 ^ 12 % 2 ^ 32 / 2 ^ shift
cell_fields shift a h = cell_is shift a ∙ ap (λ (b : ℕ). b / 2 ^ 32 * 2 ^ 12 % 2 ^ 32 / 2 ^ shift) (positive_bits a (le_trans (le_of_lt h) (lit≤ tt)))

-- ---- a factor 2 is no digit
pub cell_lifted : (shift t x : ℕ) → 0 < x → 2 ^ t * x < 2 ^ 32 → cell_of shift (2 ^ t * x) ≡ cell_of shift x
cell_lifted shift t x h small =
    let n = x * 2 ^ 1074 in
    let less : x < 2 ^ 32 = lt_of_le_of_lt (le_trans (le_of_eq (sym (one-mul x))) (mul-le-mul_right x (pow_pos t))) small in
    let long : 53 ≤ size n = le_trans (lit≤ tt) (reached x 1074 h) in
    let e : 2 ^ t * x * 2 ^ 1074 ≡ n * 2 ^ t = ap (λ (k : ℕ). k * 2 ^ 1074) (mul_comm (2 ^ t) x) ∙ mul_right_comm x (2 ^ t) (2 ^ 1074) in
    cell_fields shift (2 ^ t * x) small
    ∙ ap (λ (b : ℕ). b / 2 ^ 32 * 2 ^ 12 % 2 ^ 32 / 2 ^ shift) (ap (fields binary64) e ∙ fields_lifted binary64 n t (mul-pos h (pow_pos 1074)) long)
    ∙ ap (λ (b : ℕ). b / 2 ^ shift) (cut_lifted t (fields binary64 n))
    ∙ sym (cell_fields shift x less)

-- ---- a sign is no digit
negative : (shift k : ℕ) → suc k < 2 ^ 32 → to_bits binary64 (of_int binary64 (negsuc k)) / 2 ^ 32 * 2 ^ 12 % 2 ^ 32 / 2 ^ shift ≡ cell_of shift (suc k)
negative shift k h =
    ap (λ (b : ℕ). b / 2 ^ 32 * 2 ^ 12 % 2 ^ 32 / 2 ^ shift) (negative_bits k (le_trans (le_of_lt h) (lit≤ tt)))
    ∙ ap (λ (b : ℕ). b / 2 ^ shift) (cut_signed (fields binary64 (suc k * 2 ^ 1074)))
    ∙ sym (cell_fields shift (suc k) h)

-- whatever the sign
pub cell_of_lem : (shift : ℕ) (z : ℤ) → nat_abs z < 2 ^ 32 → to_bits binary64 (of_int binary64 z) / 2 ^ 32 * 2 ^ 12 % 2 ^ 32 / 2 ^ shift ≡ cell_of shift (nat_abs z)
cell_of_lem shift (pos n) h = sym (cell_is shift n)
cell_of_lem shift (negsuc k) h = negative shift k h

-- ---- 32 places, less the lowest ones
pub cell_low : (shift x : ℕ) → shift ≤ 32 → cell_of shift x < 2 ^ (32 - shift)
cell_low shift x h =
    let b = to_bits binary64 (of_int binary64 (pos x)) / 2 ^ 32 * 2 ^ 12 in
    subst (λ (c : ℕ). c < 2 ^ (32 - shift)) (sym (cell_is shift x)) (shr_lt (32 - shift) shift (subst (λ (j : ℕ). b % 2 ^ 32 < 2 ^ j) (sym (back 32 shift h)) (mod-lt b (pow_pos 32))))

-- ---- a whole number is written as 64 bits
value_number : (x : Float) (s : Bool) (a c : ℕ) → HasValue x s a c → T (not (is_nan x))
unfolding is_nan
value_number nan s a c v = absurd v
value_number (inf t) s a c v = absurd v
value_number (fin t m e) s a c v = tt

pub whole_number : (z : ℤ) → nat_abs z < 2 ^ 32 → T (not (is_nan (of_int binary64 z)))
unfolding of_int
whole_number (pos n) h = value_number _ false n 1 (round_whole binary64 false n (le_trans (le_of_lt h) (lit≤ tt)))
whole_number (negsuc k) h = value_number _ true (suc k) 1 (round_whole binary64 true (suc k) (le_trans (le_of_lt h) (lit≤ tt)))

pub high_half : (z : ℤ) → to_bits binary64 (of_int binary64 z) / 2 ^ 32 < 2 ^ 32
high_half z = shr_lt 32 32 (to_bits-lt binary64 (of_int binary64 z) (of_int-fits binary64 z))
