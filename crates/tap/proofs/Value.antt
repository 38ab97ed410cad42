-- A tap times 2 ^ F, exactly; rounding from 2 ^ 32 on, and of either sign. Assumes nothing.
use mathlib.Core.Path.{◌≡◌, refl, sym, ap, ◌∙◌, subst}
use mathlib.Core.Logic.{◌⊎◌, inl, inr}
use mathlib.Core.Bool.{Bool, true, false, ◌&&◌, ◌||◌, cond}
use Prim.Native.Nat.{ℕ, zero, suc, ◌+◌, ◌-◌, ◌*◌, ◌/◌, ◌%◌, ◌^◌, ◌≤◌, ◌<◌, compare}
use native.Mathlib.Nat.{le_trans, le_of_eq, le_of_lt, le_of_suc-le-suc, lt_of_lt_of_le, lt_of_le_of_lt, lt_of_not-le, lt_irrefl, zero-lt-suc, mul-one, one-mul, mul_assoc, mul_right_comm, mul-le-mul_right, mul-lt-mul_of_pos_right, lt_of_mul-lt-mul_right}
use lib.IntN.{ℤ, pos, negsuc}
use lib.Dec.{T, leb, ltb, eqb, ltb→lt, leb→le, eqb→eq, lit≤, lit<}
use lib.Pow.{pow-add, pow_pos, pow-lt}
use lib.Ieee.{Float, nan, inf, fin, binary64, up, down, round, nearest, size, units, odd, mul, fits, lt, le, of_bits}
use lib.Ieee.Fits.{and_l, and_r, down_pos, up_pos}
use lib.Ieee.Bits.{is_false}
use lib.Ieee.Digits.{back}
use lib.Ieee.Exact.{HasValue, round_exact}
use lib.Ieee.Order.{round_mono}
use lib.Ieee.Positive.{above_of_le}
use lib.Arith.{le→nltb}
use Rattle.tap.specs.Rounding.{abs_of}

-- ---- what fitting binary64 says of m and e
pow_le_back : (a l : ℕ) → 2 ^ a ≤ 2 ^ l → a ≤ l
pow_le_back a l h = le_of_suc-le-suc (lt_of_not-le (λ (g : suc l ≤ a). lt_irrefl (2 ^ l) (lt_of_lt_of_le (pow-lt g) h)))

pub held : (s : Bool) (m : ℕ) (e : ℤ) → T (fits binary64 (fin s m e)) → (m < 2 ^ 53) × (down e ≤ 2 ^ 1074)
unfolding fits
held s zero e t =
    let h : down e ≤ up e * down e = le_trans (le_of_eq (sym (one-mul (down e)))) (mul-le-mul_right (down e) (up_pos e)) in
    (lit< tt, le_trans h (le_trans (le_of_eq (eqb→eq (up e * down e) 1 t)) (lit≤ tt)))
held s (suc m) e t =
    let A = eqb (suc m % 2) 1 in
    let B = ltb (suc m) (2 ^ 53) in
    let C = leb (down e) (2 ^ 1074) in
    let D = ltb (suc m * up e) (2 ^ 1024 * down e) in (
      ltb→lt (suc m) (2 ^ 53) (and_r A B (and_l (A && B) C (and_l (A && B && C) D t))),
      leb→le (down e) (2 ^ 1074) (and_r (A && B) C (and_l (A && B && C) D t)),
    )

-- 2 ^ e is 2 ^ j smallest values
pub place : (e : ℤ) → down e ≤ 2 ^ 1074 → (j : ℕ) × (up e * 2 ^ 1074 ≡ 2 ^ j * down e)
place (pos a) h = (a + 1074, sym (pow-add 2 a 1074) ∙ sym (mul-one (2 ^ (a + 1074))))
place (negsuc a) h = (
  1074 - suc a,
  one-mul (2 ^ 1074) ∙ ap (λ (x : ℕ). 2 ^ x) (sym (back 1074 (suc a) (pow_le_back (suc a) 1074 h))) ∙ pow-add 2 (1074 - suc a) (suc a),
)

-- ---- the product with 2 ^ k is one rounding
pub scaled_is : (s : Bool) (m : ℕ) (e : ℤ) (k : ℕ) → mul binary64 (fin s m e) (fin false 1 (pos k)) ≡ round binary64 s (m * up e * 2 ^ k) (down e)
unfolding mul
scaled_is true m e k = ap (λ (x : ℕ). round binary64 true (m * up e * x) (down e * 1)) (one-mul (2 ^ k)) ∙ ap (λ (x : ℕ). round binary64 true (m * up e * 2 ^ k) x) (mul-one (down e))
scaled_is false m e k = ap (λ (x : ℕ). round binary64 false (m * up e * x) (down e * 1)) (one-mul (2 ^ k)) ∙ ap (λ (x : ℕ). round binary64 false (m * up e * 2 ^ k) x) (mul-one (down e))

-- and it changes nothing, below 2 ^ 33
pub scaled_exact : (s : Bool) (m : ℕ) (e : ℤ) (k : ℕ) → T (fits binary64 (fin s m e)) → m * up e * 2 ^ k < 2 ^ 33 * down e
    → HasValue (mul binary64 (fin s m e) (fin false 1 (pos k))) s (m * up e * 2 ^ k) (down e)
scaled_exact s m e k t h =
    let p = place e (held s m e t).1 in
    let j = p.0 in
    let a = m * up e * 2 ^ k in
    let v : a * 2 ^ 1074 ≡ m * 2 ^ (j + k) * down e =
    mul_right_comm (m * up e) (2 ^ k) (2 ^ 1074)
    ∙ ap (λ (x : ℕ). x * 2 ^ k) (mul_assoc m (up e) (2 ^ 1074) ∙ ap (λ (x : ℕ). m * x) p.1 ∙ sym (mul_assoc m (2 ^ j) (down e)))
    ∙ mul_right_comm (m * 2 ^ j) (down e) (2 ^ k)
    ∙ ap (λ (x : ℕ). x * down e) (mul_assoc m (2 ^ j) (2 ^ k) ∙ ap (λ (x : ℕ). m * x) (sym (pow-add 2 j k))) in
    let w : m * 2 ^ (j + k) < 2 ^ 33 * 2 ^ 1074 =
    lt_of_mul-lt-mul_right (down e) (lt_of_le_of_lt (le_of_eq (sym v)) (lt_of_lt_of_le (mul-lt-mul_of_pos_right h (pow_pos 1074)) (le_of_eq (mul_right_comm (2 ^ 33) (down e) (2 ^ 1074))))) in
    subst (λ (x : Float). HasValue x s a (down e)) (sym (scaled_is s m e k))
    (round_exact binary64 s a (down e) m (j + k) (down_pos e) (held s m e t).0 (lt_of_lt_of_le w (lit≤ tt)) v)

-- ---- at 2 ^ 32 and above
abbrev pub two_to : ℕ → Float
two_to w = fin false 1 (pos w)

two32 : round binary64 false (2 ^ 32) 1 ≡ two_to 32
unfolding round
two32 = refl

or-false : (a b : ℕ) → T (leb (suc a) b) ⊎ T (eqb a b) → a ≤ b
or-false a b (inl t) = le_of_lt (ltb→lt a b t)
or-false a b (inr t) = le_of_eq (eqb→eq a b t)

not_under : (y : Float) → T (le (two_to 32) y) → lt y (two_to 32) ≡ false
unfolding le lt
not_under nan t = refl
not_under (inf true) t = absurd t
not_under (inf false) t = refl
not_under (fin true n g) t = absurd (above_of_le (two_to 32) (fin true n g) tt (unfold le in t))
not_under (fin false n g) t = is_false (ltb (n * up g * 1) (1 * 2 ^ 32 * down g)) (le→nltb (n * up g * 1) (1 * 2 ^ 32 * down g) (at_most (1 * 2 ^ 32 * down g) (n * up g * 1) t))
  where
    open_or : (a b : Bool) → T (a || (b && true)) → T a ⊎ T b
    open_or true b t = inl tt
    open_or false true t = inr tt
    open_or false false t = absurd t

    at_most : (a b : ℕ) → T (ltb a b || (eqb a b && true)) → a ≤ b
    at_most a b t = or-false a b (open_or (ltb a b) (eqb a b) t)

pub over : (a d : ℕ) → 0 < d → 2 ^ 32 * d ≤ a → lt (round binary64 false a d) (two_to 32) ≡ false
over a d D h =
    not_under (round binary64 false a d)
    (subst (λ (z : Float). T (le z (round binary64 false a d))) two32 (round_mono binary64 (2 ^ 32) 1 a d (zero-lt-suc 0) D (le_trans h (le_of_eq (sym (mul-one a))))))

-- ---- rounding keeps the sign, and its size does not turn on it
odd_abs : (d : ℕ) (s : Bool) (q k l : ℕ) → abs_of (odd d s q k l) ≡ odd d false q k l
unfolding odd
odd_abs d s zero k l = refl
odd_abs d s (suc q) k l = refl

units_abs : (s : Bool) (q k : ℕ) → abs_of (units binary64 s q k) ≡ units binary64 false q k
unfolding units
units_abs s q k = go (ltb (q * 2 ^ k) (2 ^ 2098)) (odd_abs 54 s q k 1074)
  where
    go : (b : Bool) → abs_of (odd 54 s q k 1074) ≡ odd 54 false q k 1074 → abs_of (cond b (odd 54 s q k 1074) (inf s)) ≡ cond b (odd 54 false q k 1074) (inf false)
    go true h = h
    go false h = refl

pub round_abs : (s : Bool) (a b : ℕ) → abs_of (round binary64 s a b) ≡ round binary64 false a b
unfolding round
round_abs s a b =
    let n = a * 2 ^ 1074 in
    let k = size (n / b) - 53 in
    let u = b * 2 ^ k in
    units_abs s (nearest (n / u) (compare (n % u * 2) u)) k

-- ---- +0
abbrev pub nought : Float
nought = fin false 0 (pos 0)

-- 0.0 by its bit pattern, as the code has it
pub zero_is : of_bits binary64 0 ≡ nought
unfolding of_bits
zero_is = refl
