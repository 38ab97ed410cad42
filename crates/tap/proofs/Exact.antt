-- The leftover of a binary64 tap is exact: `leftover_exact`. Assumes nothing.
use mathlib.Core.Path.{◌≡◌, sym, ap, ◌∙◌, subst}
use mathlib.Core.Logic.{◌⊎◌, inl, inr}
use mathlib.Core.Bool.{Bool, true, false, not, cond}
use Prim.Native.Nat.{ℕ, zero, suc, ◌+◌, ◌-◌, ◌*◌, ◌^◌, ◌≤◌, ◌<◌}
use native.Mathlib.Nat.{le_trans, le_of_eq, le_of_lt, lt_of_lt_of_le, lt_of_le_of_lt, zero-lt-suc, add-mul, mul-one, one-mul, zero-mul, mul_comm, mul_assoc, mul-le-mul_right, le_of_mul-le-mul_right}
use native.Mathlib.Omega.{arith}
use lib.IntN.{ℤ, pos, negsuc}
use lib.Dec.{T, leb, leb→le, nleb→lt, lit<}
use lib.Pow.{pow-add, pow_pos, pow_mono, shl_lt}
use lib.Ieee.{Float, fin, binary64, up, down, round, fits}
use lib.Ieee.Fits.{round-fits}
use lib.Ieee.Digits.{back}
use lib.Ieee.Exact.{HasValue, round_exact}
use Rattle.word.proofs.Order.{lt_or_le}
use Rattle.tap.specs.Rounding.{nearest_whole, leftover}
use Rattle.tap.proofs.Whole.{nearest_near, nearest_whole_lem}
use Rattle.tap.proofs.Value.{held, place}
use Rattle.tap.proofs.Rest.{sub_mul, leftover_is}

-- ---- the difference, whichever is the larger
abbrev pub apart : ℕ → ℕ → ℕ
apart x y = x - y + (y - x)

-- the sign: the tap's where the tap is at least the whole number in size, and the other one where it is less
abbrev pub side : Bool → ℕ → ℕ → ℕ → Bool
side s a d n = cond (leb (n * d) a) s (not s)

pub one_round : (s : Bool) (a d n : ℕ) → leftover s a d n ≡ round binary64 (side s a d n) (apart a (n * d)) d
one_round s a d n = leftover_is s a d n ∙ go (leb (n * d) a) (λ t. leb_le t) (λ t. leb_lt t)
  where
    leb_le : T (leb (n * d) a) → n * d ≤ a
    leb_le t = leb→le (n * d) a t

    leb_lt : T (not (leb (n * d) a)) → a < n * d
    leb_lt t = nleb→lt (n * d) a t

    go : (b : Bool) → (T b → n * d ≤ a) → (T (not b) → a < n * d)
        → cond b (round binary64 s (a - n * d) d) (round binary64 (not s) (n * d - a) d) ≡ round binary64 (cond b s (not s)) (apart a (n * d)) d
    go true p q = ap (λ (x : ℕ). round binary64 s x d) (left a (n * d) (p tt))
      where
        left : (x y : ℕ) → y ≤ x → x - y ≡ apart x y
        left x y h = omega arith
    go false p q = ap (λ (x : ℕ). round binary64 (not s) x d) (right a (n * d) (q tt))
      where
        right : (x y : ℕ) → x < y → y - x ≡ apart x y
        right x y h = omega arith

-- ---- it is no more than a
no_more : (a d x : ℕ) → x * 2 ≤ a * 2 + d → a * 2 ≤ x * 2 + d → (x ≡ 0) ⊎ (d ≤ x) → apart a x ≤ a
no_more a d x h k (inl z) = omega arith
no_more a d x h k (inr l) = omega arith

none_or_more : (n d : ℕ) → (n * d ≡ 0) ⊎ (d ≤ n * d)
none_or_more zero d = inl (zero-mul d)
none_or_more (suc n) d = inr (le_trans (le_of_eq (sym (one-mul d))) (mul-le-mul_right d (go n)))
  where
    go : (n : ℕ) → 1 ≤ suc n
    go n = omega arith

pub apart_le : (a d : ℕ) → 0 < d → apart a (nearest_whole a d * d) ≤ a
apart_le a d D = let w = nearest_near a d D in no_more a d (nearest_whole a d * d) w.0 w.1 (none_or_more (nearest_whole a d) d)

-- a whole number has nothing left over
whole_apart : (a c d : ℕ) → 0 < d → a ≡ c * d → apart a (nearest_whole a d * d) ≡ 0
whole_apart a c d D h = zero_apart a (nearest_whole a d * d) (h ∙ ap (λ (x : ℕ). x * d) (sym (nearest_whole_lem a c d D h)))
  where
    zero_apart : (x y : ℕ) → x ≡ y → apart x y ≡ 0
    zero_apart x y e = omega arith

-- ---- the leftover is a value of binary64: no digit is rounded away
apart_mul : (x y c : ℕ) → apart (x * c) (y * c) ≡ apart x y * c
apart_mul x y c = sym (add-mul (x - y) (y - x) c ∙ ap (λ (z : ℕ). z + (y - x) * c) (sub_mul x y c) ∙ ap (λ (z : ℕ). x * c - y * c + z) (sub_mul y x c))

zero_value : (s : Bool) (r d : ℕ) → 0 < d → r ≡ 0 → HasValue (round binary64 s r d) s r d
zero_value s r d D z =
    subst (λ (x : ℕ). HasValue (round binary64 s x d) s x d) (sym z)
    (round_exact binary64 s 0 d 0 0 D (lit< tt) (lit< tt) (zero-mul (2 ^ 1074) ∙ sym (zero-mul d)))

-- q * 2 ^ f over 2 ^ (k + 1), for a q of 53 digits
few_value : (s : Bool) (q f k r : ℕ) → f ≤ 31 → q < 2 ^ 53 → 2 ^ suc k ≤ 2 ^ 1074 → r ≡ q * 2 ^ f → HasValue (round binary64 s r (2 ^ suc k)) s r (2 ^ suc k)
few_value s q f k r F Q K e =
    let p = place (negsuc k) K in
    let j = p.0 in
    let v : r * 2 ^ 1074 ≡ q * 2 ^ (f + j) * 2 ^ suc k =
    ap (λ (x : ℕ). x * 2 ^ 1074) e
    ∙ ap (λ (x : ℕ). q * 2 ^ f * x) (sym (one-mul (2 ^ 1074)) ∙ p.1)
    ∙ sym (mul_assoc (q * 2 ^ f) (2 ^ j) (2 ^ suc k))
    ∙ ap (λ (x : ℕ). x * 2 ^ suc k) (mul_assoc q (2 ^ f) (2 ^ j) ∙ ap (λ (x : ℕ). q * x) (sym (pow-add 2 f j))) in
    let big : q * 2 ^ (f + j) ≤ q * 2 ^ f * 2 ^ 1074 =
    le_trans (grow (q * 2 ^ (f + j)) (2 ^ suc k) (pow_pos (suc k))) (le_of_eq (sym v ∙ ap (λ (x : ℕ). x * 2 ^ 1074) e)) in
    let cap : q * 2 ^ f * 2 ^ 1074 < 2 ^ 2098 =
    lt_of_le_of_lt (le_of_eq (mul_assoc q (2 ^ f) (2 ^ 1074) ∙ ap (λ (x : ℕ). q * x) (sym (pow-add 2 f 1074))))
    (lt_of_lt_of_le (shl_lt 53 (f + 1074) Q) (pow_mono (room f F))) in
    round_exact binary64 s r (2 ^ suc k) q (f + j) (pow_pos (suc k)) Q (lt_of_le_of_lt big cap) v
  where
    grow : (x c : ℕ) → 0 < c → x ≤ x * c
    grow x c C = le_trans (le_of_eq (sym (one-mul x))) (le_trans (mul-le-mul_right x C) (le_of_eq (mul_comm c x)))

    room : (f : ℕ) → f ≤ 31 → 53 + (f + 1074) ≤ 2098
    room f h = omega arith

exact_at : (s t : Bool) (m : ℕ) (e : ℤ) (f : ℕ) → f ≤ 31 → T (fits binary64 (fin t m e))
    → HasValue (round binary64 s (apart (m * up e * 2 ^ f) (nearest_whole (m * up e * 2 ^ f) (down e) * down e)) (down e)) s (apart (m * up e * 2 ^ f) (nearest_whole (m * up e * 2 ^ f) (down e) * down e)) (down e)
exact_at s t m (pos k) f F h = zero_value s _ 1 (zero-lt-suc 0) (whole_apart (m * 2 ^ k * 2 ^ f) (m * 2 ^ k * 2 ^ f) 1 (zero-lt-suc 0) (sym (mul-one (m * 2 ^ k * 2 ^ f))))
exact_at s t m (negsuc k) f F h = go (lt_or_le f (suc k))
  where
    go : (f < suc k) ⊎ (suc k ≤ f) → HasValue (round binary64 s (apart (m * 1 * 2 ^ f) (nearest_whole (m * 1 * 2 ^ f) (2 ^ suc k) * 2 ^ suc k)) (2 ^ suc k)) s (apart (m * 1 * 2 ^ f) (nearest_whole (m * 1 * 2 ^ f) (2 ^ suc k) * 2 ^ suc k)) (2 ^ suc k)
    go (inr l) =
        zero_value s _ (2 ^ suc k) (pow_pos (suc k))
        (whole_apart (m * 1 * 2 ^ f) (m * 1 * 2 ^ (f - suc k)) (2 ^ suc k) (pow_pos (suc k))
        (ap (λ (x : ℕ). m * 1 * 2 ^ x) (sym (back f (suc k) l)) ∙ ap (λ (x : ℕ). m * 1 * x) (pow-add 2 (f - suc k) (suc k)) ∙ sym (mul_assoc (m * 1) (2 ^ (f - suc k)) (2 ^ suc k))))
    go (inl lt) =
        let l = le_of_lt lt in
        let d = 2 ^ suc k in
        let g = suc k - f in
        let n = nearest_whole (m * 1 * 2 ^ f) d in
        let q = apart (m * 1) (n * 2 ^ g) in
        let D : d ≡ 2 ^ g * 2 ^ f = ap (λ (x : ℕ). 2 ^ x) (sym (back (suc k) f l)) ∙ pow-add 2 g f in
        let e : apart (m * 1 * 2 ^ f) (n * d) ≡ q * 2 ^ f =
        ap (λ (x : ℕ). apart (m * 1 * 2 ^ f) x) (ap (λ (x : ℕ). n * x) D ∙ sym (mul_assoc n (2 ^ g) (2 ^ f))) ∙ apart_mul (m * 1) (n * 2 ^ g) (2 ^ f) in
        let le : q ≤ m * 1 = le_of_mul-le-mul_right (le_trans (le_of_eq (sym e)) (apart_le (m * 1 * 2 ^ f) d (pow_pos (suc k)))) (pow_pos f) in
        few_value s q f k (apart (m * 1 * 2 ^ f) (n * d)) F (lt_of_le_of_lt le (subst (λ (x : ℕ). x < 2 ^ 53) (sym (mul-one m)) (held t m (negsuc k) h).0)) (held t m (negsuc k) h).1 e

-- The leftover of a tap ±m * 2 ^ e at f: its value is exactly ±m * 2 ^ (e + f) less ±n, with the sign of `side`
pub leftover_exact : (s : Bool) (m : ℕ) (e : ℤ) (f : ℕ) → f ≤ 31 → T (fits binary64 (fin s m e))
    → let a = m * up e * 2 ^ f in let n = nearest_whole a (down e) in HasValue (leftover s a (down e) n) (side s a (down e) n) (apart a (n * down e)) (down e)
leftover_exact s m e f F h =
    let a = m * up e * 2 ^ f in
    let n = nearest_whole a (down e) in
    subst (λ (x : Float). HasValue x (side s a (down e) n) (apart a (n * down e)) (down e)) (sym (one_round s a (down e) n)) (exact_at (side s a (down e) n) s m e f F h)

pub leftover_fits : (s : Bool) (a d n : ℕ) → T (fits binary64 (leftover s a d n))
leftover_fits s a d n = subst (λ (x : Float). T (fits binary64 x)) (sym (one_round s a d n)) (round-fits binary64 (side s a d n) (apart a (n * d)) d)
