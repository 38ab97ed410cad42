-- A canonical string is minimal, no minimal string of its value is earlier, and no other canonical string has its value, leading zeros aside.
use mathlib.Core.Path.{◌≡◌, refl, ap, sym, ◌∙◌}
use mathlib.Core.List.{[], ◌∷◌, ◌++◌}
use mathlib.Core.Logic.{◌⊎◌, inl, inr}
use Prim.Native.Nat.{ℕ, zero, suc, ◌+◌, ◌*◌, ◌≤◌, ◌<◌, ◌/◌, ◌%◌}
use native.Mathlib.Omega.{arith}
use lib.IntN.{ℤ}
use lib.ListN.{length, take, drop, take-append-drop}
use lib.Seq.{length-take-le, take-length, take-nil, get_or-drop}
use Rattle.signed_digit.specs.Digit.{Digit, one, nought, minus_one, nonzero}
use Rattle.signed_digit.specs.String.{DigitString, digit_at}
use Rattle.signed_digit.specs.Value.{value}
use Rattle.signed_digit.specs.Weight.{weight}
use Rattle.signed_digit.specs.Same.{Same}
use Rattle.signed_digit.specs.Minimal.{Minimal}
use Rattle.signed_digit.specs.Canonical.{Canonical}
use Rattle.signed_digit.specs.Order.{Earlier}
use Rattle.signed_digit.specs.Masks.{plus_bit, minus_bit, plus_mask, minus_mask}
use Rattle.signed_digit.specs.Forms.{top}
use Rattle.signed_digit.proofs.Strings.{bit, pad, pad_places, pad_mask, pad_digit}
use Rattle.signed_digit.proofs.Same.{digits_same, same_numbers}
use Rattle.signed_digit.proofs.Value.{value_eq, values_eq}
use Rattle.signed_digit.proofs.Order.{comparable}
use Rattle.signed_digit.proofs.Minimal.{Lightest, minimal_lightest}

-- ---- low digits
-- The low digits c of a string weigh no more than the low digits t of another, up to i + j, where the values of the two strings
-- differ by j - i. It does not matter what stands above c and t.
abbrev LowLight : DigitString → Type 0
LowLight c = (t c' t' : DigitString) → length c ≡ length t → Canonical c → (i j : ℕ)
    → plus_mask (c ++ c') + minus_mask (t ++ t') + i ≡ minus_mask (c ++ c') + plus_mask (t ++ t') + j
    → weight c ≤ weight t + (i + j)

-- after two low digits of weights n and m: y and x are carried, with one remainder r by 4; e is i + j
quarters : (k l r y x n m e : ℕ) → 4 * k + r ≡ y → 4 * l + r ≡ x → y + x ≡ 1 + n + 2 * m + e → n ≤ 1 → m ≤ 1 → 1 + (k + l) ≤ n + m + e
quarters k l r y x n m e p q s h i = omega arith

same_remainder : (a b y z : ℕ) → 4 * a + y ≡ 4 * b + z → 4 * (z / 4) + y % 4 ≡ z
same_remainder a b y z e = let q = go (a + y / 4) (b + z / 4) (y % 4) (z % 4) (omega arith) (omega arith) (omega arith) in omega arith
  where
    go : (k l r s : ℕ) → r < 4 → s < 4 → 4 * k + r ≡ 4 * l + s → k ≡ l
    go k l r s p q h = omega arith

after_nonzero : (d e : Digit) (c : DigitString) → nonzero d ≡ 1 → LowLight c → LowLight (d ∷ e ∷ c)
after_nonzero d e c n low [] c' t' l h i j q = absurd (omega arith)
after_nonzero d e c n low (f ∷ []) c' t' l h i j q = absurd (omega arith)
after_nonzero d e c n low (f ∷ g ∷ t) c' t' l h i j q =
    let bd = bit d in
    let be = bit e in
    let bf = bit f in
    let bg = bit g in
    let z : nonzero e ≡ 0 = omega (arith, h 0) in
    let y : ℕ = plus_bit d + minus_bit f + 2 * minus_bit g + i in
    let x : ℕ = minus_bit d + plus_bit f + 2 * plus_bit g + j in
    let m = same_remainder (plus_mask (c ++ c') + minus_mask (t ++ t')) (minus_mask (c ++ c') + plus_mask (t ++ t')) y x (omega arith) in
    let r = low t c' t' (omega arith) (λ k. h (suc (suc k))) (y / 4) (x / 4) (omega arith) in
    let p : 4 * (y / 4) + y % 4 ≡ y = omega arith in
    let s : y + x ≡ 1 + nonzero f + 2 * nonzero g + (i + j) = omega arith in
    let o = quarters (y / 4) (x / 4) (y % 4) y x (nonzero f) (nonzero g) (i + j) p m s bf.1 bg.1 in
    omega arith

last_nonzero : (d : Digit) → nonzero d ≡ 1 → LowLight (d ∷ [])
last_nonzero d n [] c' t' l h i j q = absurd (omega arith)
last_nonzero d n (f ∷ t) c' t' l h i j q = omega (arith, bit d, bit f)

after_zero : (c : DigitString) → LowLight c → LowLight (nought ∷ c)
after_zero c low [] c' t' l h i j q = absurd (omega arith)
after_zero c low (f ∷ t) c' t' l h i j q =
    let b = bit f in
    let y : ℕ = minus_bit f + i in
    let x : ℕ = plus_bit f + j in
    let r = low t c' t' (omega arith) (λ k. h (suc k)) (y / 2) (x / 2) (omega arith) in
    omega arith

low_light : (c : DigitString) → LowLight c
low_light [] = λ t c' t' l h i j q. omega arith
low_light (nought ∷ c) = after_zero c (low_light c)
low_light (one ∷ []) = last_nonzero one refl
low_light (one ∷ e ∷ c) = after_nonzero one e c refl (low_light c)
low_light (minus_one ∷ []) = last_nonzero minus_one refl
low_light (minus_one ∷ e ∷ c) = after_nonzero minus_one e c refl (low_light c)

-- ---- parts of a canonical string
take_nonzero : (n : ℕ) (s : DigitString) (i : ℕ) → nonzero (digit_at (take n s) i) ≤ nonzero (digit_at s i)
take_nonzero zero s i = omega arith
take_nonzero (suc n) [] i = omega arith
take_nonzero (suc n) (d ∷ s) zero = omega arith
take_nonzero (suc n) (d ∷ s) (suc i) = take_nonzero n s i

canonical_take : (n : ℕ) (c : DigitString) → Canonical c → Canonical (take n c)
canonical_take n c h i = omega (arith, h i, take_nonzero n c i, take_nonzero n c (suc i))

pub canonical_pad : (n : ℕ) (c : DigitString) → Canonical c → Canonical (pad n c)
canonical_pad n c h i = omega (arith, h i, ap nonzero (pad_digit n c i), ap nonzero (pad_digit n c (suc i)))

-- any digit may stand above a zero
pub canonical_top : (d : Digit) (c : DigitString) → Canonical (top nought c) → Canonical (top d (top nought c))
canonical_top d [] h zero = omega (arith, bit d)
canonical_top d [] h (suc zero) = omega (arith, bit d)
canonical_top d [] h (suc (suc i)) = omega arith
canonical_top d (e ∷ []) h zero = h zero
canonical_top d (e ∷ f ∷ c) h zero = h zero
canonical_top d (e ∷ c) h (suc i) = canonical_top d c (λ j. h (suc j)) i

pub canonical_weight : (c : DigitString) → Canonical c → 2 * weight c ≤ suc (length c)
canonical_weight [] h = omega arith
canonical_weight (d ∷ []) h = omega (arith, bit d)
canonical_weight (d ∷ e ∷ c) h = omega (arith, h 0, canonical_weight c (λ i. h (suc (suc i))))

-- ---- a canonical string is minimal, and no minimal string of its value is earlier
take_pad : (n k : ℕ) (s : DigitString) → weight (take n (pad k s)) ≡ weight (take n s)
take_pad zero k s = refl
take_pad (suc n) zero [] = refl
take_pad (suc n) (suc k) [] = omega (arith, take_pad n k [], ap weight (take-nil {A = Digit} n))
take_pad (suc n) k (d ∷ s) = omega (arith, take_pad n k s)

low_places : (c t : DigitString) → Canonical c → plus_mask c + minus_mask t ≡ minus_mask c + plus_mask t → (n : ℕ) → weight (take n c) ≤ weight (take n t)
low_places c t h e n =
    let c' : DigitString = pad n c in
    let t' : DigitString = pad n t in
    let p = take-append-drop n c' in
    let q = take-append-drop n t' in
    let lc = length-take-le n c' (omega (arith, pad_places n c)) in
    let lt = length-take-le n t' (omega (arith, pad_places n t)) in
    let k = canonical_take n c' (canonical_pad n c h) in
    let pc = pad_mask plus_bit refl n c in
    let mc = pad_mask minus_bit refl n c in
    let pt = pad_mask plus_bit refl n t in
    let mt = pad_mask minus_bit refl n t in
    let low = low_light (take n c') (take n t') (drop n c') (drop n t') (lc ∙ sym lt) k 0 0 in
    let l = low (omega (arith, ap plus_mask p, ap minus_mask p, ap plus_mask q, ap minus_mask q)) in
    omega (arith, take_pad n n c, take_pad n n t)

weight_split : (n : ℕ) (s : DigitString) → weight s ≡ weight (take n s) + (nonzero (digit_at s n) + weight (drop (suc n) s))
weight_split zero [] = refl
weight_split zero (d ∷ s) = omega arith
weight_split (suc n) [] = refl
weight_split (suc n) (d ∷ s) = omega (arith, weight_split n s)

pub canonical_lightest : (c : DigitString) → Canonical c → Lightest c
canonical_lightest c h t e =
    let n : ℕ = length c in
    omega (arith, low_places c t h (omega arith) n, ap weight (take-length c), weight_split n t)

pub canonical_first : (c t : DigitString) → Canonical c → Lightest t → plus_mask t + minus_mask c ≡ minus_mask t + plus_mask c → Earlier t c → ⊥
canonical_first c t h m v e =
    let n : ℕ = e.place in
    let x : DigitString = drop (suc n) t in
    let y : DigitString = drop (suc n) c in
    let q = digits_same x y (λ i. get_or-drop (suc n) t i nought ∙ e.same_above (suc n + i) (omega arith) ∙ sym (get_or-drop (suc n) c i nought)) in
    let above = same_numbers x y q in
    let zero_there = ap nonzero e.zero_there in
    omega (arith, low_places c t h (omega arith) n, weight_split n c, weight_split n t, m c (omega arith))

-- one canonical string for each value, leading zeros aside
pub canonical_unique : (s t : DigitString) → Canonical s → Canonical t → value s ≡ value t → Same s t
canonical_unique s t hs ht v = go (comparable s t v)
  where
    go : Same s t ⊎ (Earlier s t ⊎ Earlier t s) → Same s t
    go (inl h) = h
    go (inr (inl e)) = absurd (canonical_first t s ht (canonical_lightest s hs) ((values_eq s t).0 v) e)
    go (inr (inr e)) = absurd (canonical_first s t hs (canonical_lightest t ht) ((values_eq t s).0 (sym v)) e)

-- ---- minimal strings by their definition
pub canonical_minimal : (n : ℤ) (c : DigitString) → Canonical c → value c ≡ n → Minimal n c
canonical_minimal n c h v = (minimal_lightest n c).1 ((value_eq c n).0 v, canonical_lightest c h)

-- every minimal string of a value has the weight of the canonical one
pub minimal_weight_lem : (n : ℤ) (s c : DigitString) → Minimal n s → Canonical c → value c ≡ n → weight s ≡ weight c
minimal_weight_lem n s c m h v = omega (arith, m.least c v, (canonical_minimal n c h v).least s m.has_value)
