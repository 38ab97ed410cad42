-- Added to a large even number and taken off again, a number is rounded to a whole one, at a half to the even one. Assumes nothing.
use mathlib.Core.Path.{◌≡◌, sym, ap, ◌∙◌, subst}
use mathlib.Core.Bool.{Bool, true, false, ◌&&◌, cond, true≢false, false≢true}
use Prim.Native.Nat.{ℕ, zero, suc, ◌+◌, ◌-◌, ◌*◌, ◌/◌, ◌%◌, ◌^◌, ◌≤◌, ◌<◌}
use native.Mathlib.Nat.{le_trans, le_of_eq, le_of_lt, lt_of_lt_of_le, lt_of_le_of_lt, lt_of_not-le, not-le_of_lt, le_antisymm, zero-lt-suc, add-mul, mul-one, mul_assoc, mul_comm, mul_right_comm, mul-pos, mul-le-mul_right, mul-lt-mul_of_pos_right, le-div_iff_mul-le, div-lt_iff_lt-mul, eq_of_mul-eq-mul_right}
use native.Mathlib.Omega.{arith}
use lib.IntN.{ℤ, pos, negsuc}
use lib.Dec.{T, ltb, lit≤, lit<, le→leb, lt→ltb}
use lib.Pow.{pow-add, pow_pos, pow_mono}
use lib.Ieee.{Float, nan, inf, fin, binary64, up, down, round, size, sum, add, sub, of_int, in_float, in_signed, to_signed}
use lib.Ieee.Fits.{down_pos}
use lib.Ieee.Digits.{size-lt, size-le}
use lib.Ieee.Exact.{HasValue}
use lib.Ieee.Nearest.{closest, closest_same}
use lib.Ieee.Order.{drop}
use lib.Ieee.Scale.{grid, round_val, round_same}
use lib.Ieee.Back.{positive_back, negative_back}
use borrow.Author.Tests.{lt-ltb, le-ltb}
use mir.Syntax.{w32}
use mir.Val.{SFits}
use Rattle.word.proofs.Bounds.{bounds_within, coefficient_i32}
use Rattle.tap.specs.Rounding.{nearest_whole, signed}
use Rattle.tap.specs.Inner.{nearest_of, rounds_within_of}
use Rattle.tap.proofs.Whole.{nearest_near}
use Rattle.tap.proofs.Rule.{nearest_even, nearest_unique, nearest_closest}
use Rattle.tap.proofs.Rest.{of_pos, of_neg, cross_a, cross_b}
use Rattle.tap.proofs.Range.{most_le, nearest_is, rounds_is, rounds_most, rounds_nan, rounds_inf}

-- ---- a / d at 2 ^ 52 or more and below 2 ^ 53 is rounded to a whole number
size_at : (n j : ℕ) → 2 ^ j ≤ n → n < 2 ^ suc j → size n ≡ suc j
size_at n j l h = le_antisymm (size-le n (suc j) h) (lt_of_not-le (λ (g : size n ≤ j). not-le_of_lt (lt_of_lt_of_le (size-lt n) (pow_mono g)) l))

dropped : (a d : ℕ) → 0 < d → 2 ^ 52 * d ≤ a → a < 2 ^ 53 * d → drop 53 (a * 2 ^ 1074) d ≡ 1074
dropped a d D l h =
    let lo : 2 ^ 1126 * d ≤ a * 2 ^ 1074 = le_trans (le_of_eq (ap (λ (x : ℕ). x * d) (pow-add 2 52 1074) ∙ mul_right_comm (2 ^ 52) (2 ^ 1074) d)) (mul-le-mul_right (2 ^ 1074) l) in
    let hi : a * 2 ^ 1074 < 2 ^ 1127 * d = lt_of_lt_of_le (mul-lt-mul_of_pos_right h (pow_pos 1074)) (le_of_eq (mul_right_comm (2 ^ 53) d (2 ^ 1074) ∙ ap (λ (x : ℕ). x * d) (sym (pow-add 2 53 1074)))) in
    ap (λ (x : ℕ). x - 53) (size_at (a * 2 ^ 1074 / d) 1126 ((le-div_iff_mul-le D).1 lo) ((div-lt_iff_lt-mul D).1 hi))

grid_is : (a d : ℕ) → 0 < d → 2 ^ 52 * d ≤ a → a < 2 ^ 53 * d → grid binary64 a d ≡ closest a d * 2 ^ 1074
grid_is a d D l h =
    ap (λ (k : ℕ). closest (a * 2 ^ 1074) (d * 2 ^ k) * 2 ^ k) (dropped a d D l h)
    ∙ ap (λ (n : ℕ). n * 2 ^ 1074) (closest_same (a * 2 ^ 1074) (d * 2 ^ 1074) a d (mul-pos D (pow_pos 1074)) D (mul_assoc a (2 ^ 1074) d ∙ ap (λ (x : ℕ). a * x) (mul_comm (2 ^ 1074) d)))

reduced : (x : Float) (s : Bool) (n k : ℕ) → 0 < k → HasValue x s (n * k) k → HasValue x s n 1
reduced nan s n k K v = absurd v
reduced (inf t) s n k K v = absurd v
reduced (fin t p g) s n k K v = (v.0, mul-one (p * up g) ∙ eq_of_mul-eq-mul_right k K (p * up g) (n * down g) (v.1 ∙ mul_right_comm n k (down g)))

-- ---- with an even L, the nearest number of L ± a / d is L ± that of a / d
abbrev beside : Bool → ℕ → ℕ → ℕ
beside s x y = cond s (x - y) (y + x)

moved : (s : Bool) (L a d : ℕ) → 0 < d → L % 2 ≡ 0 → a ≤ L * d → nearest_whole a d ≤ L → nearest_whole (beside s (L * d) a) d ≡ beside s L (nearest_whole a d)
moved false L a d D e h k =
    let n = nearest_whole a d in
    let p : (n + L) * d ≡ n * d + L * d = add-mul n L d in
    let w = nearest_near a d D in
    nearest_unique (a + L * d) d (n + L) D (near (n * d) (L * d) ((n + L) * d) p w.0 w.1)
    ((λ u. both n ((nearest_even a d D).0 (before (n * d) (L * d) ((n + L) * d) p u))), (λ u. both n ((nearest_even a d D).1 (after (n * d) (L * d) ((n + L) * d) p u))))
  where
    near : (x y z : ℕ) → z ≡ x + y → x * 2 ≤ a * 2 + d → a * 2 ≤ x * 2 + d → (z * 2 ≤ (a + y) * 2 + d) × ((a + y) * 2 ≤ z * 2 + d)
    near x y z p h k = omega arith

    before : (x y z : ℕ) → z ≡ x + y → z * 2 ≡ (a + y) * 2 + d → x * 2 ≡ a * 2 + d
    before x y z p h = omega arith

    after : (x y z : ℕ) → z ≡ x + y → (a + y) * 2 ≡ z * 2 + d → a * 2 ≡ x * 2 + d
    after x y z p h = omega arith

    both : (n : ℕ) → n % 2 ≡ 0 → (n + L) % 2 ≡ 0
    both n h = omega arith
moved true L a d D e h k =
    let n = nearest_whole a d in
    let p : (L - n) * d + n * d ≡ L * d = sym (add-mul (L - n) n d) ∙ ap (λ (x : ℕ). x * d) (back n k) in
    let w = nearest_near a d D in
    nearest_unique (L * d - a) d (L - n) D (near (n * d) (L * d) ((L - n) * d) p h w.0 w.1)
    ((λ u. both n k ((nearest_even a d D).1 (before (n * d) (L * d) ((L - n) * d) p h u))), (λ u. both n k ((nearest_even a d D).0 (after (n * d) (L * d) ((L - n) * d) p h u))))
  where
    back : (n : ℕ) → n ≤ L → L - n + n ≡ L
    back n k = omega arith

    near : (x y z : ℕ) → z + x ≡ y → a ≤ y → x * 2 ≤ a * 2 + d → a * 2 ≤ x * 2 + d → (z * 2 ≤ (y - a) * 2 + d) × ((y - a) * 2 ≤ z * 2 + d)
    near x y z p l h k = omega arith

    before : (x y z : ℕ) → z + x ≡ y → a ≤ y → z * 2 ≡ (y - a) * 2 + d → a * 2 ≡ x * 2 + d
    before x y z p l h = omega arith

    after : (x y z : ℕ) → z + x ≡ y → a ≤ y → (y - a) * 2 ≡ z * 2 + d → x * 2 ≡ a * 2 + d
    after x y z p l h = omega arith

    both : (n : ℕ) → n ≤ L → n % 2 ≡ 0 → (L - n) % 2 ≡ 0
    both n k h = omega arith

-- ---- the number that is added: whole and even, and up to 2 ^ 32 from it binary64 has the whole numbers and no others
pub record Lift (s : Bool) (p : ℕ) (g : ℤ) : Type 0 where
  pub large : 2 ^ 52 + 2 ^ 32 ≤ p * up g
  pub room : p * up g + 2 ^ 32 < 2 ^ 53
  pub positive : s ≡ false
  pub whole : down g ≡ 1
  pub even : p * up g % 2 ≡ 0

abbrev pub IsLift : Float → Type 0
IsLift nan = ⊥
IsLift (inf s) = ⊥
IsLift (fin s p g) = Lift s p g

module _ (p : ℕ) (g : ℤ) (w : Lift false p g) where
  abbrev L : ℕ
  L = p * up g

  over : (n : ℕ) → n ≤ 2 ^ 32 → n ≤ L
  over n h = le_trans h (le_trans (lit≤ tt) w.large)

  -- ---- the sum
  lifted_is : (s : Bool) (m : ℕ) (e : ℤ) → m * up e < L * down e → add binary64 (fin s m e) (fin false p g) ≡ round binary64 false (beside s (L * down e) (m * up e)) (down e)
  unfolding add sum
  lifted_is false m e h =
      ap (λ (k : ℕ). round binary64 false (m * up e * k + L * down e) (down e * k)) w.whole
      ∙ ap (λ (x : ℕ). round binary64 false (x + L * down e) (down e * 1)) (mul-one (m * up e))
      ∙ ap (λ (x : ℕ). round binary64 false (m * up e + L * down e) x) (mul-one (down e))
  lifted_is true m e h =
      ap (λ (k : ℕ). cond (ltb (m * up e * k) (L * down e)) (round binary64 false (L * down e - m * up e * k) (down e * k)) (round binary64 (true && ltb (L * down e) (m * up e * k)) (m * up e * k - L * down e) (down e * k))) w.whole
      ∙ ap (λ (x : ℕ). cond (ltb x (L * down e)) (round binary64 false (L * down e - x) (down e * 1)) (round binary64 (true && ltb (L * down e) x) (x - L * down e) (down e * 1))) (mul-one (m * up e))
      ∙ ap (λ (t : Bool). cond t (round binary64 false (L * down e - m * up e) (down e * 1)) (round binary64 (true && ltb (L * down e) (m * up e)) (m * up e - L * down e) (down e * 1))) (lt-ltb (m * up e) (L * down e) h)
      ∙ ap (λ (x : ℕ). round binary64 false (L * down e - m * up e) x) (mul-one (down e))

  -- it is from 2 ^ 52 on and below 2 ^ 53
  module _ (a d : ℕ) (D : 0 < d) (h : a ≤ 2 ^ 32 * d) where
    lo : (s : Bool) → 2 ^ 52 * d ≤ beside s (L * d) a
    lo false = le_trans (mul-le-mul_right d (le_trans (lit≤ tt) w.large)) (go a (L * d))
      where
        go : (a x : ℕ) → x ≤ a + x
        go a x = omega arith
    lo true = go a (2 ^ 52 * d) (2 ^ 32 * d) (L * d) h (le_trans (le_of_eq (sym (add-mul (2 ^ 52) (2 ^ 32) d))) (mul-le-mul_right d w.large))
      where
        go : (a x y z : ℕ) → a ≤ y → x + y ≤ z → x ≤ z - a
        go a x y z h k = omega arith

    hi : (s : Bool) → beside s (L * d) a < 2 ^ 53 * d
    hi s = go s a (2 ^ 32 * d) (L * d) (2 ^ 53 * d) h (lt_of_le_of_lt (le_of_eq (sym (add-mul L (2 ^ 32) d))) (mul-lt-mul_of_pos_right w.room D))
      where
        go : (s : Bool) (a y x z : ℕ) → a ≤ y → x + y < z → beside s x a < z
        go true a y x z h k = omega arith
        go false a y x z h k = omega arith

    under : a < L * d
    under = lt_of_le_of_lt h (mul-lt-mul_of_pos_right (lt_of_lt_of_le (lit< tt) w.large) D)

  lifted : (s : Bool) (m : ℕ) (e : ℤ) → m * up e ≤ 2 ^ 32 * down e → nearest_whole (m * up e) (down e) ≤ 2 ^ 32
      → HasValue (add binary64 (fin s m e) (fin false p g)) false (beside s L (nearest_whole (m * up e) (down e))) 1
  lifted s m e h k =
      let A = m * up e in
      let D = down e in
      let a = beside s (L * D) A in
      let n = beside s L (nearest_whole A D) in
      let r : grid binary64 a D ≡ n * 2 ^ 1074 =
      grid_is a D (down_pos e) (lo A D (down_pos e) h s) (hi A D (down_pos e) h s) ∙ ap (λ (x : ℕ). x * 2 ^ 1074) (sym (nearest_closest a D) ∙ moved s L A D (down_pos e) w.even (le_of_lt (under A D (down_pos e) h)) (over (nearest_whole A D) k)) in
      let b : n ≤ 2 ^ 53 = few s (nearest_whole A D) k in
      let o : grid binary64 a D < 2 ^ 2098 = subst (λ (n : ℕ). n < 2 ^ 2098) (sym r) (lt_of_le_of_lt (mul-le-mul_right (2 ^ 1074) b) (lit< tt)) in
      subst (λ (x : Float). HasValue x false n 1) (sym (lifted_is s m e (under A D (down_pos e) h)))
      (reduced (round binary64 false a D) false n (2 ^ 1074) (pow_pos 1074) (subst (λ (n : ℕ). HasValue (round binary64 false a D) false n (2 ^ 1074)) r (round_val binary64 a D o)))
    where
      few : (s : Bool) (n : ℕ) → n ≤ 2 ^ 32 → beside s L n ≤ 2 ^ 53
      few true n h = omega (arith, w.room)
      few false n h = omega (arith, w.room)

  -- ---- and taken off again
  module _ (m : ℕ) (e : ℤ) where
    abbrev A : ℕ
    A = m * up e * down g

    abbrev B : ℕ
    B = L * down e

    abbrev C : ℕ
    C = down e * down g

    C_pos : 0 < C
    C_pos = mul-pos (down_pos e) (down_pos g)

    left : (x y k : ℕ) → x ≡ k + y → x - y ≡ k
    left x y k h = omega arith

    A_is : (k : ℕ) → m * up e * 1 ≡ k * down e → A ≡ k * C
    A_is k v = sym (mul-one A) ∙ cross_a (m * up e) 1 k (down e) (down g) v

    B_is : B ≡ L * C
    B_is = sym (mul-one B) ∙ cross_b L L (down g) (down e) 1 (ap (λ (k : ℕ). L * k) (sym w.whole)) ∙ ap (λ (x : ℕ). x * C) (mul-one L)

    off_plus : (n : ℕ) → m * up e * 1 ≡ (n + L) * down e → sub binary64 (fin false m e) (fin false p g) ≡ of_int binary64 (pos n)
    unfolding sub sum
    off_plus n v =
        let d : A ≡ n * C + B = A_is (n + L) v ∙ add-mul n L C ∙ ap (λ (x : ℕ). n * C + x) (sym B_is) in
        ap (λ (b : Bool). cond b (round binary64 true (B - A) C) (round binary64 (false && ltb B A) (A - B) C)) (le-ltb A B (high A B (n * C) d))
        ∙ ap (λ (x : ℕ). round binary64 false x C) (left A B (n * C) d)
        ∙ round_same binary64 false (n * C) C n 1 C_pos (lit< tt) (mul-one (n * C))
        ∙ sym (of_pos n)
      where
        high : (x y k : ℕ) → x ≡ k + y → y ≤ x
        high x y k h = omega arith

    off_minus : (n : ℕ) → suc n ≤ L → m * up e * 1 ≡ (L - suc n) * down e → sub binary64 (fin false m e) (fin false p g) ≡ of_int binary64 (negsuc n)
    unfolding sub sum
    off_minus n k v =
        let d : B ≡ suc n * C + A =
        B_is ∙ ap (λ (x : ℕ). x * C) (back n k) ∙ add-mul (suc n) (L - suc n) C ∙ ap (λ (x : ℕ). suc n * C + x) (sym (A_is (L - suc n) v)) in
        ap (λ (b : Bool). cond b (round binary64 true (B - A) C) (round binary64 (false && ltb B A) (A - B) C)) (lt-ltb A B (less A B (suc n * C) d (mul-pos (zero-lt-suc n) C_pos)))
        ∙ ap (λ (x : ℕ). round binary64 true x C) (left B A (suc n * C) d)
        ∙ round_same binary64 true (suc n * C) C (suc n) 1 C_pos (lit< tt) (mul-one (suc n * C))
        ∙ sym (of_neg n)
      where
        back : (n : ℕ) → suc n ≤ L → L ≡ suc n + (L - suc n)
        back n k = omega arith

        less : (x y k : ℕ) → y ≡ k + x → 0 < k → x < y
        less x y k h z = omega arith

  taken_off : (s : Bool) (t : Float) (n : ℕ) → n ≤ L → HasValue t false (beside s L n) 1 → sub binary64 t (fin false p g) ≡ of_int binary64 (signed s n)
  taken_off s nan n k v = absurd v
  taken_off s (inf b) n k v = absurd v
  taken_off s (fin true m e) n k v = absurd (true≢false v.0)
  taken_off false (fin false m e) n k v = off_plus m e n v.1
  taken_off true (fin false m e) zero k v = off_plus m e 0 (v.1 ∙ ap (λ (x : ℕ). x * down e) (none L))
    where
      none : (x : ℕ) → x - 0 ≡ 0 + x
      none x = omega arith
  taken_off true (fin false m e) (suc n) k v = off_minus m e n k v.1

-- ---- `nearest_even`: x rounds to a coefficient, y is added, and z, the same, taken off
pub rounded_by : (x y z : Float) → rounds_within_of x ≡ true → IsLift y → z ≡ y → sub binary64 (add binary64 x y) z ≡ of_int binary64 (nearest_of x)
rounded_by nan y z h w q = absurd (false≢true (sym rounds_nan ∙ h))
rounded_by (inf s) y z h w q = absurd (false≢true (sym (rounds_inf s) ∙ h))
rounded_by (fin s m e) nan z h w q = absurd w
rounded_by (fin s m e) (inf t) z h w q = absurd w
rounded_by (fin s m e) (fin true p g) z h w q = absurd (true≢false w.positive)
rounded_by (fin s m e) (fin false p g) z h w q =
    let n = nearest_whole (m * up e) (down e) in
    let k : n ≤ 2 ^ 31 = le_trans (rounds_most s m e h) (most_le s) in
    let l : n ≤ 2 ^ 32 = le_trans k (lit≤ tt) in
    let a : m * up e ≤ 2 ^ 32 * down e = small (m * up e) (down e) (n * down e) (nearest_near (m * up e) (down e) (down_pos e)).1 (mul-le-mul_right (down e) k) in
    ap (sub binary64 (add binary64 (fin s m e) (fin false p g))) q
    ∙ taken_off p g w s (add binary64 (fin s m e) (fin false p g)) n (over p g w n l) (lifted p g w s m e a l)
    ∙ ap (of_int binary64) (sym (nearest_is s m e))
  where
    small : (a d x : ℕ) → a * 2 ≤ x * 2 + d → x ≤ 2 ^ 31 * d → a ≤ 2 ^ 32 * d
    small a d x h k = omega arith

-- ---- `nearest`: the cast to a whole number loses nothing
cast : (z : ℤ) → SFits w32 z → T (in_signed binary64 31 (of_int binary64 z)) × (to_signed 31 (of_int binary64 z) ≡ z)
unfolding in_float
cast (pos n) h = positive_back binary64 31 n (le→leb n (2 ^ 53) (le_of_lt (lt_of_lt_of_le h.sfits (lit≤ tt)))) h.sfits
cast (negsuc k) h = negative_back binary64 31 k (lt→ltb k (2 ^ 53) (lt_of_lt_of_le h.sfits (lit≤ tt))) h.sfits

pub rounds_i32 : (x : Float) → rounds_within_of x ≡ true → SFits w32 (nearest_of x)
rounds_i32 nan h = absurd (false≢true (sym rounds_nan ∙ h))
rounds_i32 (inf s) h = absurd (false≢true (sym (rounds_inf s) ∙ h))
rounds_i32 (fin s m e) h = coefficient_i32 (nearest_of (fin s m e)) (bounds_within (nearest_of (fin s m e)) (sym (rounds_is s m e) ∙ h))

pub counted : (x : Float) → rounds_within_of x ≡ true → T (in_signed binary64 31 (of_int binary64 (nearest_of x))) × (to_signed 31 (of_int binary64 (nearest_of x)) ≡ nearest_of x)
counted x h = cast (nearest_of x) (rounds_i32 x h)
