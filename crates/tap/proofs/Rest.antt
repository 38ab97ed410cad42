-- The difference of two floats, as `leftover` has it. Assumes nothing.
use mathlib.Core.Path.{◌≡◌, refl, sym, ap, ◌∙◌, subst}
use mathlib.Core.Logic.{◌⊎◌, inl, inr}
use mathlib.Core.Bool.{Bool, true, false, not, ◌&&◌, ◌||◌, beq, cond, true≢false, false≢true}
use Prim.Native.Nat.{ℕ, zero, suc, ◌+◌, ◌-◌, ◌*◌, ◌^◌, ◌≤◌, ◌<◌}
use native.Mathlib.Nat.{le_of_eq, le_of_lt, lt_of_lt_of_le, lt_of_le_of_lt, mul-one, zero-mul, mul_comm, mul_assoc, mul_right_comm, mul_left_comm, mul-sub, mul-lt-mul_of_pos_right, lt_of_mul-lt-mul_right, mul-pos, eq_of_mul-eq-mul_right}
use native.Mathlib.Omega.{arith}
use lib.IntN.{ℤ, pos, negsuc}
use lib.Dec.{leb, ltb, eqb, lit≤}
use lib.Ieee.{Float, nan, inf, fin, binary64, up, down, round, sum, sub, eq, of_int}
use lib.Ieee.Fits.{down_pos}
use lib.Ieee.Exact.{HasValue}
use lib.Ieee.Scale.{round_same}
use lib.Ieee.Back.{round_whole}
use borrow.Author.Tests.{lt-ltb, le-ltb, le-leb, lt-leb, eq-eqb, ne_eqb, eqb-true, eqb-false}
use Rattle.word.proofs.Order.{lt_or_le}
use Rattle.tap.specs.Rounding.{leftover, signed}

pub sub_mul : (a b c : ℕ) → (a - b) * c ≡ a * c - b * c
sub_mul a b c = mul_comm (a - b) c ∙ mul-sub c a b ∙ ap (λ (x : ℕ). x - c * b) (mul_comm c a) ∙ ap (λ (x : ℕ). a * c - x) (mul_comm c b)

-- A / C is a / d, and B / C is N / d
module _ (A B C a d N : ℕ) (P : 0 < C) (Q : 0 < d) (hA : A * d ≡ a * C) (hB : B * d ≡ N * C) where
  less : a < N → A < B
  less h = lt_of_mul-lt-mul_right d (lt_of_le_of_lt (le_of_eq hA) (lt_of_lt_of_le (mul-lt-mul_of_pos_right h P) (le_of_eq (sym hB))))

  more : N < a → B < A
  more h = lt_of_mul-lt-mul_right d (lt_of_le_of_lt (le_of_eq hB) (lt_of_lt_of_le (mul-lt-mul_of_pos_right h P) (le_of_eq (sym hA))))

  same : N ≡ a → A ≡ B
  same h = eq_of_mul-eq-mul_right d Q A B (hA ∙ ap (λ (x : ℕ). x * C) (sym h) ∙ sym hB)

  same_back : A ≡ B → N ≡ a
  same_back h = eq_of_mul-eq-mul_right C P N a (sym hB ∙ ap (λ (x : ℕ). x * d) (sym h) ∙ hA)

  down_to : (s : Bool) → round binary64 s (B - A) C ≡ round binary64 s (N - a) d
  down_to s = round_same binary64 s (B - A) C (N - a) d P Q (sub_mul B A d ∙ ap (λ (x : ℕ). x - A * d) hB ∙ ap (λ (x : ℕ). N * C - x) hA ∙ sym (sub_mul N a C))

  up_to : (s : Bool) → round binary64 s (A - B) C ≡ round binary64 s (a - N) d
  up_to s = round_same binary64 s (A - B) C (a - N) d P Q (sub_mul A B d ∙ ap (λ (x : ℕ). x - B * d) hA ∙ ap (λ (x : ℕ). a * C - x) hB ∙ sym (sub_mul a N C))

  both : (s : Bool) → N ≡ 0 → round binary64 s (A + B) C ≡ round binary64 s (a - N) d
  both s z =
      let e : B ≡ 0 = eq_of_mul-eq-mul_right d Q B 0 (hB ∙ ap (λ (x : ℕ). x * C) z ∙ zero-mul C ∙ sym (zero-mul d)) in
      ap (λ (x : ℕ). round binary64 s x C) (go A B e) ∙ up_to s
    where
      go : (A B : ℕ) → B ≡ 0 → A + B ≡ A - B
      go A B h = omega arith

  -- opposite signs
  against : (s : Bool) → (N ≡ a → ⊥) → cond (ltb A B) (round binary64 (not s) (B - A) C) (round binary64 (s && ltb B A) (A - B) C) ≡ cond (leb N a) (round binary64 s (a - N) d) (round binary64 (not s) (N - a) d)
  against s ne = go (order N a ne)
    where
      order : (x y : ℕ) → (x ≡ y → ⊥) → (y < x) ⊎ (x < y)
      order x y n = pick (lt_or_le y x)
        where
          strict : (x y : ℕ) → (x ≡ y → ⊥) → x ≤ y → x < y
          strict x y n h = omega arith

          pick : (y < x) ⊎ (x ≤ y) → (y < x) ⊎ (x < y)
          pick (inl h) = inl h
          pick (inr h) = inr (strict x y n h)

      and_true : (s : Bool) → (s && true) ≡ s
      and_true true = refl
      and_true false = refl

      go : (a < N) ⊎ (N < a) → cond (ltb A B) (round binary64 (not s) (B - A) C) (round binary64 (s && ltb B A) (A - B) C) ≡ cond (leb N a) (round binary64 s (a - N) d) (round binary64 (not s) (N - a) d)
      go (inl h) =
          ap (λ (t : Bool). cond t (round binary64 (not s) (B - A) C) (round binary64 (s && ltb B A) (A - B) C)) (lt-ltb A B (less h))
          ∙ down_to (not s)
          ∙ sym (ap (λ (t : Bool). cond t (round binary64 s (a - N) d) (round binary64 (not s) (N - a) d)) (lt-leb N a h))
      go (inr h) =
          ap (λ (t : Bool). cond t (round binary64 (not s) (B - A) C) (round binary64 (s && ltb B A) (A - B) C)) (le-ltb A B (le_of_lt (more h)))
          ∙ ap (λ (t : Bool). round binary64 (s && t) (A - B) C) (lt-ltb B A (more h))
          ∙ ap (λ (t : Bool). round binary64 t (A - B) C) (and_true s)
          ∙ up_to s
          ∙ sym (ap (λ (t : Bool). cond t (round binary64 s (a - N) d) (round binary64 (not s) (N - a) d)) (le-leb N a (le_of_lt h)))

  -- the same sign, and N is 0
  along : (s : Bool) → N ≡ 0 → round binary64 s (A + B) C ≡ cond (leb N a) (round binary64 s (a - N) d) (round binary64 (not s) (N - a) d)
  along s z = both s z ∙ sym (ap (λ (t : Bool). cond t (round binary64 s (a - N) d) (round binary64 (not s) (N - a) d)) (le-leb N a (go N a z)))
    where
      go : (N a : ℕ) → N ≡ 0 → N ≤ a
      go N a h = omega arith

-- ---- X is ±a / d, and Y is ±n, with the same sign or 0
pub cross_a : (x d a e g : ℕ) → x * d ≡ a * e → x * g * d ≡ a * (e * g)
cross_a x d a e g h = mul_right_comm x g d ∙ ap (λ (z : ℕ). z * g) h ∙ mul_assoc a e g

pub cross_b : (y n g e d : ℕ) → y * 1 ≡ n * g → y * e * d ≡ n * d * (e * g)
cross_b y n g e d h = ap (λ (z : ℕ). z * e * d) (sym (mul-one y) ∙ h) ∙ simp (mul_assoc, mul_comm, mul_left_comm)

pub leftover_is : (s : Bool) (a d n : ℕ) → leftover s a d n ≡ cond (leb (n * d) a) (round binary64 s (a - n * d) d) (round binary64 (not s) (n * d - a) d)
unfolding leftover
leftover_is s a d n = refl

opened : (s : Bool) (m : ℕ) (e : ℤ) (t : Bool) (p : ℕ) (g : ℤ) → sub binary64 (fin s m e) (fin t p g) ≡ sum binary64 s (m * up e * down g) (not t) (p * up g * down e) (down e * down g)
unfolding sub
opened s m e t p g = refl

summed : (s t : Bool) (A B C a d n : ℕ) → 0 < C → 0 < d → A * d ≡ a * C → B * d ≡ n * d * C → (t ≡ s) ⊎ (n ≡ 0) → (n * d ≡ a → ⊥) → sum binary64 s A (not t) B C ≡ leftover s a d n
unfolding sum
summed true true A B C a d n P Q hA hB k ne = against A B C a d (n * d) P Q hA hB true ne ∙ sym (leftover_is true a d n)
summed false false A B C a d n P Q hA hB k ne = against A B C a d (n * d) P Q hA hB false ne ∙ sym (leftover_is false a d n)
summed true false A B C a d n P Q hA hB (inl e) ne = absurd (false≢true e)
summed true false A B C a d n P Q hA hB (inr z) ne = along A B C a d (n * d) P Q hA hB true (ap (λ (x : ℕ). x * d) z ∙ zero-mul d) ∙ sym (leftover_is true a d n)
summed false true A B C a d n P Q hA hB (inl e) ne = absurd (true≢false e)
summed false true A B C a d n P Q hA hB (inr z) ne = along A B C a d (n * d) P Q hA hB false (ap (λ (x : ℕ). x * d) z ∙ zero-mul d) ∙ sym (leftover_is false a d n)

pub rest_is : (X Y : Float) (s t : Bool) (a d n : ℕ) → 0 < d → HasValue X s a d → HasValue Y t n 1 → (t ≡ s) ⊎ (n ≡ 0) → (n * d ≡ a → ⊥) → sub binary64 X Y ≡ leftover s a d n
rest_is nan Y s t a d n Q v w k ne = absurd v
rest_is (inf b) Y s t a d n Q v w k ne = absurd v
rest_is (fin s' m e) nan s t a d n Q v w k ne = absurd w
rest_is (fin s' m e) (inf b) s t a d n Q v w k ne = absurd w
rest_is (fin s' m e) (fin t' p g) s t a d n Q v w k ne =
    ap (λ (b : Bool). sub binary64 (fin b m e) (fin t' p g)) v.0
    ∙ ap (λ (b : Bool). sub binary64 (fin s m e) (fin b p g)) w.0
    ∙ opened s m e t p g
    ∙ summed s t (m * up e * down g) (p * up g * down e) (down e * down g) a d n (mul-pos (down_pos e) (down_pos g)) Q
    (cross_a (m * up e) d a (down e) (down g) v.1) (cross_b (p * up g) n (down g) (down e) d w.1) k ne

-- ---- whether the two are equal
level_yes : (s t : Bool) (A B n d C : ℕ) → 0 < d → A ≡ B → B * d ≡ n * d * C → (t ≡ s) ⊎ (n ≡ 0) → (eqb A B && (beq s t || eqb A 0)) ≡ true
level_yes s t A B n d C Q h hB k = ap (λ (b : Bool). b && (beq s t || eqb A 0)) (eq-eqb A B h) ∙ go s t k
  where
    zero_A : n ≡ 0 → eqb A 0 ≡ true
    zero_A z = eq-eqb A 0 (h ∙ eq_of_mul-eq-mul_right d Q B 0 (hB ∙ ap (λ (x : ℕ). x * d * C) z ∙ ap (λ (x : ℕ). x * C) (zero-mul d) ∙ zero-mul C ∙ sym (zero-mul d)))

    go : (s t : Bool) → (t ≡ s) ⊎ (n ≡ 0) → (beq s t || eqb A 0) ≡ true
    go true true k = refl
    go false false k = refl
    go true false (inl e) = absurd (false≢true e)
    go true false (inr z) = zero_A z
    go false true (inl e) = absurd (true≢false e)
    go false true (inr z) = zero_A z

equal : (s : Bool) (m : ℕ) (e : ℤ) (t : Bool) (p : ℕ) (g : ℤ) → eq (fin s m e) (fin t p g) ≡ (eqb (m * up e * down g) (p * up g * down e) && (beq s t || eqb (m * up e * down g) 0))
unfolding eq
equal s m e t p g = refl

level_is : (s t : Bool) (A B C a d n : ℕ) → 0 < C → 0 < d → A * d ≡ a * C → B * d ≡ n * d * C → (t ≡ s) ⊎ (n ≡ 0) → (eqb A B && (beq s t || eqb A 0)) ≡ eqb (n * d) a
level_is s t A B C a d n P Q hA hB k = go (eqb (n * d) a) refl
  where
    go : (b : Bool) → eqb (n * d) a ≡ b → (eqb A B && (beq s t || eqb A 0)) ≡ eqb (n * d) a
    go true h = level_yes s t A B n d C Q (same A B C a d (n * d) P Q hA hB (eqb-true (n * d) a h)) hB k ∙ sym h
    go false h = ap (λ (b : Bool). b && (beq s t || eqb A 0)) (ne_eqb A B (λ (u : A ≡ B). eqb-false (n * d) a h (same_back A B C a d (n * d) P Q hA hB u))) ∙ sym h

pub equal_is : (X Y : Float) (s t : Bool) (a d n : ℕ) → 0 < d → HasValue X s a d → HasValue Y t n 1 → (t ≡ s) ⊎ (n ≡ 0) → eq X Y ≡ eqb (n * d) a
equal_is nan Y s t a d n Q v w k = absurd v
equal_is (inf b) Y s t a d n Q v w k = absurd v
equal_is (fin s' m e) nan s t a d n Q v w k = absurd w
equal_is (fin s' m e) (inf b) s t a d n Q v w k = absurd w
equal_is (fin s' m e) (fin t' p g) s t a d n Q v w k =
    ap (λ (b : Bool). eq (fin b m e) (fin t' p g)) v.0
    ∙ ap (λ (b : Bool). eq (fin s m e) (fin b p g)) w.0
    ∙ equal s m e t p g
    ∙ level_is s t (m * up e * down g) (p * up g * down e) (down e * down g) a d n (mul-pos (down_pos e) (down_pos g)) Q
    (cross_a (m * up e) d a (down e) (down g) v.1) (cross_b (p * up g) n (down g) (down e) d w.1) k

-- ---- ±n as a float
pub of_pos : (n : ℕ) → of_int binary64 (pos n) ≡ round binary64 false n 1
unfolding of_int
of_pos n = refl

pub of_neg : (n : ℕ) → of_int binary64 (negsuc n) ≡ round binary64 true (suc n) 1
unfolding of_int
of_neg n = refl

pub whole_value : (s : Bool) (n : ℕ) → n ≤ 2 ^ 53 → (t : Bool) × HasValue (of_int binary64 (signed s n)) t n 1 × ((t ≡ s) ⊎ (n ≡ 0))
whole_value false n h = (false, subst (λ (x : Float). HasValue x false n 1) (sym (of_pos n)) (round_whole binary64 false n h), inl refl)
whole_value true zero h = (false, subst (λ (x : Float). HasValue x false 0 1) (sym (of_pos 0)) (round_whole binary64 false 0 (lit≤ tt)), inr refl)
whole_value true (suc n) h = (true, subst (λ (x : Float). HasValue x true (suc n) 1) (sym (of_neg n)) (round_whole binary64 true (suc n) h), inl refl)
