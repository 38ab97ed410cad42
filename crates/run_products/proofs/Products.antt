-- One product in offset binary: the product of the words, less what the offsets add. Assumes nothing.
use Rattle.std.proofs.Common.{◌≡◌, ℕ, zero, suc, ◌+◌, ◌-◌, ◌*◌, ◌%◌, ◌^◌, ◌<◌, ◌≤◌, Bool, true, false, ltb, pos, ◌+ℤ◌, ◌*ℤ◌, neg_ℤ, sym, refl, ap, ◌∙◌, ap₂, mod-eq_of_lt, add-mul, mul-add, arith, ltb-false, ltb-true}
use lib.IntN.{sub_ℕ}
use Rattle.run_convolution.specs.Words.{wrapped}
use Rattle.run_convolution.proofs.Words.{wrapped_add, sub_less, sub_more}

-- 2^64 + 2^46 less what the offsets of a coefficient and a sample add to their product
abbrev pub cost : ℕ → ℕ → ℕ
cost c y = 2 ^ 64 + 2 ^ 46 - 2 ^ 15 * c - 2 ^ 31 * y

wrapped_neg : (n : ℕ) → wrapped (neg_ℤ (pos n)) ≡ (2 ^ 64 - n % 2 ^ 64) % 2 ^ 64
wrapped_neg zero = refl
wrapped_neg (suc n) = omega arith

close_neg : (n p s t : ℕ) → p + n + 2 ^ 46 ≡ s + t → s ≤ 2 ^ 47 → t ≤ 2 ^ 47
    → (2 ^ 64 - n % 2 ^ 64) % 2 ^ 64 ≡ (p + (2 ^ 64 + 2 ^ 46 - s - t)) % 2 ^ 64
close_neg n p s t e l m =
    let q : n % 2 ^ 64 ≡ n = mod-eq_of_lt (omega arith) in
    let u : p + (2 ^ 64 + 2 ^ 46 - s - t) ≡ 2 ^ 64 - n = omega (arith, e, l, m) in
    rw (q, u)

close_pos : (n p s t : ℕ) → p + 2 ^ 46 ≡ n + s + t → s ≤ 2 ^ 47 → t ≤ 2 ^ 47
    → n % 2 ^ 64 ≡ (p + (2 ^ 64 + 2 ^ 46 - s - t)) % 2 ^ 64
close_pos n p s t e l m =
    let u : p + (2 ^ 64 + 2 ^ 46 - s - t) ≡ n + 2 ^ 64 = omega (arith, e, l, m) in
    rw u (turn n)
  where
    turn : (n : ℕ) → n % 2 ^ 64 ≡ (n + 2 ^ 64) % 2 ^ 64
    turn n = omega arith

-- the four cases of signs: c stores a or -a, y stores b or -b
both_pos : (a b c y : ℕ) → c ≡ 2 ^ 31 + a → y ≡ 2 ^ 15 + b → c * y + 2 ^ 46 ≡ a * b + 2 ^ 15 * c + 2 ^ 31 * y
both_pos a b c y e f = rw (e, f) (omega (arith, add-mul (2 ^ 31) a (2 ^ 15 + b), mul-add a (2 ^ 15) b))

pos_neg : (a b c y : ℕ) → c ≡ 2 ^ 31 + a → y + b ≡ 2 ^ 15 → c * y + a * b + 2 ^ 46 ≡ 2 ^ 15 * c + 2 ^ 31 * y
pos_neg a b c y e f = rw e (omega (arith, add-mul (2 ^ 31) a y, mul-add a y b, ap (λ n. a * n) f))

neg_pos : (a b c y : ℕ) → c + a ≡ 2 ^ 31 → y ≡ 2 ^ 15 + b → c * y + a * b + 2 ^ 46 ≡ 2 ^ 15 * c + 2 ^ 31 * y
neg_pos a b c y e f = rw f (omega (arith, add-mul c a b, ap (λ n. n * b) e, mul-add c (2 ^ 15) b))

both_neg : (a b c y : ℕ) → c + a ≡ 2 ^ 31 → y + b ≡ 2 ^ 15 → c * y + 2 ^ 46 ≡ a * b + 2 ^ 15 * c + 2 ^ 31 * y
both_neg a b c y e f = omega (arith, add-mul c a y, ap (λ n. n * y) e, mul-add a y b, ap (λ n. a * n) f)

-- a sum whose left part is taken modulo 2^64 already
pub mod_left : (m n : ℕ) → (m % 2 ^ 64 + n) % 2 ^ 64 ≡ (m + n) % 2 ^ 64
mod_left m n = omega arith

module _ (c y : ℕ) (lc : c < 2 ^ 32) (ly : y < 2 ^ 16) where
  product_by : (s t : Bool) → ltb c (2 ^ 31) ≡ s → ltb y (2 ^ 15) ≡ t → wrapped (sub_ℕ c (2 ^ 31) *ℤ sub_ℕ y (2 ^ 15)) ≡ (c * y + cost c y) % 2 ^ 64
  product_by false false p q =
      let l : 2 ^ 31 ≤ c = ltb-false c (2 ^ 31) p in
      let m : 2 ^ 15 ≤ y = ltb-false y (2 ^ 15) q in
      ap₂ (λ u v. wrapped (u *ℤ v)) (sub_more c (2 ^ 31) l) (sub_more y (2 ^ 15) m)
      ∙ close_pos ((c - 2 ^ 31) * (y - 2 ^ 15)) (c * y) (2 ^ 15 * c) (2 ^ 31 * y) (both_pos (c - 2 ^ 31) (y - 2 ^ 15) c y (omega arith) (omega arith)) (omega arith) (omega arith)
  product_by false true p q =
      let l : 2 ^ 31 ≤ c = ltb-false c (2 ^ 31) p in
      let m : y < 2 ^ 15 = ltb-true y (2 ^ 15) q in
      ap₂ (λ u v. wrapped (u *ℤ v)) (sub_more c (2 ^ 31) l) (sub_less y (2 ^ 15) m)
      ∙ wrapped_neg ((c - 2 ^ 31) * suc (2 ^ 15 - suc y))
      ∙ close_neg ((c - 2 ^ 31) * suc (2 ^ 15 - suc y)) (c * y) (2 ^ 15 * c) (2 ^ 31 * y) (pos_neg (c - 2 ^ 31) (suc (2 ^ 15 - suc y)) c y (omega arith) (omega arith)) (omega arith) (omega arith)
  product_by true false p q =
      let l : c < 2 ^ 31 = ltb-true c (2 ^ 31) p in
      let m : 2 ^ 15 ≤ y = ltb-false y (2 ^ 15) q in
      ap₂ (λ u v. wrapped (u *ℤ v)) (sub_less c (2 ^ 31) l) (sub_more y (2 ^ 15) m)
      ∙ wrapped_neg (suc (2 ^ 31 - suc c) * (y - 2 ^ 15))
      ∙ close_neg (suc (2 ^ 31 - suc c) * (y - 2 ^ 15)) (c * y) (2 ^ 15 * c) (2 ^ 31 * y) (neg_pos (suc (2 ^ 31 - suc c)) (y - 2 ^ 15) c y (omega arith) (omega arith)) (omega arith) (omega arith)
  product_by true true p q =
      let l : c < 2 ^ 31 = ltb-true c (2 ^ 31) p in
      let m : y < 2 ^ 15 = ltb-true y (2 ^ 15) q in
      ap₂ (λ u v. wrapped (u *ℤ v)) (sub_less c (2 ^ 31) l) (sub_less y (2 ^ 15) m)
      ∙ close_pos (suc (2 ^ 31 - suc c) * suc (2 ^ 15 - suc y)) (c * y) (2 ^ 15 * c) (2 ^ 31 * y) (both_neg (suc (2 ^ 31 - suc c)) (suc (2 ^ 15 - suc y)) c y (omega arith) (omega arith)) (omega arith) (omega arith)

  product_word : wrapped (sub_ℕ c (2 ^ 31) *ℤ sub_ℕ y (2 ^ 15)) ≡ (c * y + cost c y) % 2 ^ 64
  product_word = product_by (ltb c (2 ^ 31)) (ltb y (2 ^ 15)) refl refl

  -- a register and a product
  pub sum_first : (u : ℕ) → wrapped (pos u +ℤ sub_ℕ c (2 ^ 31) *ℤ sub_ℕ y (2 ^ 15)) ≡ (u + (c * y + cost c y)) % 2 ^ 64
  sum_first u =
      sym (wrapped_add (pos u) (sub_ℕ c (2 ^ 31) *ℤ sub_ℕ y (2 ^ 15))) ∙ ap (λ n. (u % 2 ^ 64 + n) % 2 ^ 64) product_word
      ∙ both_mod u (c * y + cost c y)
    where
      both_mod : (m n : ℕ) → (m % 2 ^ 64 + n % 2 ^ 64) % 2 ^ 64 ≡ (m + n) % 2 ^ 64
      both_mod m n = omega arith

  -- a sum so far and a product
  pub sum_next : (u : ℕ) → wrapped (pos (u % 2 ^ 64) +ℤ sub_ℕ c (2 ^ 31) *ℤ sub_ℕ y (2 ^ 15)) ≡ (u + (c * y + cost c y)) % 2 ^ 64
  sum_next u = sum_first (u % 2 ^ 64) ∙ mod_left u (c * y + cost c y)
