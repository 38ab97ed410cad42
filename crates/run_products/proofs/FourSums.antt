-- Four products in offset binary at once: a sum with an offset and a bias becomes the sum with the products, its offset and its bias. Assumes nothing.
use Rattle.std.proofs.Common.{◌≡◌, List, [], ◌∷◌, get_or, ℕ, ◌+◌, ◌*◌, ◌%◌, ◌^◌, ◌<◌, ℤ, pos, ◌+ℤ◌, ◌*ℤ◌, sym, ap, ◌∙◌, arith}
use lib.IntN.{sub_ℕ}
use Rattle.run_convolution.proofs.Words.{wrapped_lt}
use Rattle.run_products.specs.Inner.{coefficient_in, sample_in, plus, four_sums, four_products, offset_of, offset_below_of, bias_after_of, raised_by}
use Rattle.run_products.proofs.Products.{cost, mod_left, sum_first, sum_next}

cost_exact : (a y : ℕ) → a < 2 ^ 32 → y < 2 ^ 16 → cost a y + (2 ^ 15 * a + 2 ^ 31 * y) ≡ 2 ^ 64 + 2 ^ 46
cost_exact a y h k = omega arith

-- what the offsets of four products come to, over their costs: 8 times 2^64
costs : (a0 a1 a2 a3 y0 y1 y2 y3 d0 d1 d2 d3 : ℕ) → d0 + (2 ^ 15 * a0 + 2 ^ 31 * y0) ≡ 2 ^ 64 + 2 ^ 46 → d1 + (2 ^ 15 * a1 + 2 ^ 31 * y1) ≡ 2 ^ 64 + 2 ^ 46
    → d2 + (2 ^ 15 * a2 + 2 ^ 31 * y2) ≡ 2 ^ 64 + 2 ^ 46 → d3 + (2 ^ 15 * a3 + 2 ^ 31 * y3) ≡ 2 ^ 64 + 2 ^ 46
    → (d0 + d1 + d2 + d3) + (offset_of a0 + offset_of a1 + offset_of a2 + offset_of a3)
    + 2 ^ 31 * (y0 + y1 + y2 + y3) ≡ 2 ^ 67
costs a0 a1 a2 a3 y0 y1 y2 y3 d0 d1 d2 d3 h0 h1 h2 h3 = omega arith

spread : (v p0 p1 p2 p3 d0 d1 d2 d3 : ℕ) → v + (p0 + p1 + p2 + p3) + (d0 + d1 + d2 + d3) ≡ v + (p0 + d0) + (p1 + d1) + (p2 + d2) + (p3 + d3)
spread v p0 p1 p2 p3 d0 d1 d2 d3 = omega arith

mod_three : (a b c : ℕ) → (a % 2 ^ 64 + (b % 2 ^ 64 + c % 2 ^ 64)) % 2 ^ 64 ≡ (a + (b + c)) % 2 ^ 64
mod_three a b c = omega arith

-- the offset four places below
offsets_four : (v m0 m1 m2 m3 : ℕ)
    → ((((v + m0) % 2 ^ 64 + m1) % 2 ^ 64 + m2) % 2 ^ 64 + m3) % 2 ^ 64 ≡ (v + (m0 + m1 + m2 + m3)) % 2 ^ 64
offsets_four v m0 m1 m2 m3 =
    ap (λ n. (n + m3) % 2 ^ 64) (ap (λ n. (n + m2) % 2 ^ 64) (mod_left (v + m0) m1) ∙ mod_left (v + m0 + m1) m2) ∙ mod_left (v + m0 + m1 + m2) m3
    ∙ ap (λ n. n % 2 ^ 64) (together v m0 m1 m2 m3)
  where
    together : (v m0 m1 m2 m3 : ℕ) → v + m0 + m1 + m2 + m3 ≡ v + (m0 + m1 + m2 + m3)
    together v m0 m1 m2 m3 = omega arith

-- eight turns make no difference
turned : (n p v g d m y : ℕ) → d + m + y ≡ 2 ^ 67
    → (n + (v + g) + p) % 2 ^ 64 ≡ (n + p + d + ((v + m) + (g + y))) % 2 ^ 64
turned n p v g d m y e =
    let q : n + p + d + ((v + m) + (g + y)) ≡ n + (v + g) + p + 2 ^ 67 = omega (arith, e) in
    sym (ap (λ k. k % 2 ^ 64) q ∙ eight (n + (v + g) + p))
  where
    eight : (m : ℕ) → (m + 2 ^ 67) % 2 ^ 64 ≡ m % 2 ^ 64
    eight m = omega arith

module _ (v a0 a1 a2 a3 y0 y1 y2 y3 : ℕ) (h0 : a0 < 2 ^ 32) (h1 : a1 < 2 ^ 32) (h2 : a2 < 2 ^ 32) (h3 : a3 < 2 ^ 32)
    (g0 : y0 < 2 ^ 16) (g1 : y1 < 2 ^ 16) (g2 : y2 < 2 ^ 16) (g3 : y3 < 2 ^ 16) where
  abbrev c0 : ℤ
  c0 = sub_ℕ a0 (2 ^ 31)

  abbrev c1 : ℤ
  c1 = sub_ℕ a1 (2 ^ 31)

  abbrev c2 : ℤ
  c2 = sub_ℕ a2 (2 ^ 31)

  abbrev c3 : ℤ
  c3 = sub_ℕ a3 (2 ^ 31)

  abbrev x0 : ℤ
  x0 = sub_ℕ y0 (2 ^ 15)

  abbrev x1 : ℤ
  x1 = sub_ℕ y1 (2 ^ 15)

  abbrev x2 : ℤ
  x2 = sub_ℕ y2 (2 ^ 15)

  abbrev x3 : ℤ
  x3 = sub_ℕ y3 (2 ^ 15)

  sums : plus (plus (plus (plus v c0 x0) c1 x1) c2 x2) c3 x3
      ≡ (v + (a0 * y0 + cost a0 y0) + (a1 * y1 + cost a1 y1) + (a2 * y2 + cost a2 y2) + (a3 * y3 + cost a3 y3)) % 2 ^ 64
  sums =
      let u0 = v + (a0 * y0 + cost a0 y0) in
      let u1 = u0 + (a1 * y1 + cost a1 y1) in
      let u2 = u1 + (a2 * y2 + cost a2 y2) in
      let s0 : plus v c0 x0 ≡ u0 % 2 ^ 64 = sum_first a0 y0 h0 g0 v in
      let s1 : plus (plus v c0 x0) c1 x1 ≡ u1 % 2 ^ 64 = ap (λ n. plus n c1 x1) s0 ∙ sum_next a1 y1 h1 g1 u0 in
      let s2 : plus (plus (plus v c0 x0) c1 x1) c2 x2 ≡ u2 % 2 ^ 64 = ap (λ n. plus n c2 x2) s1 ∙ sum_next a2 y2 h2 g2 u1 in
      ap (λ n. plus n c3 x3) s2 ∙ sum_next a3 y3 h3 g3 u2

  total : (g w : ℕ) → (((v + (w + g)) % 2 ^ 64) + (a0 * y0 + a1 * y1 + a2 * y2 + a3 * y3)) % 2 ^ 64
      ≡ (plus (plus (plus (plus v c0 x0) c1 x1) c2 x2) c3 x3
      + ((w + (offset_of a0 + offset_of a1 + offset_of a2 + offset_of a3)) % 2 ^ 64
      + (g + 2 ^ 31 * (y0 + y1 + y2 + y3)) % 2 ^ 64)) % 2 ^ 64
  total g w =
      let m = offset_of a0 + offset_of a1 + offset_of a2 + offset_of a3 in
      let p = a0 * y0 + a1 * y1 + a2 * y2 + a3 * y3 in
      let d = cost a0 y0 + cost a1 y1 + cost a2 y2 + cost a3 y3 in
      let k : d + m + 2 ^ 31 * (y0 + y1 + y2 + y3) ≡ 2 ^ 67 =
      costs a0 a1 a2 a3 y0 y1 y2 y3 (cost a0 y0) (cost a1 y1) (cost a2 y2) (cost a3 y3) (cost_exact a0 y0 h0 g0) (cost_exact a1 y1 h1 g1) (cost_exact a2 y2 h2 g2) (cost_exact a3 y3 h3 g3) in
      mod_left (v + (w + g)) p ∙ turned v p w g d m (2 ^ 31 * (y0 + y1 + y2 + y3)) k
      ∙ sym (mod_three (v + p + d) (w + m) (g + 2 ^ 31 * (y0 + y1 + y2 + y3)))
      ∙ ap (λ n. (n + ((w + m) % 2 ^ 64 + (g + 2 ^ 31 * (y0 + y1 + y2 + y3)) % 2 ^ 64)) % 2 ^ 64)
      (ap (λ n. n % 2 ^ 64) (spread v (a0 * y0) (a1 * y1) (a2 * y2) (a3 * y3) (cost a0 y0) (cost a1 y1) (cost a2 y2) (cost a3 y3)) ∙ sym sums)

mod_lt32 : (c : ℕ) → c % 2 ^ 32 < 2 ^ 32
mod_lt32 c = omega arith

-- what `four` makes of a raised sum is the sum with four products, raised further
pub four_raised : (n v g c0 c1 c2 c3 : ℕ) (y : List ℕ) → ((k : ℕ) → get_or y k 0 < 2 ^ 16)
    → four_products (raised_by v g n) (c0 ∷ c1 ∷ c2 ∷ c3 ∷ []) y
    ≡ raised_by (offset_below_of (offset_below_of (offset_below_of (offset_below_of v c0) c1) c2) c3) (bias_after_of g y)
    (four_sums n (coefficient_in c0) (coefficient_in c1) (coefficient_in c2) (coefficient_in c3) (sample_in (get_or y 0 0)) (sample_in (get_or y 1 0)) (sample_in (get_or y 2 0)) (sample_in (get_or y 3 0)))
unfolding four_products four_sums
four_raised n v g c0 c1 c2 c3 y low =
    total n (c0 % 2 ^ 32) (c1 % 2 ^ 32) (c2 % 2 ^ 32) (c3 % 2 ^ 32) (get_or y 0 0) (get_or y 1 0) (get_or y 2 0) (get_or y 3 0) (mod_lt32 c0) (mod_lt32 c1) (mod_lt32 c2) (mod_lt32 c3) (low 0) (low 1) (low 2) (low 3) g v
    ∙ ap (λ l. (fours + (l + bias_after_of g y)) % 2 ^ 64)
    (sym (offsets_four v (offset_of (c0 % 2 ^ 32)) (offset_of (c1 % 2 ^ 32)) (offset_of (c2 % 2 ^ 32)) (offset_of (c3 % 2 ^ 32))))
  where
    fours : ℕ
    fours = plus (plus (plus (plus n (coefficient_in c0) (sample_in (get_or y 0 0))) (coefficient_in c1) (sample_in (get_or y 1 0))) (coefficient_in c2) (sample_in (get_or y 2 0))) (coefficient_in c3) (sample_in (get_or y 3 0))

-- four sums are a word
pub four_word : (n : ℕ) (a b c d x0 x1 x2 x3 : ℤ) → four_sums n a b c d x0 x1 x2 x3 < 2 ^ 64
unfolding four_sums
four_word n a b c d x0 x1 x2 x3 = wrapped_lt (pos (plus (plus (plus n a x0) b x1) c x2) +ℤ d *ℤ x3)

-- a word is known by what it is raised to
pub raised_one : (v g m n : ℕ) → m < 2 ^ 64 → n < 2 ^ 64 → raised_by v g m ≡ raised_by v g n → m ≡ n
raised_one v g m n k l e = cancel (v + g) m n k l e
  where
    cancel : (a m n : ℕ) → m < 2 ^ 64 → n < 2 ^ 64 → (m + a) % 2 ^ 64 ≡ (n + a) % 2 ^ 64 → m ≡ n
    cancel a m n k l e = omega arith
