-- The recurrence of the least weights, its bounds, and the walk over the bits from the high end. Assumes nothing.
use Rattle.std.proofs.Common.{◌≡◌, ℕ, zero, suc, ◌+◌, ◌-◌, ◌/◌, ◌%◌, ◌^◌, ◌<◌, ◌≤◌, ◌≢◌, Bool, true, false, ltb, sym, refl, ap, ◌∙◌, pow-suc, div-one, arith, pow_mono, ltb-false, ltb-true, le-ltb, lt-ltb}
use native.Mathlib.Nat.{two-pow-succ, div-div-eq-div-mul}
use Rattle.bench_second.specs.declared.form.LeastWeight.{LeastWeight}
use Rattle.bench_second.specs.Inner.{of_odd_of, Both, with_bit, least_both}

-- ---- the three cases of an odd number
module _ (a b : LeastWeight) where
  pub odd_less : a.weight < b.weight → of_odd_of a b ≡ record { weight = a.weight + 1; count = a.count }
  unfolding of_odd_of
  odd_less h = rw (lt-ltb a.weight b.weight h)

  pub odd_more : b.weight < a.weight → of_odd_of a b ≡ record { weight = b.weight + 1; count = b.count }
  unfolding of_odd_of
  odd_more h =
      let e : ltb a.weight b.weight ≡ false = le-ltb a.weight b.weight (omega arith) in
      rw (e, lt-ltb b.weight a.weight h)

  pub odd_same : b.weight ≤ a.weight → a.weight ≤ b.weight → of_odd_of a b ≡ record { weight = a.weight + 1; count = a.count + b.count }
  unfolding of_odd_of
  odd_same h k = rw (le-ltb a.weight b.weight h, le-ltb b.weight a.weight k)

-- ---- bounds
pub record Bounded (t : ℕ) (p : Both) : Type 0 where
  pub this_weight : p.this.weight ≤ t
  pub next_weight : p.next.weight ≤ t + 1
  pub this_count : 1 ≤ p.this.count
  pub next_count : 1 ≤ p.next.count
  pub both_count : p.this.count + p.next.count ≤ 2 ^ t + 1

record OddBounded (t : ℕ) (p : Both) (o : LeastWeight) : Type 0 where
  weight_to : o.weight ≤ t + 1
  count_from : 1 ≤ o.count
  with_this : p.this.count + o.count ≤ 2 ^ suc t + 1
  with_next : o.count + p.next.count ≤ 2 ^ suc t + 1

odd_bounded : (t : ℕ) (p : Both) → Bounded t p → (x y : Bool) → ltb p.this.weight p.next.weight ≡ x → ltb p.next.weight p.this.weight ≡ y
    → OddBounded t p (of_odd_of p.this p.next)
odd_bounded t p h true y e f =
    let d = two-pow-succ t in
    rw (odd_less p.this p.next (ltb-true _ _ e)) (record { weight_to = omega arith; count_from = omega arith; with_this = omega arith; with_next = omega arith })
odd_bounded t p h false true e f =
    let d = two-pow-succ t in
    let l = ltb-true p.next.weight p.this.weight f in
    rw (odd_more p.this p.next l) (record { weight_to = omega arith; count_from = omega arith; with_this = omega arith; with_next = omega arith })
odd_bounded t p h false false e f =
    let d = two-pow-succ t in
    rw (odd_same p.this p.next (ltb-false _ _ e) (ltb-false _ _ f)) (record { weight_to = omega arith; count_from = omega arith; with_this = omega arith; with_next = omega arith })

bounded_bit : (t b : ℕ) (p : Both) → Bounded t p → Bounded (suc t) (with_bit b p)
unfolding with_bit
bounded_bit t zero p h =
    let o = odd_bounded t p h (ltb p.this.weight p.next.weight) (ltb p.next.weight p.this.weight) refl refl in
    record { this_weight = omega arith; next_weight = omega arith; this_count = omega arith; next_count = omega arith; both_count = o.with_this }
bounded_bit t (suc b) p h =
    let o = odd_bounded t p h (ltb p.this.weight p.next.weight) (ltb p.next.weight p.this.weight) refl refl in
    record { this_weight = omega arith; next_weight = omega arith; this_count = omega arith; next_count = omega arith; both_count = o.with_next }

bounded : (t m : ℕ) → Bounded t (least_both t m)
unfolding least_both
bounded zero m = record { this_weight = omega arith; next_weight = omega arith; this_count = omega arith; next_count = omega arith; both_count = omega arith }
bounded (suc t) m = bounded_bit t (m % 2) (least_both t (m / 2)) (bounded t (m / 2))

-- ---- the walk: the bits from `place` on are passed
abbrev both : LeastWeight → LeastWeight → Both
both a b = record { this = a; next = b }

pub record Walked (m place : ℕ) (h x : LeastWeight) : Type 0 where
  found : both h x ≡ least_both (32 - place) (m / 2 ^ place)

one_more : (m p : ℕ) → 0 < p → p ≤ 32 → least_both (32 - (p - 1)) (m / 2 ^ (p - 1)) ≡ with_bit (m / 2 ^ (p - 1) % 2) (least_both (32 - p) (m / 2 ^ p))
unfolding least_both
one_more m p h l =
    let k : ℕ = p - 1 in
    let s : suc k ≡ p = omega arith in
    let e : 32 - k ≡ suc (32 - p) = omega arith in
    ap (λ (n : ℕ). least_both n (m / 2 ^ k)) e
    ∙ ap (λ (q : ℕ). with_bit (m / 2 ^ k % 2) (least_both (32 - p) q)) (div-div-eq-div-mul m (2 ^ k) 2 ∙ ap (λ (n : ℕ). m / n) (sym (pow-suc 2 k)) ∙ ap (λ (n : ℕ). m / 2 ^ n) s)

bit_even : (b : ℕ) (p : Both) → b ≡ 0 → with_bit b p ≡ both p.this (of_odd_of p.this p.next)
unfolding with_bit
bit_even zero p e = refl
bit_even (suc b) p e = absurd (omega arith)

bit_odd : (b : ℕ) (p : Both) → b ≢ 0 → with_bit b p ≡ both (of_odd_of p.this p.next) p.next
unfolding with_bit
bit_odd zero p e = absurd (e refl)
bit_odd (suc b) p e = refl

pub walked_none : (m : ℕ) → Walked m 32 (record { weight = 0; count = 1 }) (record { weight = 1; count = 1 })
unfolding least_both
walked_none m = record { found = refl }

module _ (m p : ℕ) (h x : LeastWeight) (from : 0 < p) (to : p ≤ 32) (w : Walked m p h x) where
  pub room : ((h.weight ≤ 33) × (x.weight ≤ 33)) × (h.count + x.count < 2 ^ 32)
  room =
      let b : Bounded (32 - p) (both h x) = rw w.found (bounded (32 - p) (m / 2 ^ p)) in
      let q : 2 ^ (32 - p) ≤ 2 ^ 31 = pow_mono {j = 31} (omega arith) in
      ((omega arith, omega arith), omega arith)

  bit_found : least_both (32 - (p - 1)) (m / 2 ^ (p - 1)) ≡ with_bit (m / 2 ^ (p - 1) % 2) (both h x)
  bit_found = one_more m p from to ∙ ap (with_bit (m / 2 ^ (p - 1) % 2)) (sym w.found)

  pub walked_even : m / 2 ^ (p - 1) % 2 ≡ 0 → Walked m (p - 1) h (of_odd_of h x)
  walked_even e = record { found = sym (bit_found ∙ bit_even (m / 2 ^ (p - 1) % 2) (both h x) e) }

  pub walked_odd : m / 2 ^ (p - 1) % 2 ≢ 0 → Walked m (p - 1) (of_odd_of h x) x
  walked_odd e = record { found = sym (bit_found ∙ bit_odd (m / 2 ^ (p - 1) % 2) (both h x) e) }

pub walked_all : (m : ℕ) (h x : LeastWeight) → Walked m 0 h x → h ≡ (least_both 32 m).this
walked_all m h x w = ap (λ (p : Both). p.this) w.found ∙ ap (λ (q : ℕ). (least_both 32 q).this) (div-one m)
