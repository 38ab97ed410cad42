-- The mask of a cell written into a table: its ones are taken one after the other, and what is there with what is left is always the same. Assumes nothing.
use mathlib.Core.Path.{◌≡◌, refl, sym, ap, ap₂, ◌∙◌, subst}
use mathlib.Core.Bool.{Bool, true, false, cond}
use mathlib.Core.Logic.{◌≢◌}
use mathlib.Core.List.{List, ◌++◌}
use Prim.Native.Nat.{ℕ, zero, suc, ◌+◌, ◌-◌, ◌*◌, ◌≤◌, ◌<◌, ◌/◌, ◌%◌, ◌^◌}
use native.Mathlib.Nat.{pow-suc, one-le-pow, mod-eq_of_lt, pow-le-pow_right}
use native.Mathlib.Omega.{arith}
use borrow.Author.Tests.{eq-eqb, eqb-true, eqb-false}
use lib.Dec.{eqb}
use lib.ListN.{length, get_or, set, drop, take-append-drop, length-set}
use lib.Seq.{get_or-set_same, get_or-set_other, drop-set-lt}
use Rattle.sequence.specs.UpTo.{up_to}
use Rattle.sequence.proofs.UpTo.{length_up_to, get_d_up_to, up_to_take}
use Rattle.plane_masks.specs.Binary.{bit_at}
use Rattle.plane_words.specs.Inner.{share, with_cell}
use Rattle.plane_masks.proofs.Binary.{bit_small, no_bit}
use Rattle.plane_words.proofs.Places.{one_le, without_here, without_there}
use Rattle.plane_masks.proofs.Lists.{listed}

-- a one shifted within its word
pub shifted : (k w : ℕ) → k < w → 1 * 2 ^ k % 2 ^ w ≡ 2 ^ k
shifted k w h =
    let g : 2 ^ suc k ≤ 2 ^ w = pow-le-pow_right (omega arith) h in
    let z : 1 ≤ 2 ^ k = one-le-pow k 2 (omega arith) in
    let o : 1 * 2 ^ k ≡ 2 ^ k = omega arith in
    ap (λ (x : ℕ). x % 2 ^ w) o ∙ mod-eq_of_lt (omega (arith, pow-suc 2 k))

-- ---- writing the ones of a mask, one after the other
pub record Adding (t₀ : List ℕ) (c mask rest : ℕ) (t : List ℕ) : Type 0 where
  pub size : length t ≡ length t₀
  pub same : (k : ℕ) → k < 128 → get_or t k 0 + 2 ^ (c % 64) * share rest c k ≡ get_or t₀ k 0 + 2 ^ (c % 64) * share mask c k
  pub past : drop 128 t ≡ drop 128 t₀

pub adding_start : (t : List ℕ) (c mask : ℕ) → Adding t c mask mask t
adding_start t c mask = record { size = refl; same = λ (k : ℕ) h. refl; past = refl }

-- the share of a word in this plane, and of others
module _ (c p : ℕ) (few : c < 256) where
  share_here : (mask : ℕ) → share mask c (4 * p + c / 64) ≡ bit_at mask p
  unfolding share
  share_here mask =
      let q : (4 * p + c / 64) / 4 ≡ p = omega arith in
      ap (λ (b : Bool). cond b (bit_at mask ((4 * p + c / 64) / 4)) 0) (eq-eqb ((4 * p + c / 64) % 4) (c / 64) (omega arith))
      ∙ ap (bit_at mask) q

  share_there : (rest k : ℕ) → bit_at rest p ≡ 1 → k ≢ 4 * p + c / 64 → share (rest - 2 ^ p) c k ≡ share rest c k
  unfolding share
  share_there rest k b n = go (eqb (k % 4) (c / 64)) refl
    where
      other : (k c p : ℕ) → k ≢ 4 * p + c / 64 → k % 4 ≡ c / 64 → k / 4 ≢ p
      other k c p n e q = n (omega arith)

      go : (t : Bool) → eqb (k % 4) (c / 64) ≡ t → cond t (bit_at (rest - 2 ^ p) (k / 4)) 0 ≡ cond t (bit_at rest (k / 4)) 0
      go true e = without_there p rest (k / 4) b (other k c p n (eqb-true (k % 4) (c / 64) e))
      go false e = refl

-- the place p is taken next
pub record Step (t₀ : List ℕ) (c mask rest : ℕ) (t : List ℕ) (p : ℕ) : Type 0 where
  pub few : c < 256
  pub long : 128 ≤ length t₀
  pub so_far : Adding t₀ c mask rest t
  pub low : p < 32
  pub one : bit_at rest p ≡ 1

module _ {t₀ : List ℕ} {c mask rest : ℕ} {t : List ℕ} {p : ℕ} (s : Step t₀ c mask rest t p) where
  abbrev here : ℕ
  here = 4 * p + c / 64

  within : here < length t
  within = omega (arith, s.so_far.size)

  pub sum_fits : get_or t₀ here 0 < 2 ^ (c % 64) → get_or t here 0 + 2 ^ (c % 64) < 2 ^ 64
  sum_fits h =
      let k : c % 64 ≤ 63 = omega arith in
      let g : 2 ^ (c % 64) ≤ 2 ^ 63 = pow-le-pow_right (omega arith) k in
      let x = ap (λ (s : ℕ). 2 ^ (c % 64) * s) (share_here c p s.few rest ∙ s.one) in
      let y = ap (λ (s : ℕ). 2 ^ (c % 64) * s) (share_here c p s.few mask) in
      bound (get_or t here 0) (get_or t₀ here 0) (2 ^ (c % 64)) (bit_at mask p) (bit_small mask p) h g (omega (arith, x, y, s.so_far.same here (omega arith)))
    where
      bound : (x x₀ b m : ℕ) → m < 2 → x₀ < b → b ≤ 2 ^ 63 → x + b ≡ x₀ + b * m → x + b < 2 ^ 64
      bound x x₀ b zero m h g e = omega arith
      bound x x₀ b (suc zero) m h g e = omega arith
      bound x x₀ b (suc (suc n)) m h g e = absurd (omega arith)

  pub adding_next : Adding t₀ c mask (rest - 2 ^ p) (set t here (get_or t here 0 + 2 ^ (c % 64)))
  adding_next = record {
    size = length-set t here (get_or t here 0 + 2 ^ (c % 64)) ∙ s.so_far.size;
    same = λ (k : ℕ) h. go k h (eqb k here) refl ∙ s.so_far.same k h;
    past = drop-set-lt 128 t here (get_or t here 0 + 2 ^ (c % 64)) (omega arith) ∙ s.so_far.past;
  }
    where
      go : (k : ℕ) → k < 128 → (b : Bool) → eqb k here ≡ b
          → get_or (set t here (get_or t here 0 + 2 ^ (c % 64))) k 0 + 2 ^ (c % 64) * share (rest - 2 ^ p) c k ≡ get_or t k 0 + 2 ^ (c % 64) * share rest c k
      go k h true e =
          let q = eqb-true k here e in
          let u = ap (λ (s : ℕ). 2 ^ (c % 64) * s) (ap (share (rest - 2 ^ p) c) q ∙ share_here c p s.few (rest - 2 ^ p) ∙ without_here p rest s.one) in
          let v = ap (λ (s : ℕ). 2 ^ (c % 64) * s) (ap (share rest c) q ∙ share_here c p s.few rest ∙ s.one) in
          let x = ap (λ (i : ℕ). get_or (set t here (get_or t here 0 + 2 ^ (c % 64))) i 0) q ∙ get_or-set_same t here (get_or t here 0 + 2 ^ (c % 64)) 0 within in
          let y = ap (λ (i : ℕ). get_or t i 0) q in
          omega (arith, u, v, x, y)
      go k h false e =
          let n = eqb-false k here e in
          ap₂ (λ (x s : ℕ). x + 2 ^ (c % 64) * s) (get_or-set_other t here k (get_or t here 0 + 2 ^ (c % 64)) 0 n) (share_there c p s.few rest k s.one n)

  -- as the machine has it
  pub adding_on : Adding t₀ c mask (rest - 1 * 2 ^ p % 2 ^ 32) (set t here (get_or t here 0 + 1 * 2 ^ (c % 64) % 2 ^ 64))
  adding_on =
      subst (λ (o : ℕ). Adding t₀ c mask (rest - o) (set t here (get_or t here 0 + 1 * 2 ^ (c % 64) % 2 ^ 64))) (sym (shifted p 32 s.low))
      (subst (λ (b : ℕ). Adding t₀ c mask (rest - 2 ^ p) (set t here (get_or t here 0 + b))) (sym (shifted (c % 64) 64 (omega arith))) adding_next)

  pub machine_fits : get_or t₀ here 0 < 2 ^ (c % 64) → get_or t here 0 + 1 * 2 ^ (c % 64) % 2 ^ 64 < 2 ^ 64
  machine_fits h = omega (arith, shifted (c % 64) 64 (omega arith), sum_fits h)

  pub taken : (1 * 2 ^ p % 2 ^ 32 ≤ rest) × (rest - 1 * 2 ^ p % 2 ^ 32 < rest)
  taken = let z : 1 ≤ 2 ^ p = one-le-pow p 2 (omega arith) in omega (arith, shifted p 32 s.low, one_le p rest s.one)

no_share : (c k : ℕ) → share 0 c k ≡ 0
unfolding share
no_share c k = go (eqb (k % 4) (c / 64))
  where
    go : (b : Bool) → cond b (bit_at 0 (k / 4)) 0 ≡ 0
    go true = no_bit (k / 4)
    go false = refl

pub adding_end : (t₀ : List ℕ) (c mask rest : ℕ) (t : List ℕ) → 128 ≤ length t₀ → Adding t₀ c mask rest t → rest ≡ 0 → t ≡ with_cell mask c t₀
unfolding with_cell
adding_end t₀ c mask rest t long a z =
    sym (take-append-drop 128 t)
    ∙ ap₂ (λ (x y : List ℕ). x ++ y) (sym (up_to_take t 0 128 (omega (arith, a.size))) ∙ listed 0 (λ (k : ℕ). get_or t k 0) (up_to 128 target) (length_up_to 128 target) same) a.past
  where
    target : ℕ → ℕ
    target k = get_or t₀ k 0 + 2 ^ (c % 64) * share mask c k

    same : (k : ℕ) → k < 128 → get_or t k 0 ≡ get_or (up_to 128 target) k 0
    same k h =
        let u = ap (λ (s : ℕ). 2 ^ (c % 64) * s) (ap (λ (r : ℕ). share r c k) z ∙ no_share c k) in
        omega (arith, u, a.same k h, get_d_up_to 128 target 0 k h)
