-- The decimal digits of a number, from the last one on, and how many there are. Assumes nothing.
use borrow.Author.Tests.{lt-ltb, le-ltb}
use mathlib.Core.Path.{◌≡◌, refl, ap, ◌∙◌}
use mathlib.Core.List.{List, [], ◌∷◌, ◌++◌, append_assoc}
use mathlib.Core.Logic.{⊎_elim}
use Prim.Native.Nat.{ℕ, zero, suc, ◌+◌, ◌*◌, ◌/◌, ◌%◌, ◌^◌, ◌≤◌, ◌<◌}
use native.Mathlib.Omega.{arith}
use native.Mathlib.Numerals.{unary_clauses}
use lib.ListN.{length, length-append}
use Rattle.word.proofs.Order.{lt_or_le}
use Rattle.text.specs.Numbers.{decimal_by, decimal}
use Rattle.text.specs.Inner.{pair_of}

pub pow-suc : (k : ℕ) → 10 ^ suc k ≡ 10 ^ k * 10
pow-suc k = simp unary_clauses

pub ten_pos : (k : ℕ) → 1 ≤ 10 ^ k
ten_pos zero = omega arith
ten_pos (suc k) = omega (arith, ten_pos k, pow-suc k)

-- ---- the digits before the last one

-- more divisions than enough change nothing
decimal_by_any : (f g n : ℕ) → n ≤ f → n ≤ g → decimal_by f n ≡ decimal_by g n
unfolding decimal_by
decimal_by_any zero zero n hf hg = refl
decimal_by_any zero (suc g) n hf hg = rw (lt-ltb n 10 (omega arith))
decimal_by_any (suc f) zero n hf hg = rw (lt-ltb n 10 (omega arith))
decimal_by_any (suc f) (suc g) n hf hg =
    ⊎_elim (λ a. rw (lt-ltb n 10 a))
    (λ a. rw (le-ltb n 10 a) (ap (λ (l : List ℕ). l ++ ((48 + n % 10) ∷ [])) (decimal_by_any f g (n / 10) (omega arith) (omega arith))))
    (lt_or_le n 10)

pub decimal_one : (n : ℕ) → n < 10 → decimal n ≡ (48 + n) ∷ []
unfolding decimal decimal_by
decimal_one zero h = refl
decimal_one (suc n) h = rw (lt-ltb (suc n) 10 h)

pub decimal_more : (n : ℕ) → 10 ≤ n → decimal n ≡ decimal (n / 10) ++ ((48 + n % 10) ∷ [])
unfolding decimal decimal_by
decimal_more zero h = absurd (omega arith)
decimal_more (suc n) h = rw (le-ltb (suc n) 10 h) (ap (λ (l : List ℕ). l ++ ((48 + suc n % 10) ∷ [])) (decimal_by_any n (suc n / 10) (suc n / 10) (omega arith) (omega arith)))

-- the two last digits
pub decimal_two : (n : ℕ) → 10 ≤ n → n < 100 → decimal n ≡ pair_of n
decimal_two n h k = decimal_more n h ∙ ap (λ (l : List ℕ). l ++ ((48 + n % 10) ∷ [])) (decimal_one (n / 10) (omega arith))

pub decimal_pair : (n : ℕ) → 100 ≤ n → decimal n ≡ decimal (n / 100) ++ pair_of (n % 100)
decimal_pair n h =
    let up : n / 10 / 10 ≡ n / 100 = omega arith in
    let tens : n / 10 % 10 ≡ n % 100 / 10 = omega arith in
    let ones : n % 10 ≡ n % 100 % 10 = omega arith in
    decimal_more n (omega arith)
    ∙ ap (λ (l : List ℕ). l ++ ((48 + n % 10) ∷ [])) (decimal_more (n / 10) (omega arith))
    ∙ append_assoc (decimal (n / 10 / 10)) ((48 + n / 10 % 10) ∷ []) ((48 + n % 10) ∷ [])
    ∙ rw (up, tens, ones)

-- the four last digits
pub decimal_pairs : (n : ℕ) → 10000 ≤ n → decimal n ≡ decimal (n / 10000) ++ (pair_of (n / 100 % 100) ++ pair_of (n % 100))
decimal_pairs n h =
    let up : n / 100 / 100 ≡ n / 10000 = omega arith in
    decimal_pair n (omega arith)
    ∙ ap (λ (l : List ℕ). l ++ pair_of (n % 100)) (decimal_pair (n / 100) (omega arith))
    ∙ append_assoc (decimal (n / 100 / 100)) (pair_of (n / 100 % 100)) (pair_of (n % 100))
    ∙ rw up

-- ---- how many there are

pub digits_one : (n : ℕ) → n < 10 → length (decimal n) ≡ 1
digits_one n h = ap length (decimal_one n h)

pub digits_more : (n : ℕ) → 10 ≤ n → length (decimal n) ≡ suc (length (decimal (n / 10)))
digits_more n h = ap length (decimal_more n h) ∙ length-append (decimal (n / 10)) ((48 + n % 10) ∷ []) ∙ omega arith

pub digits_two : (n : ℕ) → 10 ≤ n → n < 100 → length (decimal n) ≡ 2
digits_two n h k = omega (arith, digits_more n h, digits_one (n / 10) (omega arith))

-- two digits, and those before them
pub digits_pair : (n : ℕ) → 100 ≤ n → length (decimal n) ≡ length (decimal (n / 100)) + 2
digits_pair n h = ap length (decimal_pair n h) ∙ length-append (decimal (n / 100)) (pair_of (n % 100))

pub digits_three : (n : ℕ) → 100 ≤ n → n < 1000 → length (decimal n) ≡ 3
digits_three n h k = omega (arith, digits_more n (omega arith), digits_two (n / 10) (omega arith) (omega arith))

pub digits_four : (n : ℕ) → 1000 ≤ n → n < 10000 → length (decimal n) ≡ 4
digits_four n h k = omega (arith, digits_more n (omega arith), digits_three (n / 10) (omega arith) (omega arith))

-- four digits, and those before them
pub digits_past_four : (n : ℕ) → 10000 ≤ n → length (decimal n) ≡ 4 + length (decimal (n / 10000))
digits_past_four n h =
    let e : n / 10 / 10 / 10 / 10 ≡ n / 10000 = omega arith in
    let d = ap (λ (k : ℕ). length (decimal k)) e in
    omega (
      arith,
      digits_more n (omega arith),
      digits_more (n / 10) (omega arith),
      digits_more (n / 10 / 10) (omega arith),
      digits_more (n / 10 / 10 / 10) (omega arith),
    )

-- a number below 10^k has at most k digits
decimal_by_le : (f k n : ℕ) → n ≤ f → 1 ≤ k → n < 10 ^ k → length (decimal_by f n) ≤ k
unfolding decimal_by
decimal_by_le f zero n hf h1 hk = absurd (omega arith)
decimal_by_le zero (suc k) n hf h1 hk = omega arith
decimal_by_le (suc f) (suc zero) n hf h1 hk = rw (lt-ltb n 10 (omega arith)) (omega arith)
decimal_by_le (suc f) (suc (suc k)) n hf h1 hk =
    ⊎_elim (λ a. rw (lt-ltb n 10 a) (omega arith))
    (λ a. rw (le-ltb n 10 a) (simp length-append (omega (arith, decimal_by_le f (suc k) (n / 10) (omega arith) (omega arith) (omega (arith, pow-suc (suc k)))))))
    (lt_or_le n 10)

pub decimal_le : (k n : ℕ) → 1 ≤ k → n < 10 ^ k → length (decimal n) ≤ k
unfolding decimal
decimal_le k n h1 hk = decimal_by_le n k n (omega arith) h1 hk
