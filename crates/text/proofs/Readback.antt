-- What the decimal digits of a number say, read back: they give the number, and none of them is idle. No function's proof cites this. Assumes nothing.
use borrow.Author.Tests.{lt-ltb, le-ltb, le-leb}
use mathlib.Core.Path.{◌≡◌, refl, ◌∙◌}
use mathlib.Core.Bool.{Bool, true, false, ◌&&◌, false≢true}
use mathlib.Core.List.{List, [], ◌∷◌, ◌++◌}
use mathlib.Core.Logic.{⊎_elim}
use Prim.Native.Nat.{ℕ, zero, suc, ◌+◌, ◌-◌, ◌*◌, ◌/◌, ◌%◌, ◌^◌, ◌≤◌, ◌<◌}
use native.Mathlib.Omega.{arith}
use lib.ListN.{length, length-append}
use Rattle.word.proofs.Order.{lt_or_le}
use Rattle.text.specs.Numbers.{decimal_by, decimal, is_digit, are_digits, number_from}
use Rattle.text.specs.Claims.{NumberClaims}
use Rattle.text.proofs.Decimals.{pow-suc, ten_pos, decimal_le}

number_snoc : (xs : List ℕ) (a d : ℕ) → number_from a (xs ++ (d ∷ [])) ≡ 10 * number_from a xs + (d - 48)
unfolding number_from
number_snoc [] a d = refl
number_snoc (x ∷ xs) a d = number_snoc xs (10 * a + (x - 48)) d

back_by : (f n : ℕ) → n ≤ f → number_from 0 (decimal_by f n) ≡ n
unfolding decimal_by number_from
back_by zero n h = omega arith
back_by (suc f) n h =
    ⊎_elim (λ a. rw (lt-ltb n 10 a) (omega arith))
    (λ a. rw (le-ltb n 10 a) (number_snoc (decimal_by f (n / 10)) 0 (48 + n % 10) ∙ ends n (back_by f (n / 10) (omega arith))))
    (lt_or_le n 10)
  where
    ends : (n : ℕ) {x : ℕ} → x ≡ n / 10 → 10 * x + (48 + n % 10 - 48) ≡ n
    ends n e = omega (arith, e)

-- the digits' number is n
pub decimal_back : (n : ℕ) → number_from 0 (decimal n) ≡ n
unfolding decimal
decimal_back n = back_by n n (omega arith)

-- every byte is an ASCII digit
one_digit : (d : ℕ) → 48 ≤ d → d ≤ 57 → are_digits (d ∷ []) ≡ true
unfolding are_digits
one_digit d h k = rw (le-leb 48 d h, le-leb d 57 k)

digits_snoc : (xs ys : List ℕ) → are_digits xs ≡ true → are_digits ys ≡ true → are_digits (xs ++ ys) ≡ true
unfolding are_digits
digits_snoc [] ys h k = k
digits_snoc (x ∷ xs) ys h k = go (is_digit x) h (λ e. digits_snoc xs ys e k)
  where
    go : (b : Bool) → (b && are_digits xs) ≡ true → (are_digits xs ≡ true → are_digits (xs ++ ys) ≡ true) → (b && are_digits (xs ++ ys)) ≡ true
    go true e f = f e
    go false e f = absurd (false≢true e)

all_by : (f n : ℕ) → n ≤ f → are_digits (decimal_by f n) ≡ true
unfolding decimal_by
all_by zero n h = one_digit (48 + n) (omega arith) (omega arith)
all_by (suc f) n h =
    ⊎_elim (λ a. rw (lt-ltb n 10 a) (one_digit (48 + n) (omega arith) (omega arith)))
    (λ a. rw (le-ltb n 10 a) (digits_snoc (decimal_by f (n / 10)) ((48 + n % 10) ∷ []) (all_by f (n / 10) (omega arith)) (one_digit (48 + n % 10) (omega arith) (omega arith))))
    (lt_or_le n 10)

pub decimal_digits : (n : ℕ) → are_digits (decimal n) ≡ true
unfolding decimal
decimal_digits n = all_by n n (omega arith)

some : (f n : ℕ) → 0 < length (decimal_by f n)
unfolding decimal_by
some zero n = omega arith
some (suc f) n =
    ⊎_elim (λ a. rw (lt-ltb n 10 a) (omega arith))
    (λ a. rw (le-ltb n 10 a) (simp length-append (omega arith)))
    (lt_or_le n 10)

long_by : (f k n : ℕ) → n ≤ f → 10 ^ k ≤ n → k < length (decimal_by f n)
unfolding decimal_by
long_by f zero n h g = some f n
long_by zero (suc k) n h g = absurd (omega (arith, ten_pos k, pow-suc k))
long_by (suc f) (suc k) n h g =
    let t : 10 ≤ n = omega (arith, ten_pos k, pow-suc k) in
    rw (le-ltb n 10 t) (simp length-append (omega (arith, long_by f k (n / 10) (omega arith) (omega (arith, pow-suc k)))))

-- none is idle: a number from 10^k on has more than k digits, and one below 10^k at most k (`decimal_le` in proofs/Decimals.antt)
pub decimal_long : (k n : ℕ) → 10 ^ k ≤ n → k < length (decimal n)
unfolding decimal
decimal_long k n g = long_by n k n (omega arith) g

pub number_claims : NumberClaims
number_claims = record { back = decimal_back; digits = decimal_digits; enough = decimal_long; no_more = decimal_le }
