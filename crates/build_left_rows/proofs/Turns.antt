-- Turns of the search that do not go with a right row. Assumes nothing.
use mathlib.Core.Path.{◌≡◌, sym, ap, subst, ◌∙◌}
use mathlib.Core.List.{List}
use mathlib.Core.Logic.{⊎_elim}
use Prim.Native.Nat.{ℕ, ◌+◌, ◌-◌, ◌*◌, ◌/◌, ◌%◌, ◌^◌, ◌≤◌, ◌<◌}
use native.Mathlib.Nat.{mul_comm}
use native.Mathlib.Omega.{arith}
use lib.Count.{count_trailing_zeros}
use lib.Pow.{shl-shr}
use Rattle.word.proofs.LowZeros.{low_zeros}
use Rattle.std.proofs.lemmas.Bool.{cases_lt}
use Rattle.network.specs.RowRule.{lifted}
use Rattle.build_index.specs.Inner.{value_at}
use Rattle.build_left_rows.specs.Inner.{NoTurn, NoLeft}

-- ---- a number without its factors 2

shift_is : (x s l : ℕ) → s < 32 → l % 2 ≡ 1 → x ≡ lifted s l → count_trailing_zeros 32 x ≡ s
shift_is x s l b h e = ap (count_trailing_zeros 32) (e ∙ mul_comm (2 ^ s) l) ∙ low_zeros 32 l s h b

odd_part_is : (x s l : ℕ) → s < 32 → l % 2 ≡ 1 → x ≡ lifted s l → x / 2 ^ count_trailing_zeros 32 x ≡ l
odd_part_is x s l b h e =
    let q : x ≡ l * 2 ^ s = e ∙ mul_comm (2 ^ s) l in
    rw (shift_is x s l b h e, q) (shl-shr l s)

-- ---- one number

-- no row below k has its odd part: then its turn is not before row k at its factors 2
pub no_turn : (t : List ℕ) (n m k x : ℕ) → m ≤ 32 * n → ((i : ℕ) → i < n → value_at t i % 2 ≡ 1) → ((i : ℕ) → i < k → value_at t i ≡ x / 2 ^ count_trailing_zeros 32 x → ⊥)
    → m ≤ 32 * k + count_trailing_zeros 32 x → NoTurn t m x
no_turn t n m k x h odd none b s i l w e =
    let o = odd i (omega arith) in
    let z = shift_is x s (value_at t i) l o (sym e) in
    ⊎_elim (λ (f : i < k). none i f (sym (odd_part_is x s (value_at t i) l o (sym e)))) (λ (f : k ≤ i). omega (arith, z)) (cases_lt i k)

pub fewer_turns : (t : List ℕ) (m m' x : ℕ) → m' ≤ m → NoTurn t m x → NoTurn t m' x
fewer_turns t m m' x h none s i l w = none s i l (omega arith)

-- ---- one right row

pub fewer_lefts : {t : List ℕ} {m v r : ℕ} (m' : ℕ) → m' ≤ m → NoLeft t m v r → NoLeft t m' v r
fewer_lefts {t} {m} {v} {r} m' h l = record { no_sum = λ s i a b. l.no_sum s i a (omega arith); no_difference = λ s i a b. l.no_difference s i a (omega arith) }

pub no_left_below_0 : (t : List ℕ) (v r : ℕ) → NoLeft t 0 v r
no_left_below_0 t v r = record { no_sum = λ s i a b. absurd (omega arith); no_difference = λ s i a b. absurd (omega arith) }

-- ---- right rows one after the other

-- what holds at the places that were passed, and at so many more
pub more_places : (P Q : ℕ → Type 0) (k more : ℕ) → ((i : ℕ) → P i → Q i) → ((i : ℕ) → i < k → P i) → ((i : ℕ) → i < more → Q (k + i)) → (i : ℕ) → i < k + more → Q i
more_places P Q k more f passed next i l =
    ⊎_elim (λ (b : i < k). f i (passed i b))
    (λ (b : k ≤ i). let e : k + (i - k) ≡ i = omega arith in subst Q e (next (i - k) (omega arith)))
    (cases_lt i k)
