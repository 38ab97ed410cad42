-- `text::digits` meets its contract: up to four digits by comparisons, each of which adds 1, else four and those before them. Assumes nothing.
use borrow.Author.Tests.{lt-ltb, le-ltb}
use mathlib.Core.Path.{◌≡◌, sym}
use mathlib.Core.Bool.{Bool, true, false}
use mathlib.Core.Logic.{⊎_elim}
use Prim.Native.Nat.{ℕ, ◌+◌, ◌≤◌, ◌<◌}
use native.Mathlib.Omega.{arith}
use lib.Dec.{lit≤, ltb}
use lib.ListN.{length}
use mir.Val.{bool_byte}
use Rattle.word.proofs.Order.{lt_or_le}
use Rattle.text.specs.Numbers.{decimal}
use Rattle.text.specs.Inner.{number_bytes}
use Rattle.text.proofs.Decimals.{digits_one, digits_two, digits_three, digits_four, digits_past_four, decimal_le}
use Rattle.text.proofs.+digits.Goals as goal

at_most_one : (b : Bool) → bool_byte b ≤ 1
at_most_one true = omega arith
at_most_one false = omega arith

at_most_four : (a b c : Bool) → 1 + bool_byte a + bool_byte b + bool_byte c ≤ number_bytes
at_most_four a b c = omega (arith, at_most_one a, at_most_one b, at_most_one c)

up_to_four : (n : ℕ) → n < 10000 → 1 + bool_byte (ltb 9 n) + bool_byte (ltb 99 n) + bool_byte (ltb 999 n) ≡ length (decimal n)
up_to_four n h =
    ⊎_elim (λ (a : n < 10). rw (le-ltb 9 n (omega (arith, a)), le-ltb 99 n (omega (arith, a)), le-ltb 999 n (omega (arith, a))) (sym (digits_one n a)))
    (λ (b : 10 ≤ n). ⊎_elim (λ (a : n < 100). rw (lt-ltb 9 n (omega (arith, b)), le-ltb 99 n (omega (arith, a)), le-ltb 999 n (omega (arith, a))) (sym (digits_two n b a)))
    (λ (c : 100 ≤ n). ⊎_elim (λ (a : n < 1000). rw (lt-ltb 9 n (omega (arith, c)), lt-ltb 99 n (omega (arith, c)), le-ltb 999 n (omega (arith, a))) (sym (digits_three n c a)))
    (λ (d : 1000 ≤ n). rw (lt-ltb 9 n (omega (arith, d)), lt-ltb 99 n (omega (arith, d)), lt-ltb 999 n (omega (arith, d))) (sym (digits_four n d h)))
    (lt_or_le n 1000)) (lt_or_le n 100)) (lt_or_le n 10)

pub returns-then-n-lt10000 : goal.returns-then-n-lt10000
returns-then-n-lt10000 t c =
    let n = c.args.n in
    (up_to_four n c.if-n-lt10000.true, at_most_four (ltb 9 n) (ltb 99 n) (ltb _ n))

pub returns : goal.returns
returns t c =
    let n = c.args.n in
    let all : 4 + c.digits.result ≡ length (decimal n) = omega (arith, c.digits.ensures.0, digits_past_four n c.if-n-lt10000.false) in
    (all, omega (arith, all, decimal_le number_bytes n (lit≤ tt) (omega (arith, c.ranges.n))))
