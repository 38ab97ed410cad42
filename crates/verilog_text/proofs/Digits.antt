-- The bytes of a number are digits, one by one. Assumes nothing.
use borrow.Author.Tests.{leb-true}
use mathlib.Core.Path.{◌≡◌}
use mathlib.Core.Bool.{true}
use mathlib.Core.List.{List, [], ◌∷◌}
use Prim.Native.Nat.{ℕ, ◌≤◌}
use lib.Dec.{leb}
use Rattle.verilog.proofs.Order.{both}
use Rattle.text.specs.Numbers.{decimal, is_digit, are_digits}
use Rattle.text.proofs.Readback.{decimal_digits}

pub data AllDigits : List ℕ → Type 0 where
  no_more : AllDigits []
  a_digit : (d : ℕ) {bs : List ℕ} → 48 ≤ d → d ≤ 57 → AllDigits bs → AllDigits (d ∷ bs)

are_digits_lem : (bs : List ℕ) → are_digits bs ≡ true → AllDigits bs
unfolding are_digits
are_digits_lem [] e = no_more
are_digits_lem (b ∷ bs) e =
    let w = both (is_digit b) (are_digits bs) e in
    let d = both (leb 48 b) (leb b 57) w.0 in
    a_digit b (leb-true 48 b d.0) (leb-true b 57 d.1) (are_digits_lem bs w.1)

pub all_digits : (n : ℕ) → AllDigits (decimal n)
all_digits n = are_digits_lem (decimal n) (decimal_digits n)
