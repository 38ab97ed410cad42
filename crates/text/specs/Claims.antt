-- What is claimed of numbers in decimal digits. Definitions only; proofs/Readback.antt proves it.
use Rattle.std.specs.Prelude.{◌≡◌, true, ℕ, ◌^◌, ◌≤◌, ◌<◌, length}
use Rattle.text.specs.Numbers.{decimal, are_digits, number_from}

pub record NumberClaims : Type 0 where
  -- the digits read back are the number
  pub back : (n : ℕ) → number_from 0 (decimal n) ≡ n
  -- every byte is a digit
  pub digits : (n : ℕ) → are_digits (decimal n) ≡ true
  -- and none is idle: a number from 10^k on has more than k of them, one below 10^k has at most k
  pub enough : (k n : ℕ) → 10 ^ k ≤ n → k < length (decimal n)
  pub no_more : (k n : ℕ) → 1 ≤ k → n < 10 ^ k → length (decimal n) ≤ k
