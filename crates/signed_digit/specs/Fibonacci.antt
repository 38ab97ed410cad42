-- The Fibonacci numbers 0, 1, 1, 2, 3, 5, .., which bound the number of forms. Fibonacci(17) is document 01's 1,597.
use Rattle.std.specs.Prelude.{ℕ, zero, suc, ◌+◌}

abbrev pub fibonacci : ℕ → ℕ
fibonacci zero = 0
fibonacci (suc zero) = 1
fibonacci (suc (suc n)) = fibonacci (suc n) + fibonacci n
