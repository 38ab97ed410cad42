-- 64-bit words. Document 01, "The network": "Sums wrap modulo 2^64 and are read as signed". Definitions only; words are read as signed by mir's `to_z w64`.
use Rattle.std.specs.Prelude.{ℕ, ◌-◌, ◌%◌, ◌^◌, ℤ, pos, negsuc}

-- the word, from 0 to 2^64 - 1, that differs from z by a multiple of 2^64
abbrev pub wrapped : ℤ → ℕ
wrapped (pos n) = n % 2 ^ 64
wrapped (negsuc n) = 2 ^ 64 - 1 - n % 2 ^ 64
