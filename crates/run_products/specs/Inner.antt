-- Offset binary and four sums at a time, for the contracts of inner functions; document 01 does not speak of them. Definitions only.
use Rattle.std.specs.Prelude.{List, ℕ, ◌+◌, ◌-◌, ◌*◌, ◌%◌, ◌^◌, ℤ, pos, ◌+ℤ◌, ◌-ℤ◌, ◌*ℤ◌, get_or}
use Rattle.run_convolution.specs.Words.{wrapped}

-- the coefficient that is stored with 2^31 added
abbrev pub coefficient_in : ℕ → ℤ
coefficient_in c = pos (c % 2 ^ 32) -ℤ pos (2 ^ 31)

-- the sample that is stored with 2^15 added
abbrev pub sample_in : ℕ → ℤ
sample_in y = pos y -ℤ pos (2 ^ 15)

-- a register and a product, modulo 2^64
abbrev pub plus : ℕ → ℤ → ℤ → ℕ
plus n a x = wrapped (pos n +ℤ a *ℤ x)

-- a register and four products, one after the other
unfoldable pub four_sums : ℕ → ℤ → ℤ → ℤ → ℤ → ℤ → ℤ → ℤ → ℤ → ℕ
four_sums n a b c d x0 x1 x2 x3 = plus (plus (plus (plus n a x0) b x1) c x2) d x3

-- a register and four products of stored numbers, modulo 2^64
unfoldable pub four_products : ℕ → List ℕ → List ℕ → ℕ
four_products n c y =
    (n + ((get_or c 0 0 % 2 ^ 32) * get_or y 0 0 + (get_or c 1 0 % 2 ^ 32) * get_or y 1 0 + (get_or c 2 0 % 2 ^ 32) * get_or y 2 0 + (get_or c 3 0 % 2 ^ 32) * get_or y 3 0)) % 2 ^ 64

-- 2^15 times the coefficient that is stored as a, that is 2^15 * a - 2^46, modulo 2^64: what the 2^15 in a sample adds to its product
abbrev pub offset_of : ℕ → ℕ
offset_of a = 2 ^ 64 - 2 ^ 46 + 2 ^ 15 * a

-- the offset of a place, where v is that of the place after it and c stores the coefficient between them
abbrev pub offset_below_of : ℕ → ℕ → ℕ
offset_below_of v c = (v + offset_of (c % 2 ^ 32)) % 2 ^ 64

-- the bias g and 2^31 times four stored samples: what the 2^31 in the coefficients adds to their products
abbrev pub bias_after_of : ℕ → List ℕ → ℕ
bias_after_of g y = (g + 2 ^ 31 * (get_or y 0 0 + get_or y 1 0 + get_or y 2 0 + get_or y 3 0)) % 2 ^ 64

-- a sum with an offset and a bias added, modulo 2^64
abbrev pub raised_by : ℕ → ℕ → ℕ → ℕ
raised_by offset bias n = (n + (offset + bias)) % 2 ^ 64
