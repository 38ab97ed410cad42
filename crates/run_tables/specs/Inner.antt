-- The tables of a call and the registers four samples on, for the contracts of inner functions; document 01 does not speak of them. Definitions only.
use Rattle.std.specs.Prelude.{◌≡◌, List, ℕ, ◌+◌, ◌<◌, ◌≤◌, ◌^◌, ℤ, pos, get_or}
use Rattle.sequence.specs.UpTo.{up_to}
use Rattle.run_convolution.specs.Running.{next}
use Rattle.run_convolution.specs.Sums.{held}
use Rattle.run_products.specs.Inner.{coefficient_in, offset_below_of, raised_by}

-- the 256 coefficients that the table c holds in offset binary, from word 4 on
unfoldable pub coefficients_in : List ℕ → List ℤ
coefficients_in c = up_to 256 (λ k. coefficient_in (get_or c (k + 4) 0))

-- the four words before them and the four after them hold 0
pub record Padded (c : List ℕ) : Type 0 where
  pub low : (k : ℕ) → k < 4 → coefficient_in (get_or c k 0) ≡ pos 0
  pub high : (k : ℕ) → 256 ≤ k → k < 260 → coefficient_in (get_or c (k + 4) 0) ≡ pos 0

-- past the first w coefficients the table c holds 0
abbrev pub StoredZeroFrom : ℕ → List ℕ → Type 0
StoredZeroFrom w c = (j : ℕ) → w + 4 ≤ j → j < 264 → get_or c j 0 ≡ 2 ^ 31

-- v holds the offsets of the coefficients in c; whatever stands at its end
pub record OffsetsOf (c v : List ℕ) : Type 0 where
  pub is : (j : ℕ) → j < 264 → get_or v j 0 ≡ offset_below_of (get_or v (j + 1) 0) (get_or c j 0)

-- the first n registers of r, raised by their offsets and a bias
pub record Raised (n : ℕ) (v : List ℕ) (bias : ℕ) (r words : List ℕ) : Type 0 where
  pub at : (k : ℕ) → k < n → get_or words k 0 ≡ raised_by (get_or v (k + 5) 0) bias (held r k)

-- the registers after four samples
abbrev pub after4 : List ℤ → ℤ → ℤ → ℤ → ℤ → List ℕ → List ℕ
after4 h x0 x1 x2 x3 r = next h x3 (next h x2 (next h x1 (next h x0 r)))

-- ---- registers that are out of use

-- from w on, registers and coefficients are 0
abbrev pub ZeroFrom : ℕ → List ℤ → List ℕ → Type 0
ZeroFrom w h r = (k : ℕ) → w ≤ k → (held r k ≡ 0) × (get_or h k (pos 0) ≡ pos 0)
