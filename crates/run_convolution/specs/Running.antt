-- Running samples, for any content of the registers. Document 01, "The network", the paragraph "Running". Definitions only.
use Rattle.std.specs.Prelude.{List, [], ◌∷◌, ◌++◌, ℕ, suc, ℤ, pos, ◌+ℤ◌, ◌*ℤ◌, get_or, drop}
use Rattle.std.specs.Int.{w64}
use Rattle.std.proofs.Common.{to_z}
use Rattle.sequence.specs.UpTo.{up_to}
use Rattle.run_convolution.specs.Words.{wrapped}

-- r(k) + h(k)·x as a word; "Coefficients past the last tap are 0"
unfoldable pub sum_at : List ℤ → ℤ → List ℕ → ℕ → ℕ
sum_at h x r k = wrapped (pos (get_or r k 0) +ℤ get_or h k (pos 0) *ℤ x)

-- "For sample x the output is r0 + h0·x", "read as signed"
abbrev pub output_of : List ℤ → ℤ → List ℕ → ℤ
output_of h x r = to_z w64 (sum_at h x r 0)

-- "then each r(k) becomes r(k+1) + h(k+1)·x, and r255 becomes 0"; memory past the 256 registers stays
unfoldable pub next : List ℤ → ℤ → List ℕ → List ℕ
next h x r = up_to 255 (λ k. sum_at h x r (suc k)) ++ (0 ∷ drop 256 r)

-- the registers after the samples in order; "No samples: registers unchanged"
unfoldable pub registers_of : List ℤ → List ℕ → List ℤ → List ℕ
registers_of h r [] = r
registers_of h r (x ∷ xs) = registers_of h (next h x r) xs

-- the outputs for the samples in order
unfoldable pub outputs_of : List ℤ → List ℕ → List ℤ → List ℤ
outputs_of h r [] = []
outputs_of h r (x ∷ xs) = output_of h x r ∷ outputs_of h (next h x r) xs
