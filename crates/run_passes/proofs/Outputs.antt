-- The outputs and registers of four samples. Assumes nothing.
use Rattle.std.proofs.Common.{◌≡◌, ◌<◌, ◌^◌, lit<, ℕ, zero, suc, List, [], ◌∷◌, length, get_or, slice_set, ℤ, pos, w64, to_z, refl, arith}
use Rattle.run_convolution.specs.Running.{sum_at, next, registers_of, outputs_of}
use Rattle.run_tables.specs.Inner.{after4}

module _ (h : List ℤ) (r : List ℕ) (x0 x1 x2 x3 : ℤ) where
  pub four_registers : after4 h x0 x1 x2 x3 r ≡ registers_of h r (x0 ∷ x1 ∷ x2 ∷ x3 ∷ [])
  unfolding registers_of
  four_registers = refl

  pub four_outputs : (o0 o1 o2 o3 : ℤ) → o0 ≡ to_z w64 (sum_at h x0 r 0) → o1 ≡ to_z w64 (sum_at h x1 (next h x0 r) 0)
      → o2 ≡ to_z w64 (sum_at h x2 (next h x1 (next h x0 r)) 0) → o3 ≡ to_z w64 (sum_at h x3 (next h x2 (next h x1 (next h x0 r))) 0)
      → o0 ∷ o1 ∷ o2 ∷ o3 ∷ [] ≡ outputs_of h r (x0 ∷ x1 ∷ x2 ∷ x3 ∷ [])
  unfolding outputs_of
  four_outputs o0 o1 o2 o3 e0 e1 e2 e3 = rw (e0, e1, e2, e3)

-- a list of four is its items
pub items : (xs : List ℤ) → length xs ≡ 4 → get_or xs 0 (pos 0) ∷ get_or xs 1 (pos 0) ∷ get_or xs 2 (pos 0) ∷ get_or xs 3 (pos 0) ∷ [] ≡ xs
items [] l = absurd (omega (arith, l))
items (a ∷ []) l = absurd (omega (arith, l))
items (a ∷ b ∷ []) l = absurd (omega (arith, l))
items (a ∷ b ∷ c ∷ []) l = absurd (omega (arith, l))
items (a ∷ b ∷ c ∷ d ∷ []) l = refl
items (a ∷ b ∷ c ∷ d ∷ e ∷ xs) l = absurd (omega (arith, l))

-- a list of four that is written over
pub written : (outs : List ℤ) (a b c d : ℤ) → length outs ≡ 4 → slice_set (slice_set (slice_set (slice_set outs 0 a) 1 b) 2 c) 3 d ≡ a ∷ b ∷ c ∷ d ∷ []
written [] a b c d l = absurd (omega (arith, l))
written (p ∷ []) a b c d l = absurd (omega (arith, l))
written (p ∷ q ∷ []) a b c d l = absurd (omega (arith, l))
written (p ∷ q ∷ r ∷ []) a b c d l = absurd (omega (arith, l))
written (p ∷ q ∷ r ∷ s ∷ []) a b c d l = refl
written (p ∷ q ∷ r ∷ s ∷ t ∷ xs) a b c d l = absurd (omega (arith, l))

-- four numbers of 16 bits
pub four_low : (a b c d : ℕ) → a < 2 ^ 16 → b < 2 ^ 16 → c < 2 ^ 16 → d < 2 ^ 16 → (k : ℕ) → get_or (a ∷ b ∷ c ∷ d ∷ []) k 0 < 2 ^ 16
four_low a b c d p q s t zero = p
four_low a b c d p q s t (suc zero) = q
four_low a b c d p q s t (suc (suc zero)) = s
four_low a b c d p q s t (suc (suc (suc zero))) = t
four_low a b c d p q s t (suc (suc (suc (suc k)))) = lit< tt
