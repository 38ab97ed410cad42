-- A list of coefficients with zeros past them, 256 in all. Assumes nothing.
use mathlib.Core.Path.{◌≡◌, refl, sym, ap, ◌∙◌}
use mathlib.Core.List.{List, [], ◌∷◌, ◌++◌}
use Prim.Native.Nat.{ℕ, zero, suc, ◌-◌}
use native.Mathlib.Omega.{arith}
use lib.IntN.{ℤ, pos}
use lib.ListN.{length, get_or, take, drop, replicate}
use lib.Seq.{take_at}
use Rattle.sequence.proofs.Members.{same_at}
use Rattle.network_check.specs.Inner.{padded}

zeros_left : (m n : ℕ) → drop m (replicate n (pos 0)) ≡ replicate (n - m) (pos 0)
zeros_left zero n = ap (λ (k : ℕ). replicate k (pos 0)) (less_none n)
  where
    less_none : (n : ℕ) → n ≡ n - 0
    less_none n = omega arith
zeros_left (suc m) zero = ap (λ (k : ℕ). replicate k (pos 0)) (none_less m)
  where
    none_less : (m : ℕ) → 0 ≡ 0 - suc m
    none_less m = omega arith
zeros_left (suc m) (suc n) = zeros_left m n ∙ ap (λ (k : ℕ). replicate k (pos 0)) (less_one m n)
  where
    less_one : (m n : ℕ) → n - m ≡ suc n - suc m
    less_one m n = omega arith

pub padded_is : (h old : List ℤ) (m : ℕ) → length h ≡ m → old ≡ replicate 256 (pos 0) → h ++ drop m old ≡ padded h
unfolding padded
padded_is h old m e z =
    ap (λ (l : List ℤ). h ++ l) (ap (drop m) z ∙ zeros_left m 256 ∙ ap (λ (k : ℕ). replicate (256 - k) (pos 0)) (sym e))

pub take_padded : (h : List ℤ) (m : ℕ) → length h ≡ m → take m (padded h) ≡ h
unfolding padded
take_padded h m e = take_at h (replicate (256 - length h) (pos 0)) m e

-- each place: the coefficient, and 0 where there is none
longer_at : (h : List ℤ) (n k : ℕ) → get_or (h ++ replicate n (pos 0)) k (pos 0) ≡ get_or h k (pos 0)
longer_at [] n k = same_at n k (pos 0)
longer_at (z ∷ h) n zero = refl
longer_at (z ∷ h) n (suc k) = longer_at h n k

pub padded_at : (h : List ℤ) (k : ℕ) → get_or (padded h) k (pos 0) ≡ get_or h k (pos 0)
unfolding padded
padded_at h k = longer_at h (256 - length h) k
