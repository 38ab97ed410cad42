-- Eight bytes as a number, low byte first, and an input by its eights. Assumes nothing.
use mathlib.Core.Path.{◌≡◌, refl, ap, ◌∙◌}
use mathlib.Core.List.{List, [], ◌∷◌}
use Prim.Native.Nat.{ℕ, zero, suc, ◌+◌, ◌*◌, ◌≤◌, ◌<◌}
use native.Mathlib.Omega.{arith}
use lib.ListN.{length, take, drop, get_or}
use lib.Seq.{length-take-le}
use mir.Syntax.{w64}
use Rattle.std.specs.Int.{from_le_bytes}
use Rattle.std.specs.Simd.{first_chunks}
use Rattle.std.proofs.lemmas.List.{drop-drop, length-drop}
use Rattle.sheet_input.specs.Taps.{low_first}

-- std's word for it
le_low : (bs : List ℕ) → length bs ≡ 8 → from_le_bytes w64 bs ≡ low_first bs
unfolding low_first
le_low [] h = absurd (omega arith)
le_low (b0 ∷ []) h = absurd (omega arith)
le_low (b0 ∷ b1 ∷ []) h = absurd (omega arith)
le_low (b0 ∷ b1 ∷ b2 ∷ []) h = absurd (omega arith)
le_low (b0 ∷ b1 ∷ b2 ∷ b3 ∷ []) h = absurd (omega arith)
le_low (b0 ∷ b1 ∷ b2 ∷ b3 ∷ b4 ∷ []) h = absurd (omega arith)
le_low (b0 ∷ b1 ∷ b2 ∷ b3 ∷ b4 ∷ b5 ∷ []) h = absurd (omega arith)
le_low (b0 ∷ b1 ∷ b2 ∷ b3 ∷ b4 ∷ b5 ∷ b6 ∷ []) h = absurd (omega arith)
le_low (b0 ∷ b1 ∷ b2 ∷ b3 ∷ b4 ∷ b5 ∷ b6 ∷ b7 ∷ []) h = omega arith
le_low (b0 ∷ b1 ∷ b2 ∷ b3 ∷ b4 ∷ b5 ∷ b6 ∷ b7 ∷ b8 ∷ bs) h = absurd (omega arith)

-- the eights, one by one
pub eight_at : (k i : ℕ) (s : List ℕ) → i < k → get_or (first_chunks 8 k s) i [] ≡ take 8 (drop (8 * i) s)
eight_at zero i s h = absurd (omega arith)
eight_at (suc k) zero s h = refl
eight_at (suc k) (suc i) s h =
    let e : 8 + 8 * i ≡ 8 * suc i = omega arith in
    eight_at k i (drop 8 s) (omega arith) ∙ ap (take 8) (drop-drop (8 * i) 8 s ∙ ap (λ (n : ℕ). drop n s) e)

pub tap_eight : (i : ℕ) (s : List ℕ) → 8 * i + 8 ≤ length s → from_le_bytes w64 (take 8 (drop (8 * i) s)) ≡ low_first (take 8 (drop (8 * i) s))
tap_eight i s h = le_low (take 8 (drop (8 * i) s)) (length-take-le 8 (drop (8 * i) s) (omega (arith, length-drop (8 * i) s)))
