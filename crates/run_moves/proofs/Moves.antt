-- The registers after samples, from the front that has been worked out and the rest. Assumes nothing.
use mathlib.Core.Path.{◌≡◌, sym, ap, ap₂, ◌∙◌}
use mathlib.Core.List.{List}
use Prim.Native.Nat.{ℕ, ◌≤◌, min}
use native.Mathlib.Omega.{arith}
use lib.IntN.{ℤ}
use lib.ListN.{length, drop, set}
use Rattle.sequence.specs.Inner.{front}
use Rattle.sequence.proofs.Front.{front_next}
use Rattle.run_convolution.specs.Running.{next}
use Rattle.run_convolution.specs.Sums.{held}
use Rattle.run_convolution.proofs.Steps.{held_low, next_last, next_drop, length_next}
use Rattle.run_tables.specs.Inner.{ZeroFrom}
use Rattle.run_moves.proofs.Fronts.{front_rest, front_all}
use Rattle.run_tables.proofs.ZeroFrom.{zero_from_next, zero_from_same}

module _ (h : List ℤ) (few : length h ≤ 256) (w : ℕ) where
  -- past the registers in use, what they hold afterwards is what they held
  rest : (r s : List ℕ) (n : ℕ) → 256 ≤ length r → n ≤ 256 → ZeroFrom w h r → ZeroFrom w h s → front (held s) r (min w n) ≡ front (held s) r n
  rest r s n l m q p =
      front_rest (held s) r (min w n) n (omega arith) (omega arith) (λ k a b. zero_from_same h few w r s q p k (omega arith) (omega arith))

  pub moved_one : (x : ℤ) (r : List ℕ) → 256 ≤ length r → ZeroFrom w h r → (new : List ℕ) → new ≡ front (held (next h x r)) r (min w 255) → set new 255 0 ≡ next h x r
  moved_one x r l q new e =
      let s = next h x r in
      ap₂ (λ t v. set t 255 v) (e ∙ rest r s 255 l (omega arith) q (zero_from_next h few w x r q)) (sym (held_low s 255 (omega arith) ∙ next_last h x r))
      ∙ front_next (held s) r 255 0 (omega arith) ∙ front_all r s l (length_next h x r l) (next_drop h x r)

  -- the registers in use worked out, and the rest
  pub moved_all : (r s : List ℕ) → 256 ≤ length r → w ≤ 256 → ZeroFrom w h r → ZeroFrom w h s → length s ≡ length r → drop 256 s ≡ drop 256 r
      → (new : List ℕ) → new ≡ front (held s) r w → new ≡ s
  moved_all r s l b q p e d new f =
      let n : w ≡ min w 256 = omega arith in
      f ∙ ap (front (held s) r) n ∙ rest r s 256 l (omega arith) q p ∙ front_all r s l e d
