-- A pass of four samples over raised registers raises the registers after it. Assumes nothing.
use mathlib.Core.Path.{◌≡◌, refl, sym, ap, ◌∙◌}
use mathlib.Core.List.{List}
use Prim.Native.Nat.{ℕ, ◌+◌, ◌<◌, ◌≤◌, ◌^◌}
use native.Mathlib.Omega.{arith}
use lib.ListN.{get_or}
use Rattle.run_convolution.specs.Sums.{held}
use Rattle.run_products.specs.Inner.{sample_in, offset_below_of, bias_after_of, raised_by}
use Rattle.run_products.proofs.FourSums.{four_raised}
use Rattle.run_tables.specs.Inner.{coefficients_in, Padded, OffsetsOf, Raised, after4}
use Rattle.run_moves.specs.Inner.{placed, summed}
use Rattle.run_moves.proofs.Places.{register_place}

module _ (c v : List ℕ) (q : OffsetsOf c v) where
  below : (i j : ℕ) → j ≡ i + 1 → i < 264 → offset_below_of (get_or v j 0) (get_or c i 0) ≡ get_or v i 0
  below i j e l = ap (λ k. offset_below_of (get_or v k 0) (get_or c i 0)) e ∙ sym (q.is i l)

  four_below : (j : ℕ) → j < 260
      → offset_below_of (offset_below_of (offset_below_of (offset_below_of (get_or v (j + 5) 0) (get_or c (j + 4) 0)) (get_or c (j + 3) 0)) (get_or c (j + 2) 0)) (get_or c (j + 1) 0) ≡ get_or v (j + 1) 0
  four_below j l =
      ap (λ n. offset_below_of (offset_below_of (offset_below_of n (get_or c (j + 3) 0)) (get_or c (j + 2) 0)) (get_or c (j + 1) 0)) (below (j + 4) (j + 5) (omega arith) (omega arith))
      ∙ ap (λ n. offset_below_of (offset_below_of n (get_or c (j + 2) 0)) (get_or c (j + 1) 0)) (below (j + 3) (j + 4) (omega arith) (omega arith))
      ∙ ap (λ n. offset_below_of n (get_or c (j + 1) 0)) (below (j + 2) (j + 3) (omega arith) (omega arith)) ∙ below (j + 1) (j + 2) (omega arith) (omega arith)

  module _ (y : List ℕ) (low : (k : ℕ) → get_or y k 0 < 2 ^ 16) (bias : ℕ) where
    -- what a raised place comes to
    pub place_raised : (j n : ℕ) → j < 260
        → placed c y j (raised_by (get_or v (j + 5) 0) bias n) ≡ raised_by (get_or v (j + 1) 0) (bias_after_of bias y) (summed c y j n)
    place_raised j n l =
        four_raised n (get_or v (j + 5) 0) bias (get_or c (j + 4) 0) (get_or c (j + 3) 0) (get_or c (j + 2) 0) (get_or c (j + 1) 0) y low
        ∙ ap (λ m. raised_by m (bias_after_of bias y) (summed c y j n)) (four_below j l)

    -- the registers four samples on
    pub slide_raised : Padded c → (w : ℕ) (r words new : List ℕ) → w ≤ 256 → Raised (w + 4) v bias r words
        → ((k : ℕ) → k < w → get_or new k 0 ≡ placed c y (k + 4) (get_or words (k + 4) 0))
        → Raised w v (bias_after_of bias y) (after4 (coefficients_in c) (sample_in (get_or y 0 0)) (sample_in (get_or y 1 0)) (sample_in (get_or y 2 0)) (sample_in (get_or y 3 0)) r) new
    slide_raised p w r words new b f e =
        record {
          at = (λ k l.
              let i : k + 4 + 1 ≡ k + 5 = omega arith in
              let s = after4 (coefficients_in c) (sample_in (get_or y 0 0)) (sample_in (get_or y 1 0)) (sample_in (get_or y 2 0)) (sample_in (get_or y 3 0)) r in
              e k l ∙ ap (placed c y (k + 4)) (f.at (k + 4) (omega arith)) ∙ place_raised (k + 4) (held r (k + 4)) (omega arith)
              ∙ ap (raised_by (get_or v (k + 4 + 1) 0) (bias_after_of bias y)) (register_place c p _ _ _ _ r k (held r (k + 4)) (omega arith) refl)
              ∙ ap (λ a. raised_by (get_or v a 0) (bias_after_of bias y) (held s k)) i);
        }
