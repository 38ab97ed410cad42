-- Filling a table of offset words: the coefficients so far, zeros around them. Assumes nothing.
use mathlib.Core.Path.{◌≡◌, refl, sym, ap, ◌∙◌, subst}
use mathlib.Core.Bool.{Bool, true, false}
use mathlib.Core.List.{List}
use Prim.Native.Nat.{ℕ, ◌+◌, ◌-◌, ◌<◌, ◌≤◌, ◌^◌}
use native.Mathlib.Omega.{arith}
use borrow.Author.Tests.{ltb-true, ltb-false}
use lib.Dec.{ltb}
use lib.IntN.{ℤ, pos}
use lib.ListN.{length, get_or, replicate, get_or-replicate, length-replicate}
use lib.Seq.{ext_get_or}
use Rattle.sequence.specs.UpTo.{up_to}
use Rattle.sequence.proofs.UpTo.{length_up_to, get_d_up_to}
use Rattle.run_products.specs.Inner.{coefficient_in}
use Rattle.run_tables.specs.Inner.{coefficients_in, StoredZeroFrom}

-- c holds the first k coefficients, and 0 at every other place
pub record Filled (h : List ℤ) (c : List ℕ) (k : ℕ) : Type 0 where
  pub size : length c ≡ 264
  pub done : (j : ℕ) → j < k → coefficient_in (get_or c (j + 4) 0) ≡ get_or h j (pos 0)
  pub low : (j : ℕ) → j < 4 → get_or c j 0 ≡ 2 ^ 31
  pub rest : (j : ℕ) → k ≤ j → j < 260 → get_or c (j + 4) 0 ≡ 2 ^ 31

pub filled_start : (h : List ℤ) (c : List ℕ) → c ≡ replicate 264 (2 ^ 31) → Filled h c 0
filled_start h c e =
    record {
      size = ap length e ∙ length-replicate {A = ℕ} 264 (2 ^ 31);
      done = λ j l. absurd (omega arith);
      low = λ j l. ap (λ q. get_or q j 0) e ∙ get_or-replicate 264 j (2 ^ 31) 0 (omega arith);
      rest = λ j a b. ap (λ q. get_or q (j + 4) 0) e ∙ get_or-replicate 264 (j + 4) (2 ^ 31) 0 (omega arith);
    }

pub filled_zero_from : (h : List ℤ) (c : List ℕ) (w : ℕ) → Filled h c w → StoredZeroFrom w c
filled_zero_from h c w f j l m =
    let e : j - 4 + 4 ≡ j = omega arith in
    subst (λ i. get_or c i 0 ≡ 2 ^ 31) e (f.rest (j - 4) (omega arith) (omega arith))

-- the coefficients that are not filled in are 0
module _ (h : List ℤ) (c : List ℕ) (w : ℕ) (b : w ≤ 256) (n : length h ≡ 256) (q : (k : ℕ) → w ≤ k → get_or h k (pos 0) ≡ pos 0) (f : Filled h c w) where
  at_by : (k : ℕ) → k < 256 → (t : Bool) → ltb k w ≡ t → coefficient_in (get_or c (k + 4) 0) ≡ get_or h k (pos 0)
  at_by k l true e = f.done k (ltb-true k w e)
  at_by k l false e =
      let m : w ≤ k = ltb-false k w e in
      ap coefficient_in (f.rest k m (omega arith)) ∙ sym (q k m)

  pub filled_all : coefficients_in c ≡ h
  unfolding coefficients_in
  filled_all =
      ext_get_or (pos 0) (up_to 256 g) h (length_up_to 256 g ∙ sym n) (λ k l. let u : k < 256 = omega (arith, length_up_to 256 g) in get_d_up_to 256 g (pos 0) k u ∙ at_by k u (ltb k w) refl)
    where
      g : ℕ → ℤ
      g k = coefficient_in (get_or c (k + 4) 0)
