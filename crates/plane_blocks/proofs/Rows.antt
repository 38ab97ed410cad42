-- The rows of a stage, filled two by two. Assumes nothing.
use mathlib.Core.Path.{◌≡◌, sym, ap, ap₂, ◌∙◌}
use mathlib.Core.Bool.{Bool, true, false, cond}
use mathlib.Core.List.{List, ◌++◌}
use Prim.Native.Nat.{ℕ, ◌+◌, ◌*◌, ◌<◌, ◌≤◌, ◌/◌, ◌%◌, ◌^◌}
use native.Mathlib.Omega.{arith}
use borrow.Author.Tests.{eq-eqb, ne_eqb}
use lib.Bits.{bit_and, bit_or, or_lt, and_le_r}
use lib.Dec.{eqb}
use lib.ListN.{length, get_or, set, take}
use Rattle.sequence.specs.UpTo.{up_to}
use Rattle.sequence.specs.Inner.{front}
use Rattle.sequence.proofs.UpTo.{length_up_to, get_d_up_to, up_to_take, up_to_same}
use Rattle.std.proofs.Common.{drop_of_length-le, append-nil}
use Rattle.sequence.proofs.Front.{front_next}
use Rattle.plane_blocks.specs.Inner.{mixed}

-- an even row and an odd one, of the rows low and high
abbrev pub even_row : ℕ → ℕ → ℕ → ℕ → ℕ
even_row j m low high = bit_or (bit_and low m) (bit_and high m * 2 ^ j % 2 ^ 32)

abbrev pub odd_row : ℕ → ℕ → ℕ → ℕ → ℕ
odd_row j m low high = bit_or (bit_and (low / 2 ^ j) m) (bit_and high (m * 2 ^ j % 2 ^ 32))

module _ (j m : ℕ) (from : List ℕ) where
  pub mixed_even : (r : ℕ) → r % 2 ≡ 0 → mixed j m from r ≡ even_row j m (get_or from (r / 2) 0) (get_or from (r / 2 + 16) 0)
  unfolding mixed
  mixed_even r e =
      ap (λ (b : Bool). cond b (even_row j m (get_or from (r / 2) 0) (get_or from (r / 2 + 16) 0)) (odd_row j m (get_or from (r / 2) 0) (get_or from (r / 2 + 16) 0))) (eq-eqb (r % 2) 0 e)

  pub mixed_odd : (r : ℕ) → r % 2 ≡ 1 → mixed j m from r ≡ odd_row j m (get_or from (r / 2) 0) (get_or from (r / 2 + 16) 0)
  unfolding mixed
  mixed_odd r e =
      ap (λ (b : Bool). cond b (even_row j m (get_or from (r / 2) 0) (get_or from (r / 2 + 16) 0)) (odd_row j m (get_or from (r / 2) 0) (get_or from (r / 2 + 16) 0)))
      (ne_eqb (r % 2) 0 (λ (z : r % 2 ≡ 0). omega (arith, z, e)))

  -- two rows more
  pub rows_next : (old to : List ℕ) (q : ℕ) → to ≡ front (mixed j m from) old (2 * q) → 2 * q + 1 < length old
      → set (set to (2 * q) (even_row j m (get_or from q 0) (get_or from (q + 16) 0))) (2 * q + 1) (odd_row j m (get_or from q 0) (get_or from (q + 16) 0))
      ≡ front (mixed j m from) old (2 * (q + 1))
  rows_next old to q e h =
      let f : ℕ → ℕ = mixed j m from in
      let u : 2 * q / 2 ≡ q = omega arith in
      let v : (2 * q + 1) / 2 ≡ q = omega arith in
      let w : 2 * q + 1 + 1 ≡ 2 * (q + 1) = omega arith in
      let x : f (2 * q) ≡ even_row j m (get_or from q 0) (get_or from (q + 16) 0) =
      mixed_even (2 * q) (omega arith) ∙ ap (λ (i : ℕ). even_row j m (get_or from i 0) (get_or from (i + 16) 0)) u in
      let y : f (2 * q + 1) ≡ odd_row j m (get_or from q 0) (get_or from (q + 16) 0) =
      mixed_odd (2 * q + 1) (omega arith) ∙ ap (λ (i : ℕ). odd_row j m (get_or from i 0) (get_or from (i + 16) 0)) v in
      ap₂ (λ (a b : ℕ). set (set to (2 * q) a) (2 * q + 1) b) (sym x) (sym y)
      ∙ ap (λ (t : List ℕ). set (set t (2 * q) (f (2 * q))) (2 * q + 1) (f (2 * q + 1))) e
      ∙ ap (λ (t : List ℕ). set t (2 * q + 1) (f (2 * q + 1))) (front_next f old (2 * q) 0 (omega arith))
      ∙ front_next f old (2 * q + 1) 0 h
      ∙ ap (front f old) w

-- all places are filled
pub front_all : (f : ℕ → ℕ) (old : List ℕ) (n : ℕ) → length old ≡ n → front f old n ≡ up_to n f
unfolding front
front_all f old n h =
    let l : length old ≤ n = omega arith in
    ap (λ (r : List ℕ). up_to n f ++ r) (drop_of_length-le old l) ∙ append-nil (up_to n f)

-- the first of them
pub take_front : (f : ℕ → ℕ) (all : List ℕ) (n m : ℕ) → n ≤ m → all ≡ up_to m f → take n all ≡ up_to n f
take_front f all n m h e =
    sym (up_to_take all 0 n (omega (arith, ap length e, length_up_to m f)))
    ∙ up_to_same (λ (k : ℕ). get_or all k 0) f n (λ i l. ap (λ (t : List ℕ). get_or t i 0) e ∙ get_d_up_to m f 0 i (omega arith))

-- a row fits where the mask does
pub mixed_small : (j m : ℕ) (from : List ℕ) (r : ℕ) → m < 2 ^ 32 → mixed j m from r < 2 ^ 32
unfolding mixed
mixed_small j m from r h = go (eqb (r % 2) 0)
  where
    low : ℕ
    low = get_or from (r / 2) 0

    high : ℕ
    high = get_or from (r / 2 + 16) 0

    go : (t : Bool) → cond t (even_row j m low high) (odd_row j m low high) < 2 ^ 32
    go true = or_lt 32 (bit_and low m) (bit_and high m * 2 ^ j % 2 ^ 32) (omega (arith, and_le_r low m)) (omega arith)
    go false =
        or_lt 32 (bit_and (low / 2 ^ j) m) (bit_and high (m * 2 ^ j % 2 ^ 32)) (omega (arith, and_le_r (low / 2 ^ j) m)) (omega (arith, and_le_r high (m * 2 ^ j % 2 ^ 32)))
