-- Shift, sign and value of a later row, test by test, as the code makes the tests. Assumes nothing.
use mathlib.Core.Path.{◌≡◌, refl, sym, ap, ap₂, ◌∙◌}
use mathlib.Core.Bool.{Bool, true, false, ◌&&◌, and-false}
use Prim.Native.Nat.{ℕ, ◌-◌, ◌%◌, ◌^◌, ◌≤◌}
use native.Mathlib.Omega.{arith}
use borrow.Author.Tests.{leb-true, eqb-true, le-leb}
use lib.Dec.{eqb, leb}
use Rattle.network.specs.declared.Row.{Row}
use Rattle.network.specs.RowRule.{lifted, shift_within, is_worked_of, value_within, is_sum_of}
use Rattle.network.proofs.Booleans.{both}

-- ---- shift, sign and value

-- an odd value is not 0
odd_within : (v : ℕ) (q : Bool) → eqb (v % 2) 1 ≡ q → (q && leb v (2 ^ 31 - 1)) ≡ (q && leb 1 v && leb v (2 ^ 31 - 1))
odd_within v true e = sym (ap (λ (x : Bool). x && leb v (2 ^ 31 - 1)) (le-leb 1 v (omega (arith, eqb-true (v % 2) 1 e))))
odd_within v false e = refl

four_same : (p w x q y l m : Bool) → (p ≡ true → q ≡ true → w ≡ x) → q ≡ y → (p ≡ true → l ≡ m) → (p && w && q && l) ≡ (p && x && y && m)
four_same false w x q y l m f e g = refl
four_same true w x true y l m f e g = ap₂ (λ (c d : Bool). c && true && d) (f refl refl) (g refl) ∙ ap (λ (c : Bool). x && c && m) e
four_same true w x false y l m f e g = ap (λ (c : Bool). c && l) (and-false w) ∙ sym (ap (λ (c : Bool). c && m) (ap (λ (c : Bool). x && c) (sym e) ∙ and-false x))

-- a, b and v are the numbers of the code, and w says whether v is worked out of the others
module _ (r : Row) (left right a b v : ℕ) (w : Bool) where
  pub sum_tests : a ≡ lifted (r.shift % 32) left → b ≡ right → v ≡ r.value → (1 ≤ v → w ≡ is_worked_of r.sign a b v)
      → (shift_within r.shift && w && (eqb (r.value % 2) 1 && leb r.value (2 ^ 31 - 1)) && leb a (2 ^ 32)) ≡ is_sum_of r left right
  sum_tests ea eb ev ew =
      four_same (shift_within r.shift) w (is_worked_of r.sign (lifted r.shift left) right r.value) (eqb (r.value % 2) 1 && leb r.value (2 ^ 31 - 1)) (value_within r.value) (leb a (2 ^ 32)) (leb (lifted r.shift left) (2 ^ 32)) worked (odd_within r.value (eqb (r.value % 2) 1) refl) (λ p. ap (λ (n : ℕ). leb n (2 ^ 32)) (shifted p))
    where
      shifted : shift_within r.shift ≡ true → a ≡ lifted r.shift left
      shifted p =
          let l : r.shift ≤ 31 = leb-true r.shift 31 (both (leb 1 r.shift) (leb r.shift 31) p).1 in
          let e : r.shift % 32 ≡ r.shift = omega arith in
          ea ∙ ap (λ (n : ℕ). lifted n left) e

      worked : shift_within r.shift ≡ true → (eqb (r.value % 2) 1 && leb r.value (2 ^ 31 - 1)) ≡ true → w ≡ is_worked_of r.sign (lifted r.shift left) right r.value
      worked p q =
          let o : r.value % 2 ≡ 1 = eqb-true (r.value % 2) 1 (both (eqb (r.value % 2) 1) (leb r.value (2 ^ 31 - 1)) q).0 in
          ew (omega (arith, o, ev)) ∙ ap (is_worked_of r.sign a b) ev ∙ ap (λ (n : ℕ). is_worked_of r.sign a n r.value) eb ∙ ap (λ (n : ℕ). is_worked_of r.sign n right r.value) (shifted p)
