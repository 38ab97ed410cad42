-- The row rule, test by test, as the code makes the tests. Assumes nothing.
use mathlib.Core.Path.{◌≡◌, refl, sym, ap, ap₂, ◌∙◌, subst}
use mathlib.Core.Bool.{Bool, true, false, ◌&&◌, ◌||◌, or-false}
use mathlib.Core.List.{List}
use Prim.Native.Nat.{ℕ, zero, suc, ◌+◌, ◌≤◌, ◌<◌}
use native.Mathlib.Nat.{lt_trans}
use native.Mathlib.Omega.{arith}
use borrow.Author.Tests.{eqb-true, lt-ltb, le-ltb, eq-eqb}
use lib.Dec.{eqb, ltb}
use lib.IntN.{ℤ, pos, nat_abs, ◌+ℤ◌, ◌-ℤ◌, -ℤ-+ℤ_cancel, +ℤ-neg_ℤ_cancel}
use Rattle.sequence.proofs.UpTo.{get_d_up_to}
use Rattle.network.specs.declared.Row.{Row}
use Rattle.network.specs.Rows.{plus, minus, reversed, row_at, rows_of, row_in, no_row}
use Rattle.network.specs.RowRule.{is_first_of, is_natural, is_worked_of, is_sum_of, is_later, keeps_row_rule_of}
use Rattle.network.proofs.Booleans.{same_truth}
use Rattle.network.proofs.Rules.{natural_is, is_natural_lem}

-- ---- the value that a sign gives

-- a difference that is a natural number, without a difference
difference : (a b v : ℕ) → eqb (v + b) a ≡ is_natural (pos a -ℤ pos b) v
difference a b v =
    same_truth (eqb (v + b) a) (is_natural (pos a -ℤ pos b) v)
    (λ e. is_natural_lem (pos a -ℤ pos b) v (sym (ap (λ (n : ℕ). pos n -ℤ pos b) (sym (eqb-true (v + b) a e)) ∙ +ℤ-neg_ℤ_cancel (pos v) (pos b))))
    (λ e. eq-eqb (v + b) a (ap nat_abs (ap (λ (z : ℤ). z +ℤ pos b) (natural_is (pos a -ℤ pos b) v e) ∙ -ℤ-+ℤ_cancel (pos a) (pos b))))

-- a test for each sign, without a difference
abbrev tests : ℕ → ℕ → ℕ → ℕ → Bool
tests s a b v = eqb s plus && eqb (a + b) v || eqb s minus && eqb (v + b) a || eqb s reversed && eqb (v + a) b

other_sign : (s a b v : ℕ) → eqb s plus ≡ false → eqb s minus ≡ false → eqb s reversed ≡ false → tests s a b v ≡ is_worked_of s a b v
other_sign s a b v e f g = rw (e, f, g)

module _ (s a b v : ℕ) where
  by_sign : (x y z : Bool) → eqb s plus ≡ x → eqb s minus ≡ y → eqb s reversed ≡ z → tests s a b v ≡ is_worked_of s a b v
  by_sign true y z e f g =
      subst (λ (n : ℕ). tests n a b v ≡ is_worked_of n a b v) (sym (eqb-true s plus e)) (or-false (eqb (a + b) v || false) ∙ or-false (eqb (a + b) v))
  by_sign false true z e f g = subst (λ (n : ℕ). tests n a b v ≡ is_worked_of n a b v) (sym (eqb-true s minus f)) (or-false (eqb (v + b) a) ∙ difference a b v)
  by_sign false false true e f g = subst (λ (n : ℕ). tests n a b v ≡ is_worked_of n a b v) (sym (eqb-true s reversed g)) (difference b a v)
  by_sign false false false e f g = other_sign s a b v e f g

  pub worked_tests : (eqb s plus && eqb (a + b) v || eqb s minus && eqb (v + b) a || eqb s reversed && eqb (v + a) b) ≡ is_worked_of s a b v
  worked_tests = by_sign (eqb s plus) (eqb s minus) (eqb s reversed) refl refl refl

-- ---- row i of a table, in a network of n rows

no_suc : (i : ℕ) → suc i ≡ 0 → ⊥
no_suc i e = omega arith

first_is : (t : List ℕ) (n i : ℕ) → i < n → i ≡ 0 → is_first_of (row_at t i) ≡ keeps_row_rule_of (rows_of t n) i
unfolding keeps_row_rule_of
first_is t n zero l z = ap is_first_of (sym (get_d_up_to n (row_at t) no_row 0 l))
first_is t n (suc i) l z = absurd (no_suc i z)

later_is : (t : List ℕ) (n i : ℕ) → i < n → (i ≡ 0 → ⊥) → is_later (rows_of t n) i (row_at t i) ≡ keeps_row_rule_of (rows_of t n) i
unfolding keeps_row_rule_of
later_is t n zero l z = absurd (z refl)
later_is t n (suc i) l z = ap (is_later (rows_of t n) (suc i)) (sym (get_d_up_to n (row_at t) no_row (suc i) l))

second_fails : (a b c : Bool) → b ≡ false → (a && b && c) ≡ false
second_fails true b c e = rw e
second_fails false b c e = refl

-- r is what was read
module _ (t : List ℕ) (n i : ℕ) (l : i < n) (r : Row) (e : r ≡ row_at t i) where
  pub row_first : i ≡ 0 → is_first_of r ≡ keeps_row_rule_of (rows_of t n) i
  row_first z = ap is_first_of e ∙ first_is t n i l z

  module _ (z : i ≡ 0 → ⊥) where
    row_later : is_later (rows_of t n) i r ≡ keeps_row_rule_of (rows_of t n) i
    row_later = ap (is_later (rows_of t n) i) e ∙ later_is t n i l z

    pub row_left : i ≤ r.left → false ≡ keeps_row_rule_of (rows_of t n) i
    row_left h =
        sym (ap (λ (b : Bool). b && ltb r.right i && is_sum_of r (row_in (rows_of t n) r.left).value (row_in (rows_of t n) r.right).value) (le-ltb r.left i h)) ∙ row_later

    pub row_right_lem : i ≤ r.right → false ≡ keeps_row_rule_of (rows_of t n) i
    row_right_lem h =
        sym (second_fails (ltb r.left i) (ltb r.right i) (is_sum_of r (row_in (rows_of t n) r.left).value (row_in (rows_of t n) r.right).value) (le-ltb r.right i h)) ∙ row_later

    -- x and y are the values that were read
    pub row_sum : r.left < i → r.right < i → (x y : ℕ) → x ≡ (row_at t r.left).value → y ≡ (row_at t r.right).value → is_sum_of r x y ≡ keeps_row_rule_of (rows_of t n) i
    row_sum h k x y ex ey =
        let vx : x ≡ (row_in (rows_of t n) r.left).value = ex ∙ ap (λ (q : Row). q.value) (sym (get_d_up_to n (row_at t) no_row r.left (lt_trans h l))) in
        let vy : y ≡ (row_in (rows_of t n) r.right).value = ey ∙ ap (λ (q : Row). q.value) (sym (get_d_up_to n (row_at t) no_row r.right (lt_trans k l))) in
        ap₂ (is_sum_of r) vx vy
        ∙ both_hold (ltb r.left i) (ltb r.right i) (is_sum_of r (row_in (rows_of t n) r.left).value (row_in (rows_of t n) r.right).value) (lt-ltb r.left i h) (lt-ltb r.right i k)
        ∙ row_later
      where
        both_hold : (a b c : Bool) → a ≡ true → b ≡ true → c ≡ (a && b && c)
        both_hold a b c e f = rw (e, f)
