-- Document 01's words settle what step 2 finds: over rows with distinct values no other row is a first fit. Assumes nothing.
use mathlib.Core.Path.{◌≡◌, refl, sym, ap, ◌∙◌, subst}
use mathlib.Core.Bool.{Bool, true, false, ◌||◌, or-false, false≢true}
use mathlib.Core.List.{List}
use Prim.Native.Nat.{ℕ, ◌+◌, ◌%◌, ◌^◌, ◌<◌}
use native.Mathlib.Omega.{arith}
use borrow.Author.Tests.{eqb-true}
use lib.Dec.{eqb}
use lib.IntN.{pos}
use lib.ListN.{length}
use Rattle.network.specs.declared.Row.{Row}
use Rattle.network.specs.Rows.{plus, minus, reversed, row_in}
use Rattle.network.specs.RowRule.{combined, is_row_sign, is_worked_of, lifted, LaterRow}
use Rattle.word.proofs.Booleans.{is_true}
use Rattle.network.proofs.Rules.{is_natural_lem}
use Rattle.network.proofs.RowTests.{worked_tests}
use Rattle.network.proofs.Tables.{same_row}
use Rattle.build_steps.specs.Search.{Fit, fit, none_fits, first_fit_of}
use Rattle.build_steps.specs.RowSteps.{sign_place, NoLater, lower_left, lower_shift, no_later_sign, FirstFit, Lawful}
use Rattle.build_steps.proofs.Lawful.{lawful_distinct}
use Rattle.build_steps.proofs.FirstFit.{fit_is_first, none_is_none, same_sign}

-- ---- left, shift and sign
record SamePlace (r q : Row) : Type 0 where
  left : r.left ≡ q.left
  shift : r.shift ≡ q.shift
  sign : sign_place r.sign ≡ sign_place q.sign

neither_later : (r q : Row) → NoLater r q → NoLater q r → SamePlace r q
neither_later r q (lower_left a) (lower_left b) = absurd (omega arith)
neither_later r q (lower_left a) (lower_shift b c) = absurd (omega arith)
neither_later r q (lower_left a) (no_later_sign b c d) = absurd (omega arith)
neither_later r q (lower_shift a b) (lower_left c) = absurd (omega arith)
neither_later r q (lower_shift a b) (lower_shift c d) = absurd (omega arith)
neither_later r q (lower_shift a b) (no_later_sign c d e) = absurd (omega arith)
neither_later r q (no_later_sign a b c) (lower_left d) = absurd (omega arith)
neither_later r q (no_later_sign a b c) (lower_shift d e) = absurd (omega arith)
neither_later r q (no_later_sign a b c) (no_later_sign d e f) = record { left = a; shift = b; sign = omega arith }

-- ---- the value on the right
or_nothing : (x : Bool) → (x || false) ≡ true → x ≡ true
or_nothing x h = sym (or-false x) ∙ h

sum_right : (a b v : ℕ) → is_worked_of plus a b v ≡ true → a + b ≡ v
sum_right a b v e = eqb-true (a + b) v e

minus_right : (a b v : ℕ) → is_worked_of minus a b v ≡ true → v + b ≡ a
minus_right a b v e = eqb-true (v + b) a (or_nothing _ (worked_tests minus a b v ∙ e))

reversed_right : (a b v : ℕ) → is_worked_of reversed a b v ≡ true → v + a ≡ b
reversed_right a b v e = eqb-true (v + a) b (worked_tests reversed a b v ∙ e)

one_right : (s a b c v : ℕ) → is_worked_of s a b v ≡ true → is_worked_of s a c v ≡ true → b ≡ c
one_right s a b c v e f = go (eqb s plus) (eqb s minus) (eqb s reversed) refl refl refl
  where
    at : (n x : ℕ) → s ≡ n → is_worked_of s a x v ≡ true → is_worked_of n a x v ≡ true
    at n x q h = subst (λ (m : ℕ). is_worked_of m a x v ≡ true) q h

    go : (x y z : Bool) → eqb s plus ≡ x → eqb s minus ≡ y → eqb s reversed ≡ z → b ≡ c
    go true y z p q r = let d = eqb-true s plus p in omega (arith, sum_right a b v (at plus b d e), sum_right a c v (at plus c d f))
    go false true z p q r = let d = eqb-true s minus q in omega (arith, minus_right a b v (at minus b d e), minus_right a c v (at minus c d f))
    go false false true p q r = let d = eqb-true s reversed r in omega (arith, reversed_right a b v (at reversed b d e), reversed_right a c v (at reversed c d f))
    go false false false p q r = absurd (false≢true (rw (p, q, r) at e))

module _ (rows : List Row) (w : Lawful rows) (v : ℕ) where
  works : (r : Row) → r.value ≡ v → LaterRow rows (length rows) r
      → is_worked_of r.sign (lifted r.shift (row_in rows r.left).value) (row_in rows r.right).value v ≡ true
  works r e l =
      rw (is_true (is_row_sign r.sign) l.sign)
      (is_natural_lem (combined r.sign (pos (lifted r.shift (row_in rows r.left).value)) (pos (row_in rows r.right).value)) v (ap pos (sym e) ∙ l.worked))

  one_first : (r q : Row) → FirstFit rows v r → FirstFit rows v q → r ≡ q
  one_first r q x y =
      let p = neither_later r q (x.first q y.value y.rule) (y.first r x.value x.rule) in
      let g : r.sign ≡ q.sign = same_sign r.sign q.sign x.rule.sign y.rule.sign p.sign in
      let a : lifted q.shift (row_in rows q.left).value ≡ lifted r.shift (row_in rows r.left).value = rw (p.left, p.shift) in
      let f : is_worked_of r.sign (lifted r.shift (row_in rows r.left).value) (row_in rows q.right).value v ≡ true =
      ap (λ (s : ℕ). is_worked_of s (lifted r.shift (row_in rows r.left).value) (row_in rows q.right).value v) g
      ∙ ap (λ (n : ℕ). is_worked_of q.sign n (row_in rows q.right).value v) (sym a)
      ∙ works q y.value y.rule in
      let b = one_right r.sign (lifted r.shift (row_in rows r.left).value) (row_in rows r.right).value (row_in rows q.right).value v (works r x.value x.rule) f in
      same_row r q p.left (lawful_distinct w r.right q.right x.rule.right y.rule.right b) p.shift g (x.value ∙ sym y.value)

  -- ---- the theorem
  pub first_fit_only : v % 2 ≡ 1 → v < 2 ^ 31 → (r : Row) → FirstFit rows v r → first_fit_of rows v ≡ fit r
  first_fit_only o s r x = go (first_fit_of rows v) refl
    where
      go : (f : Fit) → first_fit_of rows v ≡ f → first_fit_of rows v ≡ fit r
      go (fit q) e = e ∙ ap fit (one_first q r (fit_is_first rows v o s q e) x)
      go none_fits e = absurd (none_is_none rows v e r x.value x.rule)
