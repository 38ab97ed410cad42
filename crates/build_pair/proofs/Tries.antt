-- One left row, shift and sign: the right row by its value, and where no row can be it. Assumes nothing.
use mathlib.Core.Path.{◌≡◌, refl, sym, ap, ◌∙◌, subst}
use mathlib.Core.Bool.{Bool, true, false, cond, or-false, ◌||◌}
use mathlib.Core.List.{List, [], ◌∷◌}
use Prim.Native.Nat.{ℕ, suc, ◌+◌, ◌-◌, ◌^◌, ◌≤◌, ◌<◌, zero-le, suc-le-suc}
use native.Mathlib.Omega.{arith}
use borrow.Author.Tests.{eqb-true, eq-eqb, ne_eqb, le-leb}
use lib.Dec.{T, eqb, leb}
use lib.ListN.{length, get_or}
use Rattle.refusal.specs.Answer.{Place, lowest, lowest_from}
use Rattle.refusal.proofs.Checks.{lowest_alike}
use Rattle.refusal.proofs.Lowest.{is_nowhere}
use Rattle.network.specs.declared.Row.{Row}
use Rattle.network.specs.Rows.{plus, minus, reversed, rows_of, row_in, no_row}
use Rattle.network.specs.RowRule.{lifted, is_row_sign, is_worked_of}
use Rattle.network.proofs.Booleans.{same_truth}
use Rattle.network.proofs.RowTests.{worked_tests}
use Rattle.build_steps.specs.Search.{none_fits, row_with, row_over, tried}
use Rattle.build_index.specs.Inner.{value_at}
use Rattle.build_index.proofs.Values.{length_rows, value_in}
use Rattle.build_pair.specs.Inner.{right_value_of}

-- ---- what each sign asks of the right row, without a difference

plus_asks : (a b v : ℕ) → is_worked_of plus a b v ≡ eqb (a + b) v
plus_asks a b v = refl

minus_asks : (a b v : ℕ) → is_worked_of minus a b v ≡ eqb (v + b) a
minus_asks a b v = sym (worked_tests minus a b v) ∙ or-false (eqb (v + b) a)

reversed_asks : (a b v : ℕ) → is_worked_of reversed a b v ≡ eqb (v + a) b
reversed_asks a b v = sym (worked_tests reversed a b v)

eqb_same : (a b c d : ℕ) → (a ≡ b → c ≡ d) → (c ≡ d → a ≡ b) → eqb a b ≡ eqb c d
eqb_same a b c d f g = same_truth (eqb a b) (eqb c d) (λ e. eq-eqb c d (f (eqb-true a b e))) (λ e. eq-eqb a b (g (eqb-true c d e)))

-- a right row of a positive value is asked for by its value
asks : (sign a b v : ℕ) → 0 < b → T (is_row_sign sign) → is_worked_of sign a b v ≡ eqb b (right_value_of sign a v)
asks sign a b v h s = by_sign (eqb sign plus) (eqb sign minus) (eqb sign reversed) refl refl refl s
  where
    by_plus : is_worked_of plus a b v ≡ eqb b (right_value_of plus a v)
    by_plus = plus_asks a b v ∙ eqb_same (a + b) v b (v - a) (λ e. omega arith) (λ e. omega arith)

    by_minus : is_worked_of minus a b v ≡ eqb b (right_value_of minus a v)
    by_minus = minus_asks a b v ∙ eqb_same (v + b) a b (a - v) (λ e. omega arith) (λ e. omega arith)

    by_reversed : is_worked_of reversed a b v ≡ eqb b (right_value_of reversed a v)
    by_reversed = reversed_asks a b v ∙ eqb_same (v + a) b b (a + v) (λ e. omega arith) (λ e. omega arith)

    by_sign : (x y z : Bool) → eqb sign plus ≡ x → eqb sign minus ≡ y → eqb sign reversed ≡ z → T (x || y || z) → is_worked_of sign a b v ≡ eqb b (right_value_of sign a v)
    by_sign true y z e f g t = subst (λ (k : ℕ). is_worked_of k a b v ≡ eqb b (right_value_of k a v)) (sym (eqb-true sign plus e)) by_plus
    by_sign false true z e f g t = subst (λ (k : ℕ). is_worked_of k a b v ≡ eqb b (right_value_of k a v)) (sym (eqb-true sign minus f)) by_minus
    by_sign false false true e f g t = subst (λ (k : ℕ). is_worked_of k a b v ≡ eqb b (right_value_of k a v)) (sym (eqb-true sign reversed g)) by_reversed
    by_sign false false false e f g t = absurd t

-- tests that agree on every element of a list hold at the same lowest place
lowest_same : {A : Type 0} (d : A) (p q : A → Bool) (k : ℕ) (xs : List A) → ((i : ℕ) → i < length xs → p (get_or xs i d) ≡ q (get_or xs i d)) → lowest_from k p xs ≡ lowest_from k q xs
unfolding lowest_from
lowest_same d p q k [] e = refl
lowest_same d p q k (x ∷ xs) e = lowest_alike p q k x xs (e 0 (suc-le-suc zero-le)) (lowest_same d p q (suc k) xs (λ i l. e (suc i) (suc-le-suc l)))

same_none : (b : Bool) → cond b none_fits none_fits ≡ none_fits
same_none true = refl
same_none false = refl

module _ (t : List ℕ) (n v left shift a : ℕ) (within : left < n) (is : a ≡ lifted shift (value_at t left)) where
  lift_is : lifted shift (row_in (rows_of t n) left).value ≡ a
  lift_is = ap (lifted shift) (value_in t n left within) ∙ sym is

  opened : (sign : ℕ) → tried (rows_of t n) v left shift sign
      ≡ cond (leb a (2 ^ 32)) (row_over v left shift sign (lowest (λ (r : Row). is_worked_of sign a r.value v) (rows_of t n))) none_fits
  unfolding tried
  opened sign =
      ap
      (λ (x : ℕ). cond (leb x (2 ^ 32)) (row_over v left shift sign (lowest (λ (r : Row). is_worked_of sign x r.value v) (rows_of t n))) none_fits)
      lift_is

  -- ---- no row can be on the right

  tried_none : (sign : ℕ) → ((k : ℕ) → k < n → is_worked_of sign a (value_at t k) v ≡ false) → tried (rows_of t n) v left shift sign ≡ none_fits
  unfolding row_over
  tried_none sign h =
      opened sign
      ∙ ap (λ (p : Place). cond (leb a (2 ^ 32)) (row_over v left shift sign p) none_fits)
      (is_nowhere no_row (λ (r : Row). is_worked_of sign a r.value v) (rows_of t n) 0
      (λ k l. let b : k < n = omega (arith, length_rows t n) in ap (λ (x : ℕ). is_worked_of sign a x v) (value_in t n k b) ∙ h k b))
      ∙ same_none (leb a (2 ^ 32))

  pub plus_none : ((k : ℕ) → k < n → a + value_at t k ≡ v → ⊥) → tried (rows_of t n) v left shift plus ≡ none_fits
  plus_none h = tried_none plus (λ k l. plus_asks a (value_at t k) v ∙ ne_eqb (a + value_at t k) v (h k l))

  pub minus_none : ((k : ℕ) → k < n → v + value_at t k ≡ a → ⊥) → tried (rows_of t n) v left shift minus ≡ none_fits
  minus_none h = tried_none minus (λ k l. minus_asks a (value_at t k) v ∙ ne_eqb (v + value_at t k) a (h k l))

  pub reversed_none : ((k : ℕ) → k < n → v + a ≡ value_at t k → ⊥) → tried (rows_of t n) v left shift reversed ≡ none_fits
  reversed_none h = tried_none reversed (λ k l. reversed_asks a (value_at t k) v ∙ ne_eqb (v + a) (value_at t k) (h k l))

  -- ---- the row of one value can be

  module _ (low : a ≤ 2 ^ 32) (positive : (k : ℕ) → k < n → 0 < value_at t k) (sign : ℕ) (known : T (is_row_sign sign)) where
    pub tried_right : tried (rows_of t n) v left shift sign ≡ row_over v left shift sign (row_with (rows_of t n) (right_value_of sign a v))
    unfolding row_with
    tried_right =
        opened sign
        ∙ ap (λ (b : Bool). cond b (row_over v left shift sign (lowest (λ (r : Row). is_worked_of sign a r.value v) (rows_of t n))) none_fits) (le-leb a (2 ^ 32) low)
        ∙ ap (row_over v left shift sign)
        (lowest_same no_row (λ (r : Row). is_worked_of sign a r.value v) (λ (r : Row). eqb r.value (right_value_of sign a v)) 0 (rows_of t n)
        (λ k l.
        let b : k < n = omega (arith, length_rows t n) in
        let p : 0 < (row_in (rows_of t n) k).value = omega (arith, value_in t n k b, positive k b) in
        asks sign a (row_in (rows_of t n) k).value v p known))

    -- no row has it
    pub tried_missing : ((k : ℕ) → k < n → value_at t k ≡ right_value_of sign a v → ⊥) → tried (rows_of t n) v left shift sign ≡ none_fits
    tried_missing h =
        tried_none sign (λ k l. asks sign a (value_at t k) v (positive k l) known ∙ ne_eqb (value_at t k) (right_value_of sign a v) (h k l))
