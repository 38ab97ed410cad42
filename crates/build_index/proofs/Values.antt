-- A look-up by value in the rows of a table, in terms of the table's words. Assumes nothing.
use mathlib.Core.Path.{◌≡◌, sym, ap, ◌∙◌}
use mathlib.Core.List.{List}
use Prim.Native.Nat.{ℕ, ◌<◌}
use native.Mathlib.Omega.{arith}
use lib.ListN.{length}
use Rattle.refusal.specs.Answer.{nowhere, at_place}
use Rattle.sequence.proofs.UpTo.{length_up_to, get_d_up_to}
use Rattle.network.specs.declared.Row.{Row}
use Rattle.network.specs.Rows.{row_at, rows_of, row_in, no_row}
use Rattle.build_steps.specs.Search.{row_with}
use Rattle.build_steps.proofs.Lookup.{row_within, row_value, row_absent, row_is, row_none}
use Rattle.build_index.specs.Inner.{value_at}

module _ (t : List ℕ) (n : ℕ) where
  pub length_rows : length (rows_of t n) ≡ n
  length_rows = length_up_to n (row_at t)

  pub row_in_lem : (i : ℕ) → i < n → row_in (rows_of t n) i ≡ row_at t i
  row_in_lem i h = get_d_up_to n (row_at t) no_row i h

  pub value_in : (i : ℕ) → i < n → (row_in (rows_of t n) i).value ≡ value_at t i
  value_in i h = ap (λ (r : Row). r.value) (row_in_lem i h)

  module _ (x : ℕ) where
    -- no row has the value
    pub missing_row : ((i : ℕ) → i < n → value_at t i ≡ x → ⊥) → row_with (rows_of t n) x ≡ nowhere
    missing_row h = row_none (rows_of t n) x (λ i l e. let b : i < n = omega (arith, length_rows) in h i b (sym (value_in i b) ∙ e))

    pub row_missing : row_with (rows_of t n) x ≡ nowhere → (i : ℕ) → i < n → value_at t i ≡ x → ⊥
    row_missing e i h q = row_absent (rows_of t n) x e i (omega (arith, length_rows)) (value_in i h ∙ q)

    -- row j has it, and no row before it
    pub found_row : (j : ℕ) → j < n → value_at t j ≡ x → ((i : ℕ) → i < j → value_at t i ≡ x → ⊥) → row_with (rows_of t n) x ≡ at_place j
    found_row j h e none =
        row_is (rows_of t n) x j (omega (arith, length_rows)) (value_in j h ∙ e) (λ i l q. let b : i < n = omega arith in none i l (sym (value_in i b) ∙ q))

    pub row_found : (j : ℕ) → row_with (rows_of t n) x ≡ at_place j → (j < n) × (value_at t j ≡ x)
    row_found j e =
        let h : j < n = omega (arith, row_within (rows_of t n) x j e, length_rows) in (h, sym (value_in j h) ∙ row_value (rows_of t n) x j e)
