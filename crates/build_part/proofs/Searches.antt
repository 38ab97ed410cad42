-- The three steps of one odd part: what each asks of the rows that are there, and the rows that it gives. Assumes nothing.
use mathlib.Core.Path.{◌≡◌, sym, ap, ◌∙◌}
use mathlib.Core.List.{List, [], ◌∷◌, ◌++◌, reverse}
use Prim.Native.Nat.{ℕ, ◌+◌, ◌%◌, ◌<◌}
use native.Mathlib.Omega.{arith}
use lib.ListN.{length, length-append}
use Rattle.refusal.specs.Answer.{Place, nowhere, at_place}
use Rattle.signed_digit.specs.String.{DigitString}
use Rattle.signed_digit.specs.Masks.{plus_mask, minus_mask, from_masks}
use Rattle.signed_digit.proofs.Masks.{masks_string}
use Rattle.form_masks.specs.Form.{form_of, string_of}
use Rattle.network.specs.declared.Row.{Row}
use Rattle.build_steps.specs.Parts.{Part}
use Rattle.build_steps.specs.Search.{row_with, Fit, fit, none_fits, first_fit_of}
use Rattle.build_steps.specs.Chain.{chosen_form_of, chained, chain_end}
use Rattle.build_steps.specs.Steps.{searched, looked_up, step}
use Rattle.build_steps.proofs.ChosenForm.{chosen_form_lem}
use Rattle.build_steps.proofs.Chain.{one_has_row}
use Rattle.build_steps.proofs.FirstFit.{fit_is_first}
use Rattle.build_steps.proofs.Lawful.{lawful_value}
use Rattle.build_index.specs.declared.Rows.{Rows}
use Rattle.build_index.specs.declared.IndexedRows.{IndexedRows}
use Rattle.build_index.specs.Inner.{value_at, RowsRead}
use Rattle.build_index.proofs.Reading.{rows_read, index_read}
use Rattle.build_index.proofs.Values.{length_rows, value_in}
use Rattle.build_pair.specs.Inner.{Searchable}
use Rattle.build_chain.specs.Inner.{rows_in, Readable}
use Rattle.build_part.specs.Inner.{Ready}

module _ {own : Rows} {values marks : List ℕ} {most : ℕ} {p : Part} (r : Ready own values marks most p) where
  abbrev rows : List Row
  rows = rows_in own

  -- a row's value is odd
  odd : (i : ℕ) → i < own.count → value_at own.table.now i % 2 ≡ 1
  odd i h =
      ap (λ (v : ℕ). v % 2) (sym (value_in own.table.now own.count i h)) ∙ (lawful_value r.lawful i (omega (arith, length_rows own.table.now own.count))).odd

  -- step 1
  pub row_used : (i : ℕ) → row_with rows p.value ≡ at_place i → rows ≡ step rows p
  unfolding step looked_up
  row_used i e = sym (ap (λ (w : Place). looked_up w rows p) e)

  -- the chosen form, as a string
  form_string : string_of (form_of (chosen_form_of p.value p.choice)) ≡ chosen_form_of p.value p.choice
  unfolding string_of
  form_string =
      let c = chosen_form_lem p.value p.choice r.part.below r.part.choice in
      let s = chosen_form_of p.value p.choice in
      ap (λ (k : ℕ). from_masks k (plus_mask s) (minus_mask s)) (sym c.places) ∙ masks_string s

  pub readable : Readable (form_of (chosen_form_of p.value p.choice)) rows
  readable =
      let c = chosen_form_lem p.value p.choice r.part.below r.part.choice in
      let e : chain_end (reverse (string_of (form_of (chosen_form_of p.value p.choice)))) ≡ p.value = ap (λ (s : DigitString). chain_end (reverse s)) form_string ∙ c.ends r.part.odd in
      record { one = one_has_row r.lawful; above = omega (arith, e, r.part.odd); below = omega (arith, e, r.part.below) }

  module _ (e : row_with rows p.value ≡ nowhere) where
    pub searchable : (read : IndexedRows) → RowsRead own read → Searchable read most p.value
    searchable read is = record {
      index = index_read is r.index;
      odd = rw (is.table, is.count) odd;
      bounded = rw (is.table, is.count) r.bounded;
      small = r.small;
      new_odd = r.part.odd;
      new_small = r.part.below;
      new = ap (λ (xs : List Row). row_with xs p.value) (rows_read is) ∙ e;
    }

    step_is : (f : Fit) → first_fit_of rows p.value ≡ f → searched f rows p ≡ step rows p
    unfolding step looked_up
    step_is f q = sym (ap (λ (w : Place). looked_up w rows p) e ∙ ap (λ (x : Fit). searched x rows p) q)

    -- step 2: a fit is written as one row more
    module _ (row : Row) (f : first_fit_of rows p.value ≡ fit row) where
      pub fit_added : rows ++ (row ∷ []) ≡ step rows p
      unfolding searched
      fit_added = step_is (fit row) f

      pub fit_length : length (step rows p) ≡ own.count + 1
      fit_length = ap length (sym fit_added) ∙ length-append rows (row ∷ []) ∙ omega (arith, length_rows own.table.now own.count)

      pub fit_new : row_with rows row.value ≡ nowhere
      fit_new = ap (row_with rows) (fit_is_first rows p.value r.part.odd r.part.below row f).value ∙ e

    -- step 3
    pub chain_added : first_fit_of rows p.value ≡ none_fits → chained rows (string_of (form_of (chosen_form_of p.value p.choice))) ≡ step rows p
    unfolding searched
    chain_added f = ap (chained rows) form_string ∙ step_is none_fits f
