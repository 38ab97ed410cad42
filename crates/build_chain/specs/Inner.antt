-- A form that is read from its highest nonzero digit down, while rows are added. For the contracts of internal functions. Definitions only.
use Rattle.std.specs.Prelude.{◌≡◌, List, reverse, ℕ, ◌^◌, ◌≤◌, ◌<◌, take}
use Rattle.refusal.specs.Answer.{at_place}
use Rattle.signed_digit.specs.Digit.{nonzero}
use Rattle.signed_digit.specs.String.{DigitString}
use Rattle.signed_digit.specs.Masks.{mask}
use Rattle.form_masks.specs.declared.Form.{Form}
use Rattle.form_masks.specs.Form.{string_of}
use Rattle.network.specs.declared.Row.{Row}
use Rattle.network.specs.Rows.{rows_of}
use Rattle.build_steps.specs.Search.{row_with}
use Rattle.build_steps.specs.Chain.{add_unless, chain_step, chain_from, chain_value, chain_end, chained}
use Rattle.build_index.specs.declared.Rows.{Rows}
use Rattle.build_index.specs.Inner.{Grown}
use Rattle.build_chain.specs.declared.Chain.{Chain}
use Rattle.build_chain.specs.declared.Step.{Step}

-- the rows themselves
abbrev pub rows_in : Rows → List Row
rows_in r = rows_of r.table.now r.count

-- the value 1 has row 0, and the form's chain ends at a value that a row can have
pub record Readable (form : Form) (rows : List Row) : Type 0 where
  pub one : row_with rows 1 ≡ at_place 0
  pub above : 0 < chain_end (reverse (string_of form))
  pub below : chain_end (reverse (string_of form)) < 2 ^ 31

-- the digits below a place, from high to low
abbrev pub below : Form → ℕ → DigitString
below form place = reverse (take place (string_of form))

-- the rows that the digits still to come give
abbrev pub to_come : Chain → List Row → List Row
to_come c rows = chain_from rows c.value 1 (below c.form c.place)

-- the digits of a form that is being read
pub record Digits (c : Chain) : Type 0 where
  pub place_to : c.place < 32
  pub rest : c.rest ≡ mask nonzero (take c.place (string_of c.form))
  pub above : 1 ≤ c.value
  pub ends : chain_value c.value 1 (below c.form c.place) < 2 ^ 31

-- and its rows: the value of the digits that are read has its row
pub record Reading (c : Chain) (rows : List Row) : Type 0 where
  pub digits : Digits c
  pub row : row_with rows c.value ≡ at_place c.row

-- before a digit is read after the highest, the value of which has row 0
pub record Started (form : Form) (rows : List Row) (c : Chain) : Type 0 where
  pub reading : Reading c rows
  pub same : to_come c rows ≡ chained rows (string_of form)

-- a step to the next nonzero digit
pub record IsNext (c : Chain) (r : Step) : Type 0 where
  pub place_to : r.place < c.place
  pub rest : r.rest ≡ mask nonzero (take r.place (string_of c.form))
  pub less : r.rest < c.rest
  pub above : 1 ≤ r.value
  pub ends : chain_value r.value 1 (below c.form r.place) ≡ chain_value c.value 1 (below c.form c.place)
  pub rows : (rows : List Row) → chain_from (chain_step rows c.value r.gap r.sign r.value) r.value 1 (below c.form r.place) ≡ to_come c rows

-- row i of r' has the row's value, added where there was none
pub record Reached (r : Rows) (row : Row) (r' : Rows) (i : ℕ) : Type 0 where
  pub grown : Grown r r' (add_unless (row_with (rows_in r) row.value) (rows_in r) row)
  pub more : r.count ≤ r'.count
  pub there : row_with (rows_in r') row.value ≡ at_place i

-- one digit further
pub record Turned (r : Rows) (c : Chain) (r' : Rows) (c' : Chain) : Type 0 where
  pub grown : Grown r r' (rows_in r')
  pub more : r.count ≤ r'.count
  pub reading : Reading c' (rows_in r')
  pub same : to_come c' (rows_in r') ≡ to_come c (rows_in r)
  pub less : c'.rest < c.rest
