-- Document 01's three steps for one odd part and the rows that they give, in its words. Definitions only.
use Rattle.std.specs.Prelude.{◌≡◌, cond, List, [], ◌∷◌, ◌++◌, ◌⊎◌, ℕ, ◌+◌, ◌*◌, ◌-◌, ◌%◌, ◌^◌, ◌≤◌, ◌<◌, eqb, ℤ, pos, length, get_or, take}
use Rattle.refusal.specs.Answer.{nowhere, at_place}
use Rattle.network.specs.declared.Row.{Row}
use Rattle.network.specs.Rows.{plus, minus, row_in, first_row_of}
use Rattle.network.specs.RowRule.{LaterRow, RowRule}
use Rattle.build_steps.specs.Parts.{Part}
use Rattle.build_steps.specs.PartOrder.{HasOddPart}
use Rattle.build_steps.specs.Search.{row_with, fit, first_fit_of}
use Rattle.build_steps.specs.Chain.{chosen_form_of, chained}

-- ---- step 2

-- the place of a sign "in the order `+`, `-`, `r`"
abbrev pub sign_place : ℕ → ℕ
sign_place sign = cond (eqb sign plus) 0 (cond (eqb sign minus) 1 2)

-- r comes no later than q: "lowest left, then lowest shift, then sign"
pub data NoLater (r q : Row) : Type 0 where
  lower_left : r.left < q.left → NoLater r q
  lower_shift : r.left ≡ q.left → r.shift < q.shift → NoLater r q
  no_later_sign : r.left ≡ q.left → r.shift ≡ q.shift → sign_place r.sign ≤ sign_place q.sign → NoLater r q

-- r is the first of the new rows of value v from these rows
pub record FirstFit (rows : List Row) (v : ℕ) (r : Row) : Type 0 where
  pub value : r.value ≡ v
  pub rule : LaterRow rows (length rows) r
  pub first : (q : Row) → q.value ≡ v → LaterRow rows (length rows) q → NoLater r q

-- ---- the rows that building adds to

-- where a new row comes from: step 2, "The first fit is added"; or step 3, "v = 2^gap·v ± 1 with row 0 on the right"
pub data Made (rows : List Row) (r : Row) : Type 0 where
  by_search : first_fit_of rows r.value ≡ fit r → Made rows r
  by_sum : (v : ℕ) → row_with rows v ≡ at_place r.left → r.right ≡ 0 → r.sign ≡ plus → r.value ≡ 2 ^ r.shift * v + 1 → Made rows r
  by_difference : (v : ℕ) → row_with rows v ≡ at_place r.left → r.right ≡ 0 → r.sign ≡ minus → r.value ≡ 2 ^ r.shift * v - 1 → Made rows r

-- row 0 and rows that came one by one, each keeping the row rule over the rows before it and bringing a value that none of them has
pub data Lawful : List Row → Type 0 where
  row_0 : Lawful (first_row_of ∷ [])
  one_more : {rows : List Row} {r : Row} → Lawful rows → LaterRow rows (length rows) r → row_with rows r.value ≡ nowhere → Made rows r → Lawful (rows ++ (r ∷ []))

-- ---- one odd part

-- "a row has this value"
abbrev pub HasRow : List Row → ℕ → Type 0
HasRow rows v = (i : ℕ) × (row_with rows v ≡ at_place i)

pub record TheStep (rows : List Row) (p : Part) (after : List Row) : Type 0 where
  -- "If a row has this value, use it."
  pub used : HasRow rows p.value → after ≡ rows
  -- "Else search for one new row from existing rows .. The first fit is added"
  pub found : row_with rows p.value ≡ nowhere → (r : Row) → FirstFit rows p.value r → after ≡ rows ++ (r ∷ [])
  -- "Only if none fits, read the chosen form"
  pub read : row_with rows p.value ≡ nowhere → ((q : Row) → q.value ≡ p.value → LaterRow rows (length rows) q → ⊥)
      → after ≡ chained rows (chosen_form_of p.value p.choice)

-- `grown` is `rows` and at most `most` rows more, and has a row of value v
pub record Growth (rows grown : List Row) (v most : ℕ) : Type 0 where
  pub lawful : Lawful grown
  pub has : HasRow grown v
  pub more : List Row
  pub is : grown ≡ rows ++ more
  pub few : length more ≤ most

-- ---- all rows

-- "v = 2^gap·v ± 1 with row 0 on the right": r is such a row over the rows before it
pub record ChainRow (rows : List Row) (r : Row) : Type 0 where
  pub right : r.right ≡ 0
  pub value : ((r.sign ≡ plus) × (r.value ≡ 2 ^ r.shift * (row_in rows r.left).value + 1)) ⊎ ((r.sign ≡ minus) × (r.value ≡ 2 ^ r.shift * (row_in rows r.left).value - 1))

-- step 2 or step 3
pub data LaterBy (rows : List Row) (r : Row) : Type 0 where
  first_fit_lem : FirstFit rows r.value r → LaterBy rows r
  chain_row : ChainRow rows r → LaterBy rows r

-- "A row's value is odd, from 1 to 2^31 - 1"
pub record RowValue (v : ℕ) : Type 0 where
  pub odd : v % 2 ≡ 1
  pub from : 1 ≤ v
  pub to : v ≤ 2 ^ 31 - 1

-- the most rows of a network that is built: row 0, and at most 15 rows for each of 256 odd parts
abbrev pub most_rows : ℕ
most_rows = 1 + 256 * 15

pub record TheRows (coefficients : List ℤ) (rows : List Row) : Type 0 where
  pub rule : (i : ℕ) → i < length rows → RowRule rows i
  pub value : (i : ℕ) → i < length rows → RowValue (row_in rows i).value
  -- no two rows have one value
  pub distinct : (i j : ℕ) → i < length rows → j < length rows → (row_in rows i).value ≡ (row_in rows j).value → i ≡ j
  -- every later row is the first fit for its value over the rows before it, or 2^s·left ± 1 with row 0 on the right
  pub later : (i : ℕ) → 0 < i → i < length rows → LaterBy (take i rows) (row_in rows i)
  -- every odd part has a row
  pub has : (i v : ℕ) → i < length coefficients → HasOddPart (get_or coefficients i (pos 0)) v → HasRow rows v
  pub few : length rows ≤ most_rows
