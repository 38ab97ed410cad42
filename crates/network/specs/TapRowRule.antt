-- The tap row rule. Document 01, "The network" and "Bounds". `TapRowRule` says it in the document's words; `keeps_tap_row_rule` computes it, and
-- `tap_rule` and `tap_kept` of specs/Claims.antt claim that the two say the same. Definitions only.
use Rattle.std.specs.Prelude.{ℕ, ◌≤◌, ◌<◌, ◌≡◌, Bool, ◌&&◌, ◌||◌, List, T, eqb, leb, ltb, length}
use Rattle.word.specs.Bounds.{Coefficient, within_bounds}
use Rattle.network.specs.declared.Row.{Row}
use Rattle.network.specs.declared.TapRow.{TapRow}
use Rattle.network.specs.Rows.{none, plus, minus}
use Rattle.network.specs.Coefficients.{coefficient_of}

-- "a sign (`+` or `-`)"
abbrev pub is_tap_sign : ℕ → Bool
is_tap_sign sign = eqb sign plus || eqb sign minus

-- ---- in the document's words

-- "A tap row is empty (coefficient 0; its row and shift are 0)"
pub record EmptyTap (t : TapRow) : Type 0 where
  pub sign : t.sign ≡ none
  pub row : t.row ≡ 0
  pub shift : t.shift ≡ 0

-- "or a sign (`+` or `-`), the number of a row of the network and a shift 0 to 31 whose product is a coefficient within bounds"
pub record ProductTap (rows : List Row) (t : TapRow) : Type 0 where
  pub sign : T (is_tap_sign t.sign)
  pub row : t.row < length rows
  pub shift : t.shift ≤ 31
  pub bounds : Coefficient (coefficient_of rows t)

-- the tap row rule, over the rows of the network
pub data TapRowRule (rows : List Row) (t : TapRow) : Type 0 where
  is_empty_lem : EmptyTap t → TapRowRule rows t
  is_product_lem : ProductTap rows t → TapRowRule rows t

-- ---- computed

abbrev pub is_empty : TapRow → Bool
is_empty t = eqb t.sign none && eqb t.row 0 && eqb t.shift 0

abbrev pub is_product_of : List Row → TapRow → Bool
is_product_of rows t = is_tap_sign t.sign && ltb t.row (length rows) && leb t.shift 31 && within_bounds (coefficient_of rows t)

unfoldable pub keeps_tap_row_rule : List Row → TapRow → Bool
keeps_tap_row_rule rows t = is_empty t || is_product_of rows t
