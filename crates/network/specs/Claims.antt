-- What is claimed of networks, of checking them and of reading their coefficients. proofs/Claims.antt proves it. Definitions only.
use Rattle.std.specs.Prelude.{ℕ, ◌≤◌, ◌<◌, ◌≡◌, Bool, true, false, List, ◌++◌, map, ltb, ℤ, pos, ◌*ℤ◌, length, get_or, drop}
use Rattle.word.specs.Bounds.{Coefficient}
use Rattle.refusal.specs.Answer.{Answer, given, refused}
use Rattle.network.specs.declared.Row.{Row}
use Rattle.network.specs.declared.TapRow.{TapRow}
use Rattle.network.specs.Rows.{Network, network_of, row_in, tap_row_in, row_table, tap_table}
use Rattle.network.specs.RowRule.{RowRule, keeps_row_rule_of}
use Rattle.network.specs.Coefficients.{coefficient_of, coefficients}
use Rattle.network.specs.TapRowRule.{EmptyTap, TapRowRule, keeps_tap_row_rule}
use Rattle.network.specs.Adders.{nonzero_taps_of, used_tap_rows}
use Rattle.network.specs.Check.{network_answer}
use Rattle.network.specs.Accepted.{KeepsRules, Accepted}
use Rattle.network.specs.Checked.{NetworkChecked, CoefficientsRead}
use Rattle.network.specs.Evaluation.{row_results, tap_results}

-- "a lent table is under its length: .. rows 4,096, tap rows .. 256", or another of the entry's is
pub data UnderLength (short : Bool) (rows taps : List ℕ) : Type 0 where
  rows_short : length rows < row_table → UnderLength short rows taps
  taps_short : length taps < tap_table → UnderLength short rows taps
  another_short : short ≡ true → UnderLength short rows taps

-- the checks before those of the network pass: 1 to 256 taps, and no table under its length
pub record TablesFit (short : Bool) (rows taps : List ℕ) (tap_count : ℕ) : Type 0 where
  pub taps_from : 1 ≤ tap_count
  pub taps_to : tap_count ≤ 256
  pub rows_long : row_table ≤ length rows
  pub taps_long : tap_table ≤ length taps
  pub others_long : short ≡ false

-- "row rule broken": by row k, and by no lower one
pub record LowestRow (net : Network) (k : ℕ) : Type 0 where
  pub rows_from : 1 ≤ length net.rows
  pub rows_to : length net.rows ≤ 4096
  pub within : k < length net.rows
  pub broken : RowRule net.rows k → ⊥
  pub kept : (i : ℕ) → i < k → RowRule net.rows i

-- "tap row rule broken": by tap row k, and by no lower one, all rows keeping theirs
pub record LowestTapRow (net : Network) (k : ℕ) : Type 0 where
  pub rows_from : 1 ≤ length net.rows
  pub rows_to : length net.rows ≤ 4096
  pub rows_kept : (i : ℕ) → i < length net.rows → RowRule net.rows i
  pub within : k < length net.taps
  pub broken : TapRowRule net.rows (tap_row_in net.taps k) → ⊥
  pub kept : (j : ℕ) → j < k → TapRowRule net.rows (tap_row_in net.taps j)

-- "Turned down": what a number and a place mean that an entry returns which is handed a network; it returns no others
pub data NetworkRefusals (short : Bool) (rows : List ℕ) (row_count_of : ℕ) (taps : List ℕ) (tap_count number place : ℕ) : Type 0 where
  -- "1, place 0: no taps"
  no_taps : number ≡ 1 → place ≡ 0 → tap_count ≡ 0 → NetworkRefusals short rows row_count_of taps tap_count number place
  -- "2, place 0: more than 256 taps"
  too_many_taps : number ≡ 2 → place ≡ 0 → 256 < tap_count → NetworkRefusals short rows row_count_of taps tap_count number place
  -- "3, place 0: a lent table is under its length"
  short_table_lem : number ≡ 3 → place ≡ 0 → 1 ≤ tap_count → tap_count ≤ 256 → UnderLength short rows taps
      → NetworkRefusals short rows row_count_of taps tap_count number place
  -- "10, row: .. row count 0 or over 4,096 gives place 0"
  no_rows : number ≡ 10 → place ≡ 0 → TablesFit short rows taps tap_count → row_count_of ≡ 0 → NetworkRefusals short rows row_count_of taps tap_count number place
  too_many_rows : number ≡ 10 → place ≡ 0 → TablesFit short rows taps tap_count → 4096 < row_count_of
      → NetworkRefusals short rows row_count_of taps tap_count number place
  -- "10, row: row rule broken"
  row_broken : number ≡ 10 → TablesFit short rows taps tap_count → LowestRow (network_of rows row_count_of taps tap_count) place
      → NetworkRefusals short rows row_count_of taps tap_count number place
  -- "11, tap: tap row rule broken"
  tap_row_broken : number ≡ 11 → TablesFit short rows taps tap_count → LowestTapRow (network_of rows row_count_of taps tap_count) place
      → NetworkRefusals short rows row_count_of taps tap_count number place

pub record NetworkClaims : Type 0 where
  -- ---- the computed rules are the rules in document 01's words
  pub row_rule : (rows : List Row) (i : ℕ) → keeps_row_rule_of rows i ≡ true → RowRule rows i
  pub row_kept : (rows : List Row) (i : ℕ) → RowRule rows i → keeps_row_rule_of rows i ≡ true
  pub tap_rule : (rows : List Row) (t : TapRow) → keeps_tap_row_rule rows t ≡ true → TapRowRule rows t
  pub tap_kept : (rows : List Row) (t : TapRow) → TapRowRule rows t → keeps_tap_row_rule rows t ≡ true
  -- ---- "a number is returned in no other circumstances": an entry that is handed a network gives its coefficients exactly where nothing is turned down
  pub given_accepted : (short : Bool) (rows : List ℕ) (row_count_of : ℕ) (taps : List ℕ) (tap_count : ℕ) (h : List ℤ)
      → network_answer short rows row_count_of taps tap_count ≡ given h → Accepted short rows row_count_of taps tap_count h
  pub accepted_given : (short : Bool) (rows : List ℕ) (row_count_of : ℕ) (taps : List ℕ) (tap_count : ℕ) (h : List ℤ)
      → Accepted short rows row_count_of taps tap_count h → network_answer short rows row_count_of taps tap_count ≡ given h
  -- ---- checking: a network passes exactly where it keeps the rules
  pub check_passes : (rows : List ℕ) (row_count_of : ℕ) (taps : List ℕ) (tap_count : ℕ) → NetworkChecked rows row_count_of taps tap_count (given tt)
      → Accepted false rows row_count_of taps tap_count (coefficients (network_of rows row_count_of taps tap_count))
  pub check_accepts : (rows : List ℕ) (row_count_of : ℕ) (taps : List ℕ) (tap_count : ℕ) (h : List ℤ) → Accepted false rows row_count_of taps tap_count h
      → (a : Answer (Unit {0})) → NetworkChecked rows row_count_of taps tap_count a → a ≡ given tt
  -- ---- "The first that applies is returned, with the lowest place that breaks it": what a refusal means, of checking, of reading and of any other
  -- entry that is handed a network
  pub check_refusals : (rows : List ℕ) (row_count_of : ℕ) (taps : List ℕ) (tap_count number place : ℕ)
      → NetworkChecked rows row_count_of taps tap_count (refused number place) → NetworkRefusals false rows row_count_of taps tap_count number place
  pub read_refusals : (rows : List ℕ) (row_count_of : ℕ) (taps : List ℕ) (tap_count : ℕ) (table table' : List ℤ) (number place : ℕ)
      → CoefficientsRead rows row_count_of taps tap_count table (refused number place) table'
      → NetworkRefusals (ltb (length table) tap_count) rows row_count_of taps tap_count number place
  pub network_refusals : (short : Bool) (rows : List ℕ) (row_count_of : ℕ) (taps : List ℕ) (tap_count number place : ℕ)
      → network_answer short rows row_count_of taps tap_count ≡ refused number place → NetworkRefusals short rows row_count_of taps tap_count number place
  -- ---- reading the coefficients: the same, and "elements past those that the result fills are untouched"; "unchanged" on a refusal
  pub read_passes : (rows : List ℕ) (row_count_of : ℕ) (taps : List ℕ) (tap_count : ℕ) (table table' : List ℤ)
      → CoefficientsRead rows row_count_of taps tap_count table (given tt) table'
      → Accepted (ltb (length table) tap_count) rows row_count_of taps tap_count (coefficients (network_of rows row_count_of taps tap_count))
  pub read_accepts : (rows : List ℕ) (row_count_of : ℕ) (taps : List ℕ) (tap_count : ℕ) (table : List ℤ) (h : List ℤ)
      → Accepted (ltb (length table) tap_count) rows row_count_of taps tap_count h
      → (a : Answer (Unit {0})) (table' : List ℤ) → CoefficientsRead rows row_count_of taps tap_count table a table' → a ≡ given tt
  pub read_table : (rows : List ℕ) (row_count_of : ℕ) (taps : List ℕ) (tap_count : ℕ) (table table' : List ℤ)
      → CoefficientsRead rows row_count_of taps tap_count table (given tt) table'
      → table' ≡ coefficients (network_of rows row_count_of taps tap_count) ++ drop tap_count table
  pub read_refused : (rows : List ℕ) (row_count_of : ℕ) (taps : List ℕ) (tap_count : ℕ) (table table' : List ℤ) (number place : ℕ)
      → CoefficientsRead rows row_count_of taps tap_count table (refused number place) table' → table' ≡ table
  -- ---- "A tap row is .. a sign .., the number of a row of the network and a shift 0 to 31 whose product is a coefficient within bounds"
  pub coefficient_is : (net : Network) (h : List ℤ) → KeepsRules net h → (j : ℕ) → get_or h j (pos 0) ≡ coefficient_of net.rows (tap_row_in net.taps j)
  pub given_fits : (short : Bool) (rows : List ℕ) (row_count_of : ℕ) (taps : List ℕ) (tap_count : ℕ) (h : List ℤ)
      → network_answer short rows row_count_of taps tap_count ≡ given h → (j : ℕ) → j < tap_count → Coefficient (get_or h j (pos 0))
  -- equal networks have equal coefficients, whatever the tables hold past them
  pub same_coefficients : (short short' : Bool) (rows rows' : List ℕ) (n n' : ℕ) (taps taps' : List ℕ) (m m' : ℕ) (h h' : List ℤ)
      → network_of rows n taps m ≡ network_of rows' n' taps' m' → network_answer short rows n taps m ≡ given h → network_answer short' rows' n' taps' m' ≡ given h'
      → h ≡ h'
  -- ---- "nonzero taps" (document 02, request 2): of a network that passes, the coefficients that are 0 are those of the empty tap rows, so that either
  -- may be counted
  pub empty_zero : (net : Network) (h : List ℤ) → KeepsRules net h → (j : ℕ) → j < length net.taps → EmptyTap (tap_row_in net.taps j)
      → get_or h j (pos 0) ≡ pos 0
  pub zero_empty : (net : Network) (h : List ℤ) → KeepsRules net h → (j : ℕ) → j < length net.taps → get_or h j (pos 0) ≡ pos 0
      → EmptyTap (tap_row_in net.taps j)
  pub taps_counted : (net : Network) (h : List ℤ) → KeepsRules net h → used_tap_rows net.taps ≡ nonzero_taps_of h
  -- ---- "multiplierless": by shifts, sums and differences alone every row gives its value times the sample, every tap its coefficient times the sample
  pub rows_multiply : (net : Network) (h : List ℤ) → KeepsRules net h → (sample : ℤ) (i : ℕ) → i < length net.rows
      → get_or (row_results net.rows sample (length net.rows)) i (pos 0) ≡ pos (row_in net.rows i).value *ℤ sample
  pub taps_multiply : (net : Network) (h : List ℤ) → KeepsRules net h → (sample : ℤ) → tap_results net sample ≡ map (λ (c : ℤ). c *ℤ sample) h
