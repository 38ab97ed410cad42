-- What checking a network answers. Document 01, "Turned down". Definitions only.
use Rattle.std.specs.Prelude.{ℕ, Bool, not, ◌||◌, List, eqb, ltb, ℤ, length}
use Rattle.refusal.specs.Answer.{Answer, given, refused, refuse_if, refuse_at, lowest}
use Rattle.sequence.specs.UpTo.{up_to}
use Rattle.network.specs.declared.Row.{Row}
use Rattle.network.specs.declared.TapRow.{TapRow}
use Rattle.network.specs.Rows.{Network, network_of, row_table, tap_table}
use Rattle.network.specs.RowRule.{keeps_row_rule_of}
use Rattle.network.specs.Coefficients.{coefficients}
use Rattle.network.specs.TapRowRule.{keeps_tap_row_rule}

-- row i, or a tap row, breaks its rule
abbrev pub breaks_row_rule : List Row → ℕ → Bool
breaks_row_rule rows i = not (keeps_row_rule_of rows i)

abbrev pub breaks_tap_row_rule : List Row → TapRow → Bool
breaks_tap_row_rule rows t = not (keeps_tap_row_rule rows t)

-- the numbers of n rows: 0, 1, .. n - 1
abbrev pub numbers : ℕ → List ℕ
numbers n = up_to n (λ (i : ℕ). i)

-- the checks 10 and 11 of a network, and its coefficients where it passes: "row rule broken; row count 0 or over 4,096 gives place 0",
-- "tap row rule broken"
unfoldable pub checked : Network → Answer (List ℤ)
checked net =
    refuse_if (eqb (length net.rows) 0 || ltb 4096 (length net.rows)) 10
    (refuse_at (lowest (breaks_row_rule net.rows) (numbers (length net.rows))) 10
    (refuse_at (lowest (breaks_tap_row_rule net.rows) net.taps) 11
    (given (coefficients net))))

-- "a lent table is under its length: .. rows 4,096, tap rows .. 256", whatever the counts
abbrev pub short_tables : List ℕ → List ℕ → Bool
short_tables rows taps = ltb (length rows) row_table || ltb (length taps) tap_table

-- an entry that is handed a network: "Checks run down the table", and `short` says that another lent table is under its length
unfoldable pub network_answer : Bool → List ℕ → ℕ → List ℕ → ℕ → Answer (List ℤ)
unfolding checked
network_answer short rows row_count_of taps tap_count =
    refuse_if (eqb tap_count 0) 1
    (refuse_if (ltb 256 tap_count) 2
    (refuse_if (short_tables rows taps || short) 3
    (checked (network_of rows row_count_of taps tap_count))))

-- an answer without its result
abbrev pub outcome : {A : Type 0} → Answer A → Answer (Unit {0})
outcome (given a) = given tt
outcome (refused number place) = refused number place
