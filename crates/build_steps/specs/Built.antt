-- What building answers and leaves in the two lent tables. Document 01, "The network" and "Turned down". Definitions only.
use Rattle.std.specs.Prelude.{◌≡◌, false, List, ℕ, ◌*◌, ℤ, length, drop}
use Rattle.refusal.specs.Answer.{Answer, given, filled}
use Rattle.network.specs.Rows.{row_words, tap_words, network_of, words_of_rows, words_of_tap_rows}
use Rattle.network.specs.Check.{network_answer}
use Rattle.build_steps.specs.TapRows.{built}
use Rattle.build_steps.specs.Answer.{build_answer, row_count_of}

-- building answers a and leaves rows' and taps' in the tables rows and taps: the contract of `build`, and what every claim about building speaks of
pub record BuiltInto (coefficients : List ℤ) (choices rows taps : List ℕ) (a : Answer ℕ) (rows' taps' : List ℕ) : Type 0 where
  pub answer : a ≡ row_count_of (build_answer coefficients choices rows taps)
  pub rows_left : rows' ≡ filled (build_answer coefficients choices rows taps) (words_of_rows (built coefficients choices).rows) rows
  pub taps_left : taps' ≡ filled (build_answer coefficients choices rows taps) (words_of_tap_rows (built coefficients choices).taps) taps

-- of an answer and the tables rows' and taps' that were rows and taps: nothing was turned down, and they hold the network
pub record HoldsNetwork (coefficients : List ℤ) (choices rows taps : List ℕ) (a : Answer ℕ) (rows' taps' : List ℕ) : Type 0 where
  -- the number of its rows is returned
  pub accepts : a ≡ given (length (built coefficients choices).rows)
  pub holds : network_of rows' (length (built coefficients choices).rows) taps' (length coefficients) ≡ built coefficients choices
  -- an entry that is handed them accepts it, where its own tables are long enough, with the coefficients that it was built for
  pub passes : network_answer false rows' (length (built coefficients choices).rows) taps' (length coefficients) ≡ given coefficients
  -- "elements past those that the result fills are untouched"
  pub rows_past : drop (row_words * length (built coefficients choices).rows) rows' ≡ drop (row_words * length (built coefficients choices).rows) rows
  pub taps_past : drop (tap_words * length coefficients) taps' ≡ drop (tap_words * length coefficients) taps
