-- Demand 3 whole. The comments are the words of demand 3 and of document 01's paragraph "The sums of demand 3 are fed ..". What the entries
-- leave is said by the relations that are the contracts of `minimal_forms`, `build` and `run`. Definitions only; the theorem is in proofs/Demand3.antt.
use Rattle.std.specs.Prelude.{◌≡◌, List, ℕ, ◌<◌, ◌≤◌, ℤ, pos, length, get_or}
use Rattle.refusal.specs.Answer.{Answer, given}
use Rattle.word.specs.Bounds.{Coefficient}
use Rattle.signed_digit.specs.Listed.{FormsListed}
use Rattle.signed_digit.specs.Claims.{Written}
use Rattle.coefficient.specs.Parts.{parts_of}
use Rattle.network.specs.Rows.{network_of, row_table, tap_table}
use Rattle.build_steps.specs.TapRows.{built}
use Rattle.build_steps.specs.CanBuild.{Listed}
use Rattle.build_steps.specs.Built.{BuiltInto}
use Rattle.run_calls.specs.Memory.{Step}
use Rattle.run_calls.specs.Demand.{Calls, Demand}

-- "Take any 1 to 256 coefficients, any choice of one listed form per tap"
pub record Taken (coefficients : List ℤ) (choices : List ℕ) : Type 0 where
  pub from_1 : 1 ≤ length coefficients
  pub to_256 : length coefficients ≤ 256
  pub within_bounds_lem : (tap : ℕ) → tap < length coefficients → Coefficient (get_or coefficients tap (pos 0))
  pub one_per_tap : length coefficients ≤ length choices
  pub listed : (tap : ℕ) → tap < length coefficients → Listed (parts_of (get_or coefficients tap (pos 0))) (get_or choices tap 0)

-- of coefficients and choices, the answer of building and the tables that it left
pub record Guaranteed (coefficients : List ℤ) (choices : List ℕ) (answer : Answer ℕ) (rows taps : List ℕ) : Type 0 where
  -- "the network that document 01's building steps give for them": `build` accepts them, and returns the number of its rows
  pub accepts : answer ≡ given (length (built coefficients choices).rows)
  -- the tables hold it
  pub holds : network_of rows (length (built coefficients choices).rows) taps (length coefficients) ≡ built coefficients choices
  -- "any list of running calls, refused ones included, on one set of registers cleared at the start, each accepted call with that network. Then,
  -- whatever 16-bit samples they bring, each output is the exact convolution sum ..; after each call the registers are as that document's sums say;
  -- and a refused call gets the refusal listed there and changes nothing"; and a call with that network and tables of full length is accepted
  pub sums : (calls : List Step) → Calls (built coefficients choices) calls → Demand coefficients (built coefficients choices) calls

pub record Demand3 : Type 0 where
  -- "For every 32-bit coefficient, a signed-digit string .. stands in the listing ..": of the mask tables that `minimal_forms` leaves and the count that it
  -- returns. "Its listing and its network are what the entries yield when no table lent to them is under its length."
  pub listings : (n : ℤ) → Coefficient n → (plus minus : List ℕ) (answer : Answer ℕ) (plus' minus' : List ℕ) → 1597 ≤ length plus → 1597 ≤ length minus
      → FormsListed n plus minus answer plus' minus' → Written n plus minus answer plus' minus'
  pub networks : (coefficients : List ℤ) (choices rows taps : List ℕ) (answer : Answer ℕ) (rows' taps' : List ℕ) → Taken coefficients choices
      → row_table ≤ length rows → tap_table ≤ length taps
      → BuiltInto coefficients choices rows taps answer rows' taps' → Guaranteed coefficients choices answer rows' taps'
