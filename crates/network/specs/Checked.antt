-- What the two entries that check a network answer and leave. Document 01, "Turned down". Definitions only.
use Rattle.std.specs.Prelude.{ℕ, ◌≡◌, false, List, ltb, ℤ, length}
use Rattle.refusal.specs.Answer.{Answer, filled}
use Rattle.network.specs.Rows.{network_of}
use Rattle.network.specs.Coefficients.{coefficients}
use Rattle.network.specs.Check.{network_answer, outcome}

-- checking the network that rows and taps hold answers a: the contract of `check`, and what every claim about checking speaks of
pub record NetworkChecked (rows : List ℕ) (row_count_of : ℕ) (taps : List ℕ) (tap_count : ℕ) (a : Answer (Unit {0})) : Type 0 where
  pub answer : a ≡ outcome (network_answer false rows row_count_of taps tap_count)

-- reading its coefficients into the lent table answers a and leaves table': the contract of `coefficients`, and what every claim about it speaks of.
-- "coefficients one per tap"
pub record CoefficientsRead (rows : List ℕ) (row_count_of : ℕ) (taps : List ℕ) (tap_count : ℕ) (table : List ℤ) (a : Answer (Unit {0})) (table' : List ℤ)
    : Type 0 where
  pub answer : a ≡ outcome (network_answer (ltb (length table) tap_count) rows row_count_of taps tap_count)
  pub written : table' ≡ filled (network_answer (ltb (length table) tap_count) rows row_count_of taps tap_count) (coefficients (network_of rows row_count_of taps tap_count)) table
