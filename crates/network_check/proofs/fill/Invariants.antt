-- `network_check::fill` meets its contract. The invariant of its loop: none of the taps passed breaks the rule, and the buffer starts with their
-- coefficients, as far as the loop has come, and is untouched past them. Assumes nothing.
use mathlib.Core.Path.{◌≡◌}
use mathlib.Core.List.{List}
use Prim.Native.Nat.{ℕ, ◌<◌}
use lib.IntN.{ℤ}
use lib.ListN.{get_or}
use Rattle.sequence.specs.Inner.{front}
use Rattle.network.specs.Rows.{rows_of, tap_rows_of, tap_row_at, no_tap}
use Rattle.network.specs.Coefficients.{coefficient_of}
use Rattle.network.specs.Check.{breaks_tap_row_rule}
use Rattle.network_check.proofs.Scans.{Keeps}
use Rattle.network_check.proofs.fill.Given as goal

-- the coefficient at each place
abbrev pub at : List ℕ → ℕ → List ℕ → ℕ → ℕ → ℤ
at rows n taps m j = coefficient_of (rows_of rows n) (get_or (tap_rows_of taps m) j no_tap)

abbrev pub invariant-loop-j : goal.invariant-loop-j
invariant-loop-j l =
    let net = l.network in
    record {
      kept : (k : ℕ) → k < l.j → Keeps (tap_row_at net.taps.now) no_tap (breaks_tap_row_rule (rows_of net.rows.now net.row_count)) net.tap_count k;
      written : l.buffer ≡ front (at net.rows.now net.row_count net.taps.now net.tap_count) l.initial.buffer l.j;
    }
