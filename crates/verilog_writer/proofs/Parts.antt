-- The parts of the text, as the writers make them. Assumes nothing.
use mathlib.Core.Path.{◌≡◌, ap, ap₂}
use mathlib.Core.List.{List, ◌++◌}
use Prim.Native.Nat.{ℕ, ◌+◌}
use native.Mathlib.Omega.{arith}
use lib.ListN.{length}
use Rattle.sequence.proofs.UpTo.{length_up_to}
use Rattle.network.specs.Rows.{row_at, tap_row_at, rows_of, tap_rows_of, network_of}
use Rattle.text.specs.Lines.{lines_from, numbered_from}
use Rattle.verilog_text.specs.Text.{module_line, wire_line, row_assign, tap_assign, last_line, verilog_text_of}
use Rattle.verilog_text.specs.Written.{text_in}
use Rattle.verilog_text.proofs.Lengths.{text_parts}

module _ (rows : List ℕ) (n : ℕ) (taps : List ℕ) (m : ℕ) where
  rows_counted : length (rows_of rows n) ≡ n
  rows_counted = length_up_to n (row_at rows)

  taps_counted : length (tap_rows_of taps m) ≡ m
  taps_counted = length_up_to m (tap_row_at taps)

  -- the lines of the text after the module line
  abbrev lines_of : ℕ → List ℕ
  lines_of k = numbered_from wire_line 0 k ++ (lines_from row_assign 0 (rows_of rows n) ++ (lines_from tap_assign 0 (tap_rows_of taps m) ++ last_line))

  pub parts_are : text_in rows n taps m
      ≡ module_line m ++ (numbered_from wire_line 0 n ++ (lines_from row_assign 0 (rows_of rows n) ++ (lines_from tap_assign 0 (tap_rows_of taps m) ++ last_line)))
  unfolding verilog_text_of
  parts_are = ap₂ (λ (j k : ℕ). module_line j ++ lines_of k) taps_counted rows_counted

  pub parts_length : length (text_in rows n taps m)
      ≡ length (module_line m) + (length (numbered_from wire_line 0 n) + (length (lines_from row_assign 0 (rows_of rows n)) + (length (lines_from tap_assign 0 (tap_rows_of taps m)) + 10)))
  parts_length =
      omega (
        arith,
        text_parts (network_of rows n taps m),
        ap (λ (k : ℕ). length (module_line k)) taps_counted,
        ap (λ (k : ℕ). length (numbered_from wire_line 0 k)) rows_counted,
      )
