-- The figures of specs/Figures.antt, by computation: `verilog_figures`. Assumes nothing.
use borrow.Author.Tests.{lt-ltb, le-ltb}
use mathlib.Core.Path.{◌≡◌, refl, sym, ap, ◌∙◌}
use mathlib.Core.List.{List, [], ◌∷◌, ◌++◌}
use Prim.Native.Nat.{ℕ, ◌-◌, ◌^◌, ◌≤◌, ◌<◌}
use lib.IntN.{pos, neg_ℤ}
use lib.ListN.{length, drop}
use Rattle.refusal.specs.Answer.{Answer, given, refused, filled}
use Rattle.sequence.specs.UpTo.{up_to}
use Rattle.network.specs.Rows.{row_table, tap_table}
use Rattle.network.specs.Figures.{sheet_rows, sheet_tap_rows, sheet_coefficients}
use Rattle.network.proofs.Figures.{sheet_network_lem}
use Rattle.text.specs.Numbers.{decimal, decimal_by}
use Rattle.text.specs.Lines.{lines_from, numbered_from}
use Rattle.verilog.specs.Tokens.{scan, class_of}
use Rattle.verilog.specs.Expressions.{run}
use Rattle.verilog.specs.Syntax.{cut_at, output_nets, body_of, module_of}
use Rattle.verilog.specs.Sound.{closed, uses_none, ordered, sound}
use Rattle.verilog.specs.Values.{width_of, signed_of, value_at}
use Rattle.verilog.specs.Meaning.{meaning, assigned, in_order_of, shown}
use Rattle.verilog_text.specs.Text.{verilog_text_of}
use Rattle.verilog_text.specs.Written.{text_in, length_answer, verilog_answer, VerilogWritten}
use Rattle.verilog_text.specs.Figures.{sheet_module, VerilogFigures}
use Rattle.verilog_text.proofs.Answers.{answer_given}

sheet_text : (r t : List ℕ) → text_in (sheet_rows r) 3 (sheet_tap_rows t) 4 ≡ sheet_module
unfolding up_to decimal decimal_by numbered_from lines_from verilog_text_of
sheet_text r t = refl

sheet_length : length sheet_module ≡ 376
sheet_length = refl

sheet_values : shown (neg_ℤ (pos 32768)) (meaning sheet_module)
    ≡ (2 ^ 15) ∷ (2 ^ 64 - 98304) ∷ 196608 ∷ (2 ^ 64 - 1474560) ∷ 0 ∷ (2 ^ 64 - 32768) ∷ (2 ^ 64 - 98304) ∷ (2 ^ 64 - 1474560) ∷ []
unfolding scan class_of run cut_at output_nets body_of module_of closed uses_none ordered sound width_of signed_of value_at assigned in_order_of
sheet_values = refl

module _ (r t : List ℕ) (l : row_table ≤ length (sheet_rows r)) (m : tap_table ≤ length (sheet_tap_rows t)) (area : List ℕ) where
  size_is : length (text_in (sheet_rows r) 3 (sheet_tap_rows t) 4) ≡ 376
  size_is = ap length (sheet_text r t)

  answer_is : verilog_answer (sheet_rows r) 3 (sheet_tap_rows t) 4 (length area)
      ≡ length_answer (length area) (text_in (sheet_rows r) 3 (sheet_tap_rows t) 4)
  answer_is = answer_given (sheet_rows r) 3 (sheet_tap_rows t) 4 (length area) sheet_coefficients (sheet_network_lem r t l m)

  sheet_written : 376 ≤ length area → VerilogWritten (sheet_rows r) 3 (sheet_tap_rows t) 4 area (given 376) (sheet_module ++ drop 376 area)
  sheet_written h =
      let e : verilog_answer (sheet_rows r) 3 (sheet_tap_rows t) 4 (length area) ≡ given 376 = answer_is ∙ rw (size_is, le-ltb (length area) 376 h) in
      record {
        answer = sym e;
        text = sym (ap (λ (a : Answer ℕ). filled a (text_in (sheet_rows r) 3 (sheet_tap_rows t) 4) area) e ∙ ap (λ (s : List ℕ). s ++ drop (length s) area) (sheet_text r t));
      }

  sheet_too_long : length area < 376 → VerilogWritten (sheet_rows r) 3 (sheet_tap_rows t) 4 area (refused 13 0) area
  sheet_too_long h =
      let e : verilog_answer (sheet_rows r) 3 (sheet_tap_rows t) 4 (length area) ≡ refused 13 0 = answer_is ∙ rw (size_is, lt-ltb (length area) 376 h) in
      record { answer = sym e; text = sym (ap (λ (a : Answer ℕ). filled a (text_in (sheet_rows r) 3 (sheet_tap_rows t) 4) area) e) }

pub verilog_figures : VerilogFigures
unfolding decimal decimal_by
verilog_figures = record {
  sheet_text = sheet_text;
  sheet_length = sheet_length;
  sheet_values = sheet_values;
  reversed_text = refl;
  sheet_written = sheet_written;
  sheet_too_long = sheet_too_long;
}
