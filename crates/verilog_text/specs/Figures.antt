-- Document 01's example as Verilog text: the module of the taps 3, -6, 45, 0, its 376 bytes, and what it gives for the least sample. Definitions only;
-- proofs/Figures.antt proves it.
use Rattle.std.specs.Prelude.{◌≡◌, List, [], ◌∷◌, ◌++◌, ℕ, ◌-◌, ◌^◌, ◌≤◌, ◌<◌, pos, neg_ℤ, length, drop}
use Rattle.refusal.specs.Answer.{given, refused}
use Rattle.network.specs.Rows.{reversed, row_table, tap_table}
use Rattle.network.specs.Figures.{sheet_rows, sheet_tap_rows}
use Rattle.text.specs.Ascii.{ascii}
use Rattle.verilog.specs.Meaning.{meaning, shown}
use Rattle.verilog_text.specs.Text.{later_assign}
use Rattle.verilog_text.specs.Written.{text_in, VerilogWritten}

abbrev pub sheet_module : List ℕ
sheet_module =
    ascii "module smoother(input signed [15:0] x, output signed [63:0] t0, output signed [63:0] t1, output signed [63:0] t2, output signed [63:0] t3);\n"
    ++ (ascii "wire signed [63:0] n0;\n"
    ++ (ascii "wire signed [63:0] n1;\n"
    ++ (ascii "wire signed [63:0] n2;\n"
    ++ (ascii "assign n0 = x;\n"
    ++ (ascii "assign n1 = (n0 <<< 1) + n0;\n"
    ++ (ascii "assign n2 = (n1 <<< 4) - n1;\n"
    ++ (ascii "assign t0 = n1 <<< 0;\n"
    ++ (ascii "assign t1 = -(n1 <<< 1);\n"
    ++ (ascii "assign t2 = n2 <<< 0;\n"
    ++ (ascii "assign t3 = 0;\n"
    ++ ascii "endmodule\n"))))))))))

pub record VerilogFigures : Type 0 where
  pub sheet_text : (r t : List ℕ) → text_in (sheet_rows r) 3 (sheet_tap_rows t) 4 ≡ sheet_module
  pub sheet_length : length sheet_module ≡ 376
  -- x, t0, t1, t2, t3, n0, n1, n2 for x = -32768
  pub sheet_values : shown (neg_ℤ (pos 32768)) (meaning sheet_module)
      ≡ (2 ^ 15) ∷ (2 ^ 64 - 98304) ∷ 196608 ∷ (2 ^ 64 - 1474560) ∷ 0 ∷ (2 ^ 64 - 32768) ∷ (2 ^ 64 - 98304) ∷ (2 ^ 64 - 1474560) ∷ []
  -- "for `r`, `assign n2 = n0 - (n1 <<< 4);`"
  pub reversed_text : later_assign 2 (record { left = 1; right = 0; shift = 4; sign = reversed; value = 0 }) ≡ ascii "assign n2 = n0 - (n1 <<< 4);\n"
  -- what the claims take exists: the sheet's network is written where the area has room, an exact fit too, and else turned down with 13
  pub sheet_written : (r t : List ℕ) → row_table ≤ length (sheet_rows r) → tap_table ≤ length (sheet_tap_rows t) → (area : List ℕ) → 376 ≤ length area
      → VerilogWritten (sheet_rows r) 3 (sheet_tap_rows t) 4 area (given 376) (sheet_module ++ drop 376 area)
  pub sheet_too_long : (r t : List ℕ) → row_table ≤ length (sheet_rows r) → tap_table ≤ length (sheet_tap_rows t) → (area : List ℕ) → length area < 376
      → VerilogWritten (sheet_rows r) 3 (sheet_tap_rows t) 4 area (refused 13 0) area
