-- What is claimed of the sheet. Definitions only; proofs/Claims.antt proves it.
use Rattle.std.specs.Prelude.{◌≡◌, false, List, [], ◌∷◌, ◌++◌, ℕ, ◌≤◌, Float, ℤ, length, take, drop}
use Rattle.refusal.specs.Answer.{Answer, given}
use Rattle.tap_set.specs.declared.Report.{Report}
use Rattle.tap_set.specs.Set.{coefficients_of, TapsRounded}
use Rattle.network.specs.Rows.{row_table, tap_table}
use Rattle.build_steps.specs.TapRows.{built}
use Rattle.build_steps.specs.Built.{BuiltInto}
use Rattle.text.specs.Ascii.{ascii}
use Rattle.sheet_input.specs.Argument.{Argument, missing}
use Rattle.sheet_text.specs.Sheet.{choices, SheetWritten}

-- "Taps 3, -6, 45, 0 over 32768": 8 bytes each, low byte first
abbrev pub example_input : List ℕ
example_input =
    0 ∷ 0 ∷ 0 ∷ 0 ∷ 0 ∷ 0 ∷ 24 ∷ 63 ∷
    0 ∷ 0 ∷ 0 ∷ 0 ∷ 0 ∷ 0 ∷ 40 ∷ 191 ∷
    0 ∷ 0 ∷ 0 ∷ 0 ∷ 0 ∷ 128 ∷ 86 ∷ 63 ∷
    0 ∷ 0 ∷ 0 ∷ 0 ∷ 0 ∷ 0 ∷ 0 ∷ 0 ∷ []

-- and what they give
abbrev pub example_text : List ℕ
example_text =
    ascii "kind,number,left,shift,sign,right,value\r\n"
    ++ ascii "node,0,,,,,1\r\n"
    ++ ascii "node,1,0,1,+,0,3\r\n"
    ++ ascii "node,2,1,4,-,1,45\r\n"
    ++ ascii "tap,0,1,0,+,,3\r\n"
    ++ ascii "tap,1,1,1,-,,-6\r\n"
    ++ ascii "tap,2,2,0,+,,45\r\n"
    ++ ascii "tap,3,,,,,0\r\n"
    ++ ascii "total,4,,,,,\r\n"

pub record SheetClaims : Type 0 where
  -- the first 2,056 bytes, 257 taps, settle the sheet
  pub first_2056 : (input : List ℕ) (argument : Argument) (area : List ℕ) (n : ℕ) (area' : List ℕ) → SheetWritten (take 2056 input) argument area n area'
      → SheetWritten input argument area n area'
  -- "elements past those that the result fills are untouched"
  pub past_the_text : (input : List ℕ) (argument : Argument) (area : List ℕ) (n : ℕ) (area' : List ℕ) → SheetWritten input argument area n area' → drop n area' ≡ drop n area
  -- no sheet is cut: the area has room for it
  pub nothing_cut : (input : List ℕ) (argument : Argument) (area : List ℕ) (n : ℕ) (area' : List ℕ) → SheetWritten input argument area n area' → n ≤ length area
  -- taps that are rounded can be built, "all choices 0"
  pub never_turned_down : (F : ℕ) (taps : List Float) (table : List ℤ) (report : Report) (table' : List ℤ) → TapsRounded F false taps table (given report) table'
      → (rows tap_rows : List ℕ) → row_table ≤ length rows → tap_table ≤ length tap_rows
      → (a : Answer ℕ) (rows' tap_rows' : List ℕ) → BuiltInto (coefficients_of F taps) choices rows tap_rows a rows' tap_rows'
      → a ≡ given (length (built (coefficients_of F taps) choices).rows)
  -- document 01's example
  pub example_sheet : (area : List ℕ) (n : ℕ) (area' : List ℕ) → SheetWritten example_input missing area n area' → take n area' ≡ example_text
  -- and there is such an area
  pub example_written : (area : List ℕ) → length example_text ≤ length area
      → SheetWritten example_input missing area (length example_text) (example_text ++ drop (length example_text) area)
