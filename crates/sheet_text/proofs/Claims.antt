-- The claims about the sheet, proved: nothing past 257 taps changes it, so that the program reads no more, and document 01's example. Assumes nothing.
use mathlib.Core.Path.{◌≡◌, sym, ap, ◌∙◌}
use mathlib.Core.Bool.{false}
use mathlib.Core.List.{List, ◌++◌}
use mathlib.Core.Logic.{⊎_elim}
use Prim.Native.Nat.{ℕ, ◌≤◌}
use native.Mathlib.Omega.{arith}
use lib.ListN.{length, take, drop, length-append, length-drop}
use lib.Ieee.{Float}
use lib.IntN.{ℤ}
use lib.Seq.{take_all, take_at, drop_at, length-take-le}
use Rattle.refusal.specs.Answer.{Answer, given, refused}
use Rattle.tap_set.specs.declared.Report.{Report}
use Rattle.tap_set.specs.Set.{coefficients_of, TapsRounded}
use Rattle.network.specs.Rows.{row_table, tap_table}
use Rattle.build_steps.specs.TapRows.{built}
use Rattle.build_steps.specs.Answer.{row_count_of}
use Rattle.build_steps.specs.Built.{BuiltInto}
use Rattle.word.proofs.Order.{lt_or_le}
use Rattle.sheet_kinds.specs.Text.{refused_text}
use Rattle.sheet_input.specs.Argument.{Argument, missing}
use Rattle.sheet_input.proofs.Answers.{too_many}
use Rattle.sheet_text.specs.Sheet.{choices, sheet_of, SheetWritten}
use Rattle.sheet_text.specs.Claims.{example_input, example_text, SheetClaims}
use Rattle.sheet_text.proofs.Sheets.{answer_refused, sheet_of_answer}
use Rattle.sheet_text.proofs.Example.{example_sheet}
use Rattle.sheet_text.proofs.Bounds.{accepted_coefficients}
use Rattle.sheet_text.proofs.Building.{build_given}

from_257 : (input : List ℕ) (argument : Argument) → 2056 ≤ length input → sheet_of input argument ≡ refused_text 2 0
from_257 input argument h = sheet_of_answer input argument (refused 2 0) (answer_refused input argument 2 0 (too_many input argument (λ e. omega arith) (omega arith)))

-- the first 2,056 bytes settle it
pub first_2056 : (input : List ℕ) (argument : Argument) → sheet_of (take 2056 input) argument ≡ sheet_of input argument
first_2056 input argument =
    ⊎_elim (λ a. ap (λ (l : List ℕ). sheet_of l argument) (take_all 2056 input (omega arith)))
    (λ a. from_257 (take 2056 input) argument (omega (arith, length-take-le 2056 input a)) ∙ sym (from_257 input argument a))
    (lt_or_le (length input) 2056)

-- ---- the claims

same_sheet : (u v : List ℕ) (argument : Argument) (area : List ℕ) (n : ℕ) (area' : List ℕ) → sheet_of u argument ≡ sheet_of v argument → SheetWritten u argument area n area'
    → SheetWritten v argument area n area'
same_sheet u v argument area n area' e w = record { size = w.size ∙ ap length e; text = w.text ∙ ap (λ (t : List ℕ). t ++ drop n area) e; room = w.room; within = w.within }

text_of : (input : List ℕ) (argument : Argument) (area : List ℕ) (n : ℕ) (area' : List ℕ) → SheetWritten input argument area n area' → take n area' ≡ sheet_of input argument
text_of input argument area n area' w = ap (take n) w.text ∙ take_at (sheet_of input argument) (drop n area) n (sym w.size)

written : (text area : List ℕ) → text ≡ sheet_of example_input missing → length text ≤ length area → SheetWritten example_input missing area (length text) (text ++ drop (length text) area)
written text area e h =
    let k : length text ≤ length (text ++ drop (length text) area) = omega (arith, length-append text (drop (length text) area)) in
    record {
      size = ap length e;
      text = ap (λ (t : List ℕ). t ++ drop (length text) area) e;
      room = omega (arith, length-append text (drop (length text) area), length-drop (length text) area);
      within = (k, sym (length-take-le (length text) (text ++ drop (length text) area) k));
    }

past_the_text : (input : List ℕ) (argument : Argument) (area : List ℕ) (n : ℕ) (area' : List ℕ) → SheetWritten input argument area n area' → drop n area' ≡ drop n area
past_the_text input argument area n area' w =
    ap (drop n) w.text ∙ drop_at (sheet_of input argument) (drop n area) n (sym w.size)

nothing_cut : (input : List ℕ) (argument : Argument) (area : List ℕ) (n : ℕ) (area' : List ℕ) → SheetWritten input argument area n area' → n ≤ length area
nothing_cut input argument area n area' w =
    omega (arith, w.size, w.room, ap length w.text, length-append (sheet_of input argument) (drop n area), length-drop n area)

never_turned_down : (F : ℕ) (taps : List Float) (table : List ℤ) (report : Report) (table' : List ℤ) → TapsRounded F false taps table (given report) table'
    → (rows tap_rows : List ℕ) → row_table ≤ length rows → tap_table ≤ length tap_rows
    → (a : Answer ℕ) (rows' tap_rows' : List ℕ) → BuiltInto (coefficients_of F taps) choices rows tap_rows a rows' tap_rows'
    → a ≡ given (length (built (coefficients_of F taps) choices).rows)
never_turned_down F taps table report table' t rows tap_rows lr lt a rows' tap_rows' b =
    b.answer ∙ ap row_count_of (build_given (coefficients_of F taps) (accepted_coefficients F taps (length table) report (sym t.answer)) rows tap_rows lr lt)

pub sheet_claims : SheetClaims
sheet_claims = record {
  first_2056 = λ input argument area n area' w. same_sheet (take 2056 input) input argument area n area' (first_2056 input argument) w;
  past_the_text = past_the_text;
  nothing_cut = nothing_cut;
  never_turned_down = never_turned_down;
  example_sheet = λ area n area' w. text_of example_input missing area n area' w ∙ example_sheet;
  example_written = λ area h. written example_text area (sym example_sheet) h;
}
