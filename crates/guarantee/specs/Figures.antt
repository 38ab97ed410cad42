-- All figures that document 01, "Bench figures", marks [P], in one list; those on taps are as request 4 of document 02 amends them. Definitions only; the theorem is in
-- proofs/Figures.antt.
use Rattle.std.specs.Prelude.{◌≡◌, List, [], ◌∷◌, ◌++◌, map, ℕ, ◌*◌, ◌-◌, ◌≤◌, ℤ, pos, neg_ℤ, length, replicate}
use Rattle.refusal.specs.Answer.{Answer, given, refused}
use Rattle.signed_digit.specs.Figures.{Figures}
use Rattle.tap.specs.Figures.{TapFigures}
use Rattle.network.specs.Rows.{row_words, row_table, tap_words, tap_table}
use Rattle.build_steps.specs.TapRows.{built}
use Rattle.network.specs.Figures.{sheet_coefficients}
use Rattle.build_steps.specs.Figures.{sheet_choices, sheet_network}
use Rattle.build_steps.specs.Built.{BuiltInto}
use Rattle.run_calls.specs.Run.{Ran}
use Rattle.run_calls.specs.Memory.{Step}
use Rattle.run_calls.specs.Demand.{Calls, FullLength, Demand}
use Rattle.guarantee.specs.Demand3.{Taken}
use Rattle.guarantee.specs.Sheet.{sheet_samples, sheet_outputs, accepted_call, four_calls}

-- from cleared registers, with the tables that `build` left for it, whatever lies past the tables' rows, the registers and the outputs; `run` answers and
-- leaves o' in the outputs
pub record SheetFilter (rest : List ℤ) (answer : Answer (Unit {0})) (o' : List ℤ) : Type 0 where
  pub accepted : answer ≡ given tt
  pub given_outputs : o' ≡ sheet_outputs ++ rest

-- tables that `build` leaves: hypotheses of demand 3 that hold
pub record SheetBuilt : Type 0 where
  pub rows' : List ℕ
  pub taps' : List ℕ
  pub taken : Taken sheet_coefficients sheet_choices
  pub into : BuiltInto sheet_coefficients sheet_choices (replicate row_table 0) (replicate tap_table 0) (given 3) rows' taps'

-- running calls with it: one accepted, one with no samples, one refused with 3, one with 10
pub record SheetCalls : Type 0 where
  pub steps : List Step
  pub lendings : map (λ (s : Step). s.lending) steps ≡ four_calls (replicate (row_table - 3 * row_words) 0) (replicate (tap_table - 4 * tap_words) 0)
  pub calls : Calls (built sheet_coefficients sheet_choices) steps
  pub demand : Demand sheet_coefficients (built sheet_coefficients sheet_choices) steps
  pub answers : map (λ (s : Step). s.answer) steps ≡ given tt ∷ given tt ∷ refused 3 0 ∷ refused 10 2 ∷ []
  pub outputs : map (λ (s : Step). s.outputs) steps ≡ (pos 3 ∷ pos 0 ∷ neg_ℤ (pos 98271) ∷ pos 9 ∷ []) ∷ [] ∷ (pos 8 ∷ []) ∷ (pos 8 ∷ []) ∷ []
  pub full_length : FullLength (accepted_call (replicate (row_table - 3 * row_words) 0) (replicate (tap_table - 4 * tap_words) 0)).call

pub record ProvedFigures : Type 0 where
  -- "Forms of 45 .. in order", of 180, -45, 3, 11, 13, 0, 1, 2^31 - 1 and -2^31; and the tables that `minimal_forms` leaves for 45
  pub forms : Figures
  -- "0.625 at F = 2" (now 2, leftover 0.5), and its neighbours
  pub taps : TapFigures
  -- "The sheet's filter": its rows, and "cleared, samples 1, 2, -32768: 3, 0, -98271"
  pub rows_of_the_sheet : built sheet_coefficients sheet_choices ≡ sheet_network
  pub sheet_filter : (rows taps beyond : List ℕ) (a b c : ℤ) (rest : List ℤ) → row_table ≤ length rows → tap_table ≤ length taps
      → (n : ℕ) (rows' taps' : List ℕ) → BuiltInto sheet_coefficients sheet_choices rows taps (given n) rows' taps'
      → (answer : Answer (Unit {0})) (r' : List ℕ) (o' : List ℤ) → Ran rows' n taps' 4 sheet_samples (replicate 256 0 ++ beyond) (a ∷ b ∷ c ∷ rest) answer r' o'
      → SheetFilter rest answer o'
  -- what demand 3 asks before it promises: there are such tables and such calls
  pub sheet_built : SheetBuilt
  pub sheet_calls : SheetCalls
