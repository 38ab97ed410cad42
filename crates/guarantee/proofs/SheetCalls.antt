-- Every list of calls has a trace, and the four calls of specs/Sheet.antt are such as demand 3 speaks of. Assumes nothing.
use mathlib.Core.Path.{◌≡◌, refl, ap, ◌∙◌}
use mathlib.Core.Bool.{Bool, true, false, ◌||◌}
use mathlib.Core.List.{List, [], ◌∷◌, ◌++◌, map}
use Prim.Native.Nat.{ℕ, zero, suc, ◌≤◌}
use native.Mathlib.Omega.{arith}
use borrow.Author.Tests.{le-ltb}
use lib.Dec.{lit≤}
use lib.IntN.{ℤ, pos, neg_ℤ}
use lib.ListN.{length, take}
use mir.Syntax.{w16}
use Rattle.refusal.specs.Answer.{Answer, given, refused, stored, filled, lowest_from}
use Rattle.refusal.proofs.Checks.{check_applies, check_passes}
use Rattle.sequence.specs.UpTo.{up_to}
use Rattle.run_convolution.specs.Bounds.{Within}
use Rattle.run_convolution.specs.Sums.{output_sum, output_sums}
use Rattle.network.specs.Rows.{network_of, row_table, tap_table}
use Rattle.network.specs.RowRule.{keeps_row_rule_of}
use Rattle.network.specs.Check.{outcome, checked, short_tables, network_answer}
use Rattle.network.proofs.Figures.{sheet_network_lem}
use Rattle.run_calls.specs.Run.{run_answer, run_registers, run_outputs}
use Rattle.run_calls.specs.Call.{table_answer, said_from}
use Rattle.run_calls.specs.Memory.{Lending, Step, Found, Trace, lent, after, found_from, due_all, cleared}
use Rattle.run_calls.specs.Demand.{Fair, EachFair, Calls, Demand}
use Rattle.network.specs.Figures.{sheet_coefficients, sheet_rows, sheet_tap_rows}
use Rattle.guarantee.specs.Sheet.{sheet_samples, broken_rows, stored_network, accepted_call, silent_call, short_call, broken_call, four_calls}
use Rattle.run_calls.proofs.Theorem.{running_sums}

-- ---- every list of calls has a trace

abbrev pub answered : List ℕ → Lending → Answer (List ℤ)
answered r l = run_answer l.call.rows l.call.row_count_of l.call.taps l.call.tap_count l.call.samples (length (lent r l)) (length l.held)

abbrev pub step_from : List ℕ → Lending → Step
step_from r l =
    record {
      lending = l;
      answer = outcome (answered r l);
      registers = run_registers (answered r l) l.call.samples (lent r l);
      outputs = run_outputs (answered r l) l.call.samples (lent r l) l.held;
    }

unfoldable pub steps_from : List ℕ → List Lending → List Step
steps_from r [] = []
steps_from r (l ∷ ls) = step_from r l ∷ steps_from (take 256 (after r (step_from r l))) ls

pub has_trace : (r : List ℕ) (ls : List Lending) → Trace r (steps_from r ls)
unfolding steps_from
has_trace r [] = tt
has_trace r (l ∷ ls) = (record { answer = refl; registers = refl; outputs = refl }, has_trace (take 256 (after r (step_from r l))) ls)

pub same_lendings : (r : List ℕ) (ls : List Lending) → map (λ (s : Step). s.lending) (steps_from r ls) ≡ ls
unfolding steps_from
same_lendings r [] = refl
same_lendings r (l ∷ ls) = ap (λ (k : List Lending). l ∷ k) (same_lendings (take 256 (after r (step_from r l))) ls)

-- ---- the four calls

or-true : (a : Bool) → (a || true) ≡ true
or-true true = refl
or-true false = refl

given_not : (number place : ℕ) (a : Answer (List ℤ)) (g : List ℤ) (B : Type 0) → a ≡ refused number place → a ≡ given g → B
given_not number place a g B p q = let z : ◌≡◌ {A = ℕ} 0 1 = cc in absurd (omega arith)

row_rule : (r t : List ℕ) → checked (network_of (broken_rows r) 3 (sheet_tap_rows t) 4) ≡ refused 10 2
unfolding checked up_to lowest_from keeps_row_rule_of
row_rule r t = refl

three_fit : Within w16 sheet_samples
three_fit zero = record { sfits = lit≤ tt }
three_fit (suc zero) = record { sfits = lit≤ tt }
three_fit (suc (suc zero)) = record { sfits = lit≤ tt }
three_fit (suc (suc (suc k))) = record { sfits = lit≤ tt }

one_fits : Within w16 (pos 5 ∷ [])
one_fits zero = record { sfits = lit≤ tt }
one_fits (suc k) = record { sfits = lit≤ tt }

module _ (r t : List ℕ) (lr : row_table ≤ length (sheet_rows r)) (lt : tap_table ≤ length (sheet_tap_rows t)) where
  accepted_given : table_answer (accepted_call r t).call ≡ given sheet_coefficients
  accepted_given = sheet_network_lem r t lr lt

  silent_given : table_answer (silent_call r t).call ≡ given sheet_coefficients
  silent_given = sheet_network_lem r t lr lt

  short_refused : table_answer (short_call r t).call ≡ refused 3 0
  unfolding network_answer
  short_refused = check_applies (short_tables (sheet_rows r) (sheet_tap_rows t) || true) 3 (checked (network_of (sheet_rows r) 3 (sheet_tap_rows t) 4)) (or-true (short_tables (sheet_rows r) (sheet_tap_rows t)))

  broken_refused : table_answer (broken_call r t).call ≡ refused 10 2
  unfolding network_answer
  broken_refused =
      check_passes (short_tables (broken_rows r) (sheet_tap_rows t) || false) 3 (checked (network_of (broken_rows r) 3 (sheet_tap_rows t) 4))
      (rw (le-ltb (length (broken_rows r)) row_table lr, le-ltb (length (sheet_tap_rows t)) tap_table lt))
      ∙ row_rule r t

  fair_accepted : Fair (stored_network r t) (accepted_call r t)
  fair_accepted = record { registers = lit≤ tt; outputs = refl; samples = three_fit; whole = λ g e. refl; network = λ g e. refl }

  fair_silent : Fair (stored_network r t) (silent_call r t)
  fair_silent = record { registers = lit≤ tt; outputs = refl; samples = λ k. record { sfits = lit≤ tt }; whole = λ g e. refl; network = λ g e. refl }

  fair_short : Fair (stored_network r t) (short_call r t)
  fair_short = record {
    registers = lit≤ tt;
    outputs = refl;
    samples = one_fits;
    whole = λ g e. given_not 3 0 (table_answer (short_call r t).call) g (10 ≡ 0) short_refused e;
    network = λ g e. refl;
  }

  fair_broken : Fair (stored_network r t) (broken_call r t)
  fair_broken = record {
    registers = lit≤ tt;
    outputs = refl;
    samples = one_fits;
    whole = λ g e. refl;
    network = λ g e. given_not 10 2 (table_answer (broken_call r t).call) g (network_of (broken_rows r) 3 (sheet_tap_rows t) 4 ≡ stored_network r t) broken_refused e;
  }

  abbrev pub steps : List Step
  steps = steps_from cleared (four_calls r t)

  each_fair : EachFair (stored_network r t) steps
  unfolding steps_from
  each_fair = (fair_accepted, (fair_silent, (fair_short, (fair_broken, tt))))

  pub calls : Calls (stored_network r t) steps
  calls = record { ran = has_trace cleared (four_calls r t); fair = each_fair }

  demand : Demand sheet_coefficients (stored_network r t) steps
  demand = running_sums sheet_coefficients (sheet_rows r) 3 (sheet_tap_rows t) 4 (sheet_network_lem r t lr lt) steps calls

  pub answers : map (λ (s : Step). s.answer) steps ≡ given tt ∷ given tt ∷ refused 3 0 ∷ refused 10 2 ∷ []
  unfolding steps_from found_from due_all said_from
  answers =
      ap (map (λ (f : Found). f.answer)) demand.sums
      ∙ (λ i. outcome (accepted_given i) ∷ outcome (silent_given i) ∷ outcome (short_refused i) ∷ outcome (broken_refused i) ∷ [])

  pub outputs : map (λ (s : Step). s.outputs) steps ≡ (pos 3 ∷ pos 0 ∷ neg_ℤ (pos 98271) ∷ pos 9 ∷ []) ∷ [] ∷ (pos 8 ∷ []) ∷ (pos 8 ∷ []) ∷ []
  unfolding steps_from found_from due_all said_from output_sums output_sum
  outputs =
      ap (map (λ (f : Found). f.outputs)) demand.sums
      ∙ (λ i. filled (outcome (accepted_given i)) (stored (accepted_given i) (λ (g : List ℤ). output_sums sheet_coefficients [] sheet_samples) []) (accepted_call r t).held
      ∷ filled (outcome (silent_given i)) (stored (silent_given i) (λ (g : List ℤ). []) []) []
      ∷ filled (outcome (short_refused i)) (stored (short_refused i) (λ (g : List ℤ). output_sums sheet_coefficients (two i) (pos 5 ∷ [])) []) (pos 8 ∷ [])
      ∷ filled (outcome (broken_refused i)) (stored (broken_refused i) (λ (g : List ℤ). output_sums sheet_coefficients (stored (short_refused i) (λ (g : List ℤ). two i ++ (pos 5 ∷ [])) (two i)) (pos 5 ∷ [])) []) (pos 8 ∷ [])
      ∷ [])
    where
      one : stored (table_answer (accepted_call r t).call) (λ (g : List ℤ). [] ++ sheet_samples) [] ≡ sheet_samples
      one = ap (λ (a : Answer (List ℤ)). stored a (λ (g : List ℤ). [] ++ sheet_samples) []) accepted_given

      two : stored (table_answer (silent_call r t).call) (λ (g : List ℤ). stored (table_answer (accepted_call r t).call) (λ (g : List ℤ). [] ++ sheet_samples) [] ++ []) (stored (table_answer (accepted_call r t).call) (λ (g : List ℤ). [] ++ sheet_samples) []) ≡ sheet_samples
      two = λ i. stored (silent_given i) (λ (g : List ℤ). one i ++ []) (one i)
