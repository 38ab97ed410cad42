-- The answer to an input and an argument, case by case in the table's order. Assumes nothing.
use borrow.Author.Tests.{eq-eqb, ne_eqb, lt-ltb, le-ltb, ltb-false}
use mathlib.Core.Path.{◌≡◌}
use mathlib.Core.Bool.{not}
use mathlib.Core.List.{List}
use Prim.Native.Nat.{ℕ, ◌%◌, ◌≤◌, ◌<◌}
use lib.Dec.{eqb, ltb}
use lib.ListN.{length}
use Rattle.refusal.specs.Answer.{Answer, given, refused, refuse_if}
use Rattle.refusal.proofs.Checks.{given_if}
use Rattle.sheet_input.specs.Argument.{Argument, fraction_bits_of}
use Rattle.sheet_input.specs.Taps.{whole_taps}
use Rattle.sheet_input.specs.Input.{input_answer}

module _ (input : List ℕ) (argument : Argument) where
  pub no_taps : whole_taps input ≡ 0 → input_answer input argument ≡ refused 1 0
  unfolding input_answer
  no_taps e = rw (eq-eqb (whole_taps input) 0 e)

  pub too_many : (whole_taps input ≡ 0 → ⊥) → 256 < whole_taps input → input_answer input argument ≡ refused 2 0
  unfolding input_answer
  too_many e m = rw (ne_eqb (whole_taps input) 0 e, lt-ltb 256 (whole_taps input) m)

  pub cut_tap : (whole_taps input ≡ 0 → ⊥) → whole_taps input ≤ 256 → (length input % 8 ≡ 0 → ⊥) → input_answer input argument ≡ refused 12 0
  unfolding input_answer
  cut_tap e m r = rw (ne_eqb (whole_taps input) 0 e, le-ltb 256 (whole_taps input) m, ne_eqb (length input % 8) 0 r)

  pub whole_taps_lem : (whole_taps input ≡ 0 → ⊥) → whole_taps input ≤ 256 → length input % 8 ≡ 0 → input_answer input argument ≡ fraction_bits_of argument
  unfolding input_answer
  whole_taps_lem e m r = rw (ne_eqb (whole_taps input) 0 e, le-ltb 256 (whole_taps input) m, eq-eqb (length input % 8) 0 r)

  -- where F is given there are at most 256 taps
  pub at_most_256 : (f : ℕ) → input_answer input argument ≡ given f → whole_taps input ≤ 256
  unfolding input_answer
  at_most_256 f e = ltb-false 256 (whole_taps input) (given_if (ltb 256 (whole_taps input)) 2 after f (given_if (eqb (whole_taps input) 0) 1 (refuse_if (ltb 256 (whole_taps input)) 2 after) f e).1).0
    where
      after : Answer ℕ
      after = refuse_if (not (eqb (length input % 8) 0)) 12 (fraction_bits_of argument)
