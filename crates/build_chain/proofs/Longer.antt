-- A chain takes no row away. Assumes nothing.
use mathlib.Core.List.{List, [], ◌∷◌}
use Prim.Native.Nat.{ℕ, suc, ◌+◌, ◌*◌, ◌-◌, ◌^◌, ◌≤◌}
use native.Mathlib.Nat.{le_refl, le_trans}
use native.Mathlib.Omega.{arith}
use lib.ListN.{length, length-append}
use Rattle.refusal.specs.Answer.{Place, nowhere, at_place}
use Rattle.signed_digit.specs.Digit.{one, nought, minus_one}
use Rattle.signed_digit.specs.String.{DigitString}
use Rattle.network.specs.declared.Row.{Row}
use Rattle.network.specs.Rows.{plus, minus}
use Rattle.build_steps.specs.Search.{row_with}
use Rattle.build_steps.specs.Chain.{add_unless, chain_step, chain_from, chain_down}

unless_longer : (p : Place) (rows : List Row) (r : Row) → length rows ≤ length (add_unless p rows r)
unfolding add_unless
unless_longer (at_place i) rows r = le_refl (length rows)
unless_longer nowhere rows r = omega (arith, length-append rows (r ∷ []))

step_longer : (rows : List Row) (v gap sign next : ℕ) → length rows ≤ length (chain_step rows v gap sign next)
unfolding chain_step
step_longer rows v gap sign next = unless_longer (row_with rows next) rows _

pub chain_longer : (rows : List Row) (v gap : ℕ) (s : DigitString) → length rows ≤ length (chain_from rows v gap s)
unfolding chain_from
chain_longer rows v gap [] = le_refl (length rows)
chain_longer rows v gap (nought ∷ s) = chain_longer rows v (suc gap) s
chain_longer rows v gap (one ∷ s) = le_trans (step_longer rows v gap plus (2 ^ gap * v + 1)) (chain_longer (chain_step rows v gap plus (2 ^ gap * v + 1)) (2 ^ gap * v + 1) 1 s)
chain_longer rows v gap (minus_one ∷ s) = le_trans (step_longer rows v gap minus (2 ^ gap * v - 1)) (chain_longer (chain_step rows v gap minus (2 ^ gap * v - 1)) (2 ^ gap * v - 1) 1 s)

pub down_longer : (rows : List Row) (s : DigitString) → length rows ≤ length (chain_down rows s)
unfolding chain_down
down_longer rows [] = le_refl (length rows)
down_longer rows (nought ∷ s) = down_longer rows s
down_longer rows (one ∷ s) = chain_longer rows 1 1 s
down_longer rows (minus_one ∷ s) = le_refl (length rows)
