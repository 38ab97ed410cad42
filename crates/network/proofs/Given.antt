-- The coefficients that an entry is given with a network that it accepts: their number, their bounds, and that they are the network's alone.
-- Assumes nothing.
use mathlib.Core.Path.{◌≡◌, refl, sym, ap, ◌∙◌, subst}
use mathlib.Core.Bool.{Bool}
use mathlib.Core.List.{List}
use Prim.Native.Nat.{ℕ, ◌<◌}
use native.Mathlib.Omega.{arith}
use lib.IntN.{ℤ, pos}
use lib.ListN.{length, get_or, get_or-map, length-map}
use mir.Syntax.{w32}
use mir.Val.{SFits}
use Rattle.word.specs.Bounds.{Coefficient}
use Rattle.word.proofs.Bounds.{coefficient_i32}
use Rattle.refusal.specs.Answer.{Answer, given, refused}
use Rattle.refusal.proofs.Checks.{given_refused}
use Rattle.sequence.proofs.UpTo.{length_up_to}
use Rattle.network.specs.declared.Row.{Row}
use Rattle.network.specs.declared.TapRow.{TapRow}
use Rattle.network.specs.Rows.{Network, none, tap_row_at, rows_of, tap_rows_of, network_of, tap_row_in, no_tap}
use Rattle.network.specs.Coefficients.{coefficient_of, coefficients}
use Rattle.network.specs.TapRowRule.{TapRowRule, is_empty_lem, is_product_lem}
use Rattle.network.specs.Check.{network_answer, outcome}
use Rattle.network.specs.Accepted.{KeepsRules}
use Rattle.network.proofs.Passed.{given_accepted}

pub length_coefficients : (rows : List ℕ) (n : ℕ) (taps : List ℕ) (m : ℕ) → length (coefficients (network_of rows n taps m)) ≡ m
length_coefficients rows n taps m = length-map (tap_rows_of taps m) (coefficient_of (rows_of rows n)) ∙ length_up_to m (tap_row_at taps)

-- ---- the coefficient of each tap is within bounds

pub empty_is : (rows : List Row) (t : TapRow) → t.sign ≡ none → coefficient_of rows t ≡ pos 0
unfolding coefficient_of
empty_is rows t e = rw e

tap_within : (rows : List Row) (t : TapRow) → TapRowRule rows t → Coefficient (coefficient_of rows t)
tap_within rows t (is_empty_lem w) = subst Coefficient (sym (empty_is rows t w.sign)) (record { from_least = record { le = tt }; to_greatest = record { le = tt } })
tap_within rows t (is_product_lem w) = w.bounds

-- the coefficient of tap j of a network that passes is the product of its tap row, and within bounds
pub coefficient_is : (net : Network) (h : List ℤ) → KeepsRules net h → (j : ℕ) → get_or h j (pos 0) ≡ coefficient_of net.rows (tap_row_in net.taps j)
coefficient_is net h p j =
    ap (λ (l : List ℤ). get_or l j (pos 0)) p.result
    ∙ ap (get_or (coefficients net) j) (sym (empty_is net.rows no_tap none_is))
    ∙ get_or-map (coefficient_of net.rows) net.taps j no_tap
  where
    none_is : no_tap.sign ≡ none
    none_is = refl

pub coefficient_within : (net : Network) (h : List ℤ) → KeepsRules net h → (j : ℕ) → j < length net.taps → Coefficient (get_or h j (pos 0))
coefficient_within net h p j l =
    subst Coefficient (sym (coefficient_is net h p j)) (tap_within net.rows (tap_row_in net.taps j) (p.taps j l))

-- ---- what is given

module _ (short : Bool) (rows : List ℕ) (n : ℕ) (taps : List ℕ) (m : ℕ) (h : List ℤ) (e : network_answer short rows n taps m ≡ given h) where
  pub given_is : h ≡ coefficients (network_of rows n taps m)
  given_is = (given_accepted short rows n taps m h e).passed.result

  pub given_length : length h ≡ m
  given_length = ap length given_is ∙ length_coefficients rows n taps m

  pub given_within : (j : ℕ) → j < m → Coefficient (get_or h j (pos 0))
  given_within j l = coefficient_within (network_of rows n taps m) h (given_accepted short rows n taps m h e).passed j (omega (arith, length_up_to m (tap_row_at taps)))

  pub given_fits : (j : ℕ) → j < m → SFits w32 (get_or h j (pos 0))
  given_fits j l = coefficient_i32 (get_or h j (pos 0)) (given_within j l)

-- an answer whose outcome is that nothing is turned down gives the network's coefficients
pub outcome_given : (short : Bool) (rows : List ℕ) (n : ℕ) (taps : List ℕ) (m : ℕ) → given tt ≡ outcome (network_answer short rows n taps m)
    → network_answer short rows n taps m ≡ given (coefficients (network_of rows n taps m))
outcome_given short rows n taps m = go (network_answer short rows n taps m) (given_is short rows n taps m)
  where
    go : (a : Answer (List ℤ)) → ((h : List ℤ) → a ≡ given h → h ≡ coefficients (network_of rows n taps m)) → given tt ≡ outcome a
        → a ≡ given (coefficients (network_of rows n taps m))
    go (given h) only e = ap given (only h refl)
    go (refused number place) only e = given_refused tt number place e

-- equal networks have equal coefficients, whatever the tables hold past them
pub same_coefficients : (short short' : Bool) (rows rows' : List ℕ) (n n' : ℕ) (taps taps' : List ℕ) (m m' : ℕ) (h h' : List ℤ)
    → network_of rows n taps m ≡ network_of rows' n' taps' m' → network_answer short rows n taps m ≡ given h → network_answer short' rows' n' taps' m' ≡ given h' → h ≡ h'
same_coefficients short short' rows rows' n n' taps taps' m m' h h' q e e' =
    given_is short rows n taps m h e ∙ ap coefficients q ∙ sym (given_is short' rows' n' taps' m' h' e')
