-- `verilog_claims`: the claims of specs/Claims.antt. Assumes nothing.
use borrow.Author.Tests.{le-ltb, ltb-true, ltb-false}
use mathlib.Core.Path.{◌≡◌, refl, sym, ap, subst, ◌∙◌}
use mathlib.Core.Bool.{false}
use mathlib.Core.List.{List, ◌++◌}
use Prim.Native.Nat.{ℕ, ◌≤◌}
use native.Mathlib.Omega.{arith}
use lib.Dec.{ltb}
use lib.IntN.{ℤ}
use lib.ListN.{length, get_or, take, drop}
use lib.Seq.{take_at, drop_at}
use mir.Syntax.{w16}
use mir.Val.{SFits}
use Rattle.refusal.specs.Answer.{Answer, given, refused, and_then, filled}
use Rattle.refusal.proofs.Checks.{given_if, given_same, refused_if, given_refused, check_passes}
use Rattle.sequence.proofs.UpTo.{length_up_to}
use Rattle.network.specs.Rows.{tap_row_at, network_of}
use Rattle.network.specs.Check.{network_answer}
use Rattle.network.specs.Accepted.{Accepted}
use Rattle.network.specs.Checked.{NetworkChecked}
use Rattle.network.specs.Claims.{NetworkRefusals}
use Rattle.network.proofs.Passed.{given_accepted}
use Rattle.network.proofs.Given.{outcome_given, given_is, length_coefficients}
use Rattle.network.proofs.Refusals.{network_refusals}
use Rattle.verilog.specs.Reading.{reads}
use Rattle.verilog.specs.Syntax.{Module}
use Rattle.verilog.specs.Values.{Values}
use Rattle.verilog.specs.Meaning.{meaning, Settled}
use Rattle.verilog_text.specs.Text.{verilog_text_of}
use Rattle.verilog_text.specs.Written.{text_in, length_answer, most_bytes, VerilogWritten}
use Rattle.verilog_text.specs.Promise.{Multiplies, AsRunning, FromCleared}
use Rattle.verilog_text.specs.Claims.{coefficients_in, VerilogRefusals, by_network, text_too_long, Left, VerilogClaims}
use Rattle.verilog_text.proofs.Answers.{answer_given}
use Rattle.verilog_text.proofs.Room.{text_room}
use Rattle.verilog_text.proofs.Theorem.{text_multiplies, text_as_running, text_from_cleared}

module _ (rows : List ℕ) (n : ℕ) (taps : List ℕ) (m : ℕ) where
  abbrev its : List ℤ
  its = coefficients_in rows n taps m

  abbrev text : List ℕ
  text = text_in rows n taps m

  -- the checks of the network, and then that of the area
  given_by : (room size : ℕ) (a : Answer (List ℤ)) → network_answer false rows n taps m ≡ a → and_then a (λ (h : List ℤ). length_answer room text) ≡ given size
      → (network_answer false rows n taps m ≡ given its) × ((ltb room (length text) ≡ false) × (length text ≡ size))
  given_by room size (given h) e q =
      let w = given_if (ltb room (length text)) 13 _ size q in
      (e ∙ ap given (given_is false rows n taps m h e), (w.0, given_same (length text) size w.1))
  given_by room size (refused number place) e q = absurd (given_refused size number place (sym q))

  module _ (area : List ℕ) where
    -- a text that is written
    module _ (size : ℕ) (area' : List ℕ) (w : VerilogWritten rows n taps m area (given size) area') where
      facts : (network_answer false rows n taps m ≡ given its) × ((ltb (length area) (length text) ≡ false) × (length text ≡ size))
      facts = given_by (length area) size (network_answer false rows n taps m) refl (sym w.answer)

      accepted : Accepted false rows n taps m its
      accepted = given_accepted false rows n taps m its facts.0

      accepts_only : Accepted false rows n taps m its × (length text ≤ length area)
      accepts_only = (accepted, ltb-false (length area) (length text) facts.1.0)

      left : Left text area size area'
      left =
          let now : area' ≡ text ++ drop (length text) area = w.text ∙ ap (λ (a : Answer ℕ). filled a text area) (sym w.answer) in
          record {
            size_is = sym facts.1.1;
            text_is = ap (take size) now ∙ take_at text (drop (length text) area) size facts.1.1;
            rest_is = ap (drop size) now ∙ drop_at text (drop (length text) area) size facts.1.1 ∙ ap (λ (k : ℕ). drop k area) facts.1.1;
          }

      most : size ≤ most_bytes
      most =
          omega (arith, facts.1.1, text_room (network_of rows n taps m) its accepted.passed (omega (arith, accepted.taps_to, length_up_to m (tap_row_at taps))))

      written_multiplies : Multiplies (take size area') its
      written_multiplies = subst (λ (l : List ℕ). Multiplies l its) (sym left.text_is) (text_multiplies (network_of rows n taps m) its accepted.passed)

      module _ (k : Module) (e : meaning (take size area') ≡ reads k) (x : ℤ) (fits : SFits w16 x) (v : Values) (s : Settled k x v) (r : List ℕ) where
        meant : meaning text ≡ reads k
        meant = ap meaning (sym left.text_is) ∙ e

        as_running : AsRunning its r x v
        as_running = text_as_running (network_of rows n taps m) its accepted.passed k meant x fits v s r

        from_cleared : ((j : ℕ) → get_or r j 0 ≡ 0) → FromCleared its x v r
        from_cleared clear =
            text_from_cleared (network_of rows n taps m) its accepted.passed k meant x fits v s r (omega (arith, accepted.taps_from, length_coefficients rows n taps m)) clear

    -- one that is turned down
    module _ (number place : ℕ) (area' : List ℕ) (w : VerilogWritten rows n taps m area (refused number place) area') where
      unchanged : area' ≡ area
      unchanged = w.text ∙ ap (λ (a : Answer ℕ). filled a text area) (sym w.answer)

      refused_by : (a : Answer (List ℤ)) → network_answer false rows n taps m ≡ a → and_then a (λ (h : List ℤ). length_answer (length area) text) ≡ refused number place
          → VerilogRefusals rows n taps m (length area) number place
      refused_by (given h) e q =
          refused_if (ltb (length area) (length text)) 13 _ number place q
          (λ b i j. text_too_long i j (given_accepted false rows n taps m its (e ∙ ap given (given_is false rows n taps m h e))) (ltb-true (length area) (length text) b))
          (λ b r. absurd (given_refused (length text) number place r))
      refused_by (refused i j) e q = by_network (network_refusals false rows n taps m number place (e ∙ same i j q))
        where
          same : (i j : ℕ) → ◌≡◌ {A = Answer ℕ} (refused i j) (refused number place) → ◌≡◌ {A = Answer (List ℤ)} (refused i j) (refused number place)
          same i j q = let a : i ≡ number = cc in let b : j ≡ place = cc in cc

      refusals : VerilogRefusals rows n taps m (length area) number place
      refusals = refused_by (network_answer false rows n taps m) refl (sym w.answer)

      enough : most_bytes ≤ length area → NetworkRefusals false rows n taps m number place
      enough h = by_cases refusals
        where
          by_cases : VerilogRefusals rows n taps m (length area) number place → NetworkRefusals false rows n taps m number place
          by_cases (by_network q) = q
          by_cases (text_too_long i j a l) =
              absurd (let t = text_room (network_of rows n taps m) its a.passed (omega (arith, a.taps_to, length_up_to m (tap_row_at taps))) in omega (arith, t, l, h))

  accepts : NetworkChecked rows n taps m (given tt) → (area : List ℕ) → length text ≤ length area → (a : Answer ℕ) (area' : List ℕ)
      → VerilogWritten rows n taps m area a area' → a ≡ given (length text)
  accepts c area fits a area' w =
      w.answer
      ∙ answer_given rows n taps m (length area) its (outcome_given false rows n taps m c.answer)
      ∙ check_passes (ltb (length area) (length text)) 13 (given (length text)) (le-ltb (length area) (length text) fits)

text_alone : (rows : List ℕ) (n : ℕ) (taps : List ℕ) (m : ℕ) (area : List ℕ) (size : ℕ) (area' : List ℕ) → VerilogWritten rows n taps m area (given size) area'
    → (rows₂ : List ℕ) (n₂ : ℕ) (taps₂ : List ℕ) (m₂ : ℕ) (area₂ : List ℕ) (size₂ : ℕ) (area₂' : List ℕ) → VerilogWritten rows₂ n₂ taps₂ m₂ area₂ (given size₂) area₂'
    → network_of rows n taps m ≡ network_of rows₂ n₂ taps₂ m₂ → take size area' ≡ take size₂ area₂'
text_alone rows n taps m area size area' w rows₂ n₂ taps₂ m₂ area₂ size₂ area₂' w₂ e =
    (left rows n taps m area size area' w).text_is ∙ ap verilog_text_of e ∙ sym (left rows₂ n₂ taps₂ m₂ area₂ size₂ area₂' w₂).text_is

pub verilog_claims : VerilogClaims
verilog_claims = record {
  text_multiplies = text_multiplies;
  written_multiplies = written_multiplies;
  as_running = as_running;
  from_cleared = λ rows n taps m area size area' w k e x fits v s r clear. from_cleared rows n taps m area size area' w k e x fits v s r clear;
  text_alone = text_alone;
  accepts = accepts;
  accepts_only = accepts_only;
  refusals = refusals;
  most = most;
  enough = λ rows n taps m area number place area' h w. enough rows n taps m area number place area' w h;
  left = left;
  unchanged = unchanged;
}
