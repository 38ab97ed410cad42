-- The sheet, case by case. Assumes nothing.
use mathlib.Core.Path.{◌≡◌, sym, ap, ◌∙◌}
use mathlib.Core.Bool.{false}
use mathlib.Core.List.{List, ◌++◌}
use Prim.Native.Nat.{ℕ, ◌+◌, ◌≤◌}
use native.Mathlib.Omega.{arith}
use lib.Ieee.{Float}
use lib.ListN.{length, take, drop, length-map}
use lib.Seq.{sets, sets-eq, length-take-le, take_at}
use lib.IntN.{ℤ}
use Rattle.refusal.specs.Answer.{Answer, given, refused, and_then, filled}
use Rattle.sequence.specs.UpTo.{up_to}
use Rattle.sequence.specs.Inner.{front}
use Rattle.sequence.proofs.UpTo.{length_up_to}
use Rattle.tap.specs.Rounding.{result_of, whole_of}
use Rattle.network.specs.Rows.{Network}
use Rattle.build_steps.specs.TapRows.{built}
use Rattle.tap_set.specs.declared.Report.{Report}
use Rattle.tap_set.specs.Set.{rounded_taps, coefficients_of}
use Rattle.text.specs.declared.Writer.{Writer}
use Rattle.text.specs.Inner.{Wrote}
use Rattle.sheet_input.specs.Argument.{Argument}
use Rattle.sheet_input.specs.Taps.{taps_of}
use Rattle.sheet_input.specs.Input.{input_answer}
use Rattle.sheet_text.specs.Sheet.{choices, taps_answer, text_of, sheet_of, sheet_answer, SheetWritten}

module _ (F : ℕ) (taps : List Float) where
  abbrev after : Report → Answer Network
  after report = given (built (coefficients_of F taps) choices)

  pub taps_given : (r : Report) → rounded_taps F false taps 256 ≡ given r → taps_answer F taps ≡ given (built (coefficients_of F taps) choices)
  unfolding taps_answer
  taps_given r e = ap (λ (a : Answer Report). and_then a after) e

  pub taps_refused : (number place : ℕ) → rounded_taps F false taps 256 ≡ refused number place → taps_answer F taps ≡ refused number place
  unfolding taps_answer
  taps_refused number place e = ap (λ (a : Answer Report). and_then a after) e

module _ (input : List ℕ) (argument : Argument) where
  pub answer_given : (F : ℕ) → input_answer input argument ≡ given F → sheet_answer input argument ≡ taps_answer F (taps_of input)
  unfolding sheet_answer
  answer_given F e = ap (λ (a : Answer ℕ). and_then a (λ (f : ℕ). taps_answer f (taps_of input))) e

  pub answer_refused : (number place : ℕ) → input_answer input argument ≡ refused number place → sheet_answer input argument ≡ refused number place
  unfolding sheet_answer
  answer_refused number place e = ap (λ (a : Answer ℕ). and_then a (λ (f : ℕ). taps_answer f (taps_of input))) e

  pub sheet_of_answer : (a : Answer Network) → sheet_answer input argument ≡ a → sheet_of input argument ≡ text_of a
  unfolding sheet_of
  sheet_of_answer a e = ap text_of e

-- a text at the start of an area
pub written_sheet : {u v : Writer} {b : List ℕ} {m : ℕ} (input : List ℕ) (argument : Argument) → sheet_of input argument ≡ b → u.at ≡ 0 → Wrote u b m v → m ≤ length u.area.now
    → SheetWritten input argument u.area.now v.at v.area.now
written_sheet {u} {v} {b} {m} input argument q z p h =
    let l = u.area.now in
    let all : 0 + length b ≡ v.at = omega (arith, p.next, z) in
    let text : v.area.now ≡ sets l 0 b = p.text ∙ ap (λ i. sets l i b) z in
    let k : v.at ≤ length v.area.now = omega (arith, p.within, p.same_length, z) in
    record {
      size = omega (arith, p.next, z, ap length q);
      text = text ∙ sets-eq b l 0 (omega (arith, p.within, z)) ∙ ap (λ j. b ++ drop j l) all ∙ ap (λ t. t ++ drop v.at l) (sym q);
      room = p.same_length;
      within = (k, sym (length-take-le v.at v.area.now k));
    }

-- ---- what the local tables hold
-- the taps that were read
pub taps_held : (f : ℕ → Float) (old table : List Float) (n : ℕ) → table ≡ front f old n → take n table ≡ up_to n f
unfolding front
taps_held f old table n e = ap (take n) e ∙ take_at (up_to n f) (drop n old) n (length_up_to n f)

pub length_held : (f : ℕ → Float) (old table : List Float) (n : ℕ) → table ≡ front f old n → n ≡ length (take n table)
length_held f old table n e = sym (ap length (taps_held f old table n e) ∙ length_up_to n f)

-- the answer to them
pub answer_held : (F room : ℕ) (xs taps : List Float) (a : Answer Report) → a ≡ rounded_taps F false xs room → xs ≡ taps → room ≡ 256 → a ≡ rounded_taps F false taps 256
answer_held F room xs taps a e w l = e ∙ ap (λ (x : List Float). rounded_taps F false x room) w ∙ ap (rounded_taps F false taps) l

-- their coefficients, where they are accepted
pub coefficients_held : (F n : ℕ) (xs taps : List Float) (old new : List ℤ) (a : Answer Report) (r : Report) → new ≡ filled a (coefficients_of F xs) old → a ≡ given r → xs ≡ taps → length taps ≡ n
    → take n new ≡ coefficients_of F taps
coefficients_held F n xs taps old new a r e g w l =
    ap (take n) (e ∙ ap (λ (b : Answer Report). filled b (coefficients_of F xs) old) g ∙ ap (λ (x : List Float). coefficients_of F x ++ drop (length (coefficients_of F x)) old) w)
    ∙ take_at (coefficients_of F taps) (drop (length (coefficients_of F taps)) old) n (length-map taps (λ (x : Float). whole_of (result_of F x)) ∙ l)
