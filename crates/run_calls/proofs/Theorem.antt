-- Demand 3 of running calls, for every network that passes the check: proved over the whole list of calls. Assumes nothing.
use mathlib.Core.Path.{◌≡◌, refl, sym, ap, ap₂, ◌∙◌, subst}
use mathlib.Core.Bool.{Bool, true, false, ◌||◌}
use mathlib.Core.List.{List, [], ◌∷◌, map}
use Prim.Native.Nat.{ℕ, ◌<◌, ◌≤◌}
use native.Mathlib.Omega.{arith}
use borrow.Author.Tests.{ltb-true, ltb-false, le-ltb}
use lib.Dec.{ltb}
use lib.IntN.{ℤ, pos}
use lib.ListN.{length, get_or, take, drop, replicate, length-replicate, get_or-replicate, get_or-eq_default}
use mir.Syntax.{w32}
use mir.Val.{SFits}
use Rattle.refusal.specs.Answer.{Answer, given}
use Rattle.refusal.proofs.Checks.{neither}
use Rattle.sequence.proofs.UpTo.{length_up_to}
use Rattle.run_convolution.specs.Bounds.{Within}
use Rattle.run_convolution.specs.Sums.{held}
use Rattle.run_convolution.proofs.Steps.{held_low, held_high}
use Rattle.run_convolution.proofs.Theorems.{Cleared, holds_start}
use Rattle.network.specs.Rows.{Network, network_of, tap_row_at}
use Rattle.network.specs.Check.{network_answer, outcome}
use Rattle.network.proofs.Passed.{given_accepted, accepted_given}
use Rattle.network.specs.Accepted.{KeepsRules, Accepted}
use Rattle.network.proofs.Given.{given_length, given_fits, same_coefficients}
use Rattle.run_calls.specs.Run.{run_answer, run_outputs}
use Rattle.run_calls.specs.Call.{Call, network_in, table_answer, joined, said_of, said_from}
use Rattle.run_calls.specs.Memory.{Lending, Step, RanFrom, Trace, due, due_all, lent, after, found, found_from, overwritten, memory}
use Rattle.run_calls.specs.Demand.{Fair, EachFair, FullLength, Calls, Demand}
use Rattle.run_calls.proofs.Stretches.{length_lent}
use Rattle.run_calls.proofs.Calls.{after_by, Between, between, outputs, beyond, registers_are}

cleared : Cleared (replicate 256 0)
cleared k = by k (ltb k 256) refl
  where
    by : (k : ℕ) (t : Bool) → ltb k 256 ≡ t → held (replicate 256 0) k ≡ 0
    by k true e = let l : k < 256 = ltb-true k 256 e in held_low (replicate 256 0) k l ∙ get_or-replicate 256 k 0 0 l
    by k false e = held_high (replicate 256 0) k (ltb-false k 256 e)

-- the network was built for the coefficients h
module _ (h : List ℤ) (rows : List ℕ) (n : ℕ) (taps : List ℕ) (m : ℕ) (built : network_answer false rows n taps m ≡ given h) where
  abbrev net : Network
  net = network_of rows n taps m

  accepted : Accepted false rows n taps m h
  accepted = given_accepted false rows n taps m h built

  few : length h ≤ 256
  few = omega (arith, given_length false rows n taps m h built, accepted.taps_to)

  sized_by : (k : ℕ) (t : Bool) → ltb k m ≡ t → SFits w32 (get_or h k (pos 0))
  sized_by k true e = given_fits false rows n taps m h built k (ltb-true k m e)
  sized_by k false e =
      let l : m ≤ k = ltb-false k m e in
      subst (SFits w32) (sym (get_or-eq_default h (pos 0) {n = k} (omega (arith, given_length false rows n taps m h built)))) (record { sfits = omega arith })

  sized : Within w32 h
  sized k = sized_by k (ltb k m) refl

  -- ---- one call

  module _ (xs : List ℤ) (r : List ℕ) (b : Between h (replicate 256 0) xs r) (s : Step) (f : Fair net s.lending)
      (ran : RanFrom r s.lending s.answer s.registers s.outputs) where
    abbrev l : Lending
    l = s.lending

    -- the answer by the lengths of what was lent is the table's
    same : run_answer l.call.rows l.call.row_count_of l.call.taps l.call.tap_count l.call.samples (length (lent r l)) (length l.held) ≡ table_answer l.call
    same = rw (length_lent r l.beyond b.size l.start l.call.registers f.registers, f.outputs)

    told : (g : List ℤ) → table_answer l.call ≡ given g → ((256 ≤ l.call.registers) × (l.start ≡ 0)) × (g ≡ h)
    told g e =
        let c = l.call in
        let short = ltb c.registers 256 || ltb c.outputs (length c.samples) in
        let a = given_accepted short c.rows c.row_count_of c.taps c.tap_count g e in (
          (ltb-false c.registers 256 (neither (ltb c.registers 256) (ltb c.outputs (length c.samples)) a.others_long).0, f.whole g e),
          same_coefficients short false c.rows rows c.row_count_of n c.taps taps c.tap_count m g h (f.network g e) e built,
        )

    -- what the contract leaves
    left : after r s ≡ after_by (table_answer l.call) r l
    left =
        ap (λ (p : List ℕ). overwritten l.start p (memory r l)) ran.registers
        ∙ ap (λ (a : Answer (List ℤ)). after_by a r l) same

    after_one : Between h (replicate 256 0) (joined xs l.call) (take 256 (after r s))
    after_one =
        subst (λ (m : List ℕ). Between h (replicate 256 0) (joined xs l.call) (take 256 m)) (sym left)
        (between h few sized (replicate 256 0) cleared xs r b l f.registers f.samples (table_answer l.call) told)

    outputs_one : s.outputs ≡ (due (said_of h xs l.call) l).outputs
    outputs_one =
        ran.outputs ∙ ap (λ (a : Answer (List ℤ)). run_outputs a l.call.samples (lent r l) l.held) same
        ∙ outputs h few sized (replicate 256 0) cleared xs r b l f.registers f.samples (table_answer l.call) told

    registers_one : (found r s).registers ≡ (due (said_of h xs l.call) l).registers
    registers_one = registers_are h few sized (replicate 256 0) cleared (joined xs l.call) (take 256 (after r s)) after_one

    beyond_one : (found r s).beyond ≡ (due (said_of h xs l.call) l).beyond
    beyond_one =
        ap (drop 256) left
        ∙ beyond h few sized (replicate 256 0) cleared xs r b l f.registers f.samples (table_answer l.call) told

    found_one : found r s ≡ due (said_of h xs l.call) l
    found_one = λ t. record { answer = (ran.answer ∙ ap outcome same) t; outputs = outputs_one t; registers = registers_one t; beyond = beyond_one t }

  -- ---- all calls

  found_from_lem : (ss : List Step) (xs : List ℤ) (r : List ℕ) → Between h (replicate 256 0) xs r → EachFair net ss → Trace r ss
      → found_from r ss ≡ due_all (said_from h xs (map (λ (s : Step). s.lending.call) ss)) (map (λ (s : Step). s.lending) ss)
  unfolding found_from due_all said_from
  found_from_lem [] xs r b f t = refl
  found_from_lem (s ∷ ss) xs r b f t =
      ap₂ ◌∷◌ (found_one xs r b s f.0 t.0) (found_from_lem ss (joined xs s.lending.call) (take 256 (after r s)) (after_one xs r b s f.0 t.0) f.1 t.1)

  start : Between h (replicate 256 0) [] (replicate 256 0)
  start =
      record {
        size = length-replicate {A = ℕ} 256 0;
        samples = λ k. record { sfits = omega arith };
        holds = holds_start h (replicate 256 0) (λ k. omega (arith, cleared k));
      }

  -- ---- full tables are accepted

  accepts : (c : Call) → network_in c ≡ net → FullLength c → table_answer c ≡ given h
  accepts c e full =
      let short = ltb c.registers 256 || ltb c.outputs (length c.samples) in
      let q : c.tap_count ≡ m = sym (length_up_to c.tap_count (tap_row_at c.taps)) ∙ ap (λ (w : Network). length w.taps) e ∙ length_up_to m (tap_row_at taps) in
      accepted_given short c.rows c.row_count_of c.taps c.tap_count h
      (record {
        taps_from = omega (arith, accepted.taps_from);
        taps_to = omega (arith, accepted.taps_to);
        rows_long = full.rows;
        taps_long = full.taps;
        others_long = rw (le-ltb c.registers 256 full.registers, le-ltb c.outputs (length c.samples) full.outputs);
        passed = subst (λ (w : Network). KeepsRules w h) (sym e) accepted.passed;
      })

  -- for every list of calls: "Take any list of running calls, refused ones included, on one set of registers cleared at the start, each accepted call
  -- with that network"
  pub running_sums : (ss : List Step) → Calls net ss → Demand h net ss
  running_sums ss c = record { sums = found_from_lem ss [] (replicate 256 0) start c.fair c.ran; accepts = accepts }
