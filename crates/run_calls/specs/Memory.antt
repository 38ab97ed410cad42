-- A list of running calls on one set of registers: what `run` may leave, and what is found in memory after each. Definitions only.
use Rattle.std.specs.Prelude.{List, [], ◌∷◌, ◌++◌, map, ℕ, ◌+◌, ℤ, length, take, drop, replicate}
use Rattle.std.specs.Int.{w64}
use Rattle.std.proofs.Common.{to_z}
use Rattle.refusal.specs.Answer.{Answer, filled}
use Rattle.run_calls.specs.Run.{Ran}
use Rattle.run_calls.specs.Call.{Call, Said}

-- a call and the memory that it meets: where the part that is lent starts, what lies past the 256 registers, and what the lent outputs hold
pub record Lending : Type 0 where
  pub call : Call
  pub start : ℕ
  pub beyond : List ℕ
  pub held : List ℤ

-- what is found after a call: its answer, the lent outputs, the 256 registers read as signed, and what lies past them
pub record Found : Type 0 where
  pub answer : Answer (Unit {0})
  pub outputs : List ℤ
  pub registers : List ℤ
  pub beyond : List ℕ

-- ---- what must be found, where the sums say s: "elements past those that the result fills are untouched", and on a refusal "registers and outputs
-- stay as they were"
abbrev pub due : Said → Lending → Found
due s l = record { answer = s.answer; outputs = filled s.answer s.outputs l.held; registers = s.registers; beyond = l.beyond }

unfoldable pub due_all : List Said → List Lending → List Found
due_all [] ls = []
due_all (s ∷ ss) [] = []
due_all (s ∷ ss) (l ∷ ls) = due s l ∷ due_all ss ls

-- ---- a list of calls that were made: what each left

-- a call with the memory that it met, its answer, and what it left in the part of the registers and in the outputs that were lent to it
pub record Step : Type 0 where
  pub lending : Lending
  pub answer : Answer (Unit {0})
  pub registers : List ℕ
  pub outputs : List ℤ

-- the registers r and what lies past them
abbrev pub memory : List ℕ → Lending → List ℕ
memory r l = r ++ l.beyond

-- the part of it that is lent to the call; "one refused with 3 may get only a part of them"
abbrev pub lent : List ℕ → Lending → List ℕ
lent r l = take l.call.registers (drop l.start (memory r l))

-- a table whose part from `start` on has become another
abbrev pub overwritten : ℕ → List ℕ → List ℕ → List ℕ
overwritten start part table = take start table ++ (part ++ drop (start + length part) table)

-- the memory after a call that met the registers r
abbrev pub after : List ℕ → Step → List ℕ
after r s = overwritten s.lending.start s.registers (memory r s.lending)

-- the call answered and left what `run` may answer and leave
abbrev pub RanFrom : List ℕ → Lending → Answer (Unit {0}) → List ℕ → List ℤ → Type 0
RanFrom r l a r' o' = Ran l.call.rows l.call.row_count_of l.call.taps l.call.tap_count l.call.samples (lent r l) l.held a r' o'

-- "Each call gets the registers that the last one left .. nobody else writes them meanwhile"
abbrev pub Trace : List ℕ → List Step → Type 0
Trace r [] = Unit {0}
Trace r (s ∷ ss) = RanFrom r s.lending s.answer s.registers s.outputs × Trace (take 256 (after r s)) ss

abbrev pub found : List ℕ → Step → Found
found r s =
    record {
      answer = s.answer;
      outputs = s.outputs;
      registers = map (to_z w64) (take 256 (after r s));
      beyond = drop 256 (after r s);
    }

unfoldable pub found_from : List ℕ → List Step → List Found
found_from r [] = []
found_from r (s ∷ ss) = found r s ∷ found_from (take 256 (after r s)) ss

-- "when all 256 registers are 0"
abbrev pub cleared : List ℕ
cleared = replicate 256 0
