-- The sums of demand 3 for a list of running calls, from the arguments of the calls alone. Document 01, "The network", the paragraph that begins
-- "The sums of demand 3 are fed ..". Definitions only.
use Rattle.std.specs.Prelude.{List, [], ◌∷◌, ◌++◌, ℕ, ℤ}
use Rattle.refusal.specs.Answer.{Answer, stored}
use Rattle.sequence.specs.UpTo.{up_to}
use Rattle.run_convolution.specs.Sums.{output_sums, register_sum}
use Rattle.network.specs.Check.{outcome}
use Rattle.network.specs.Rows.{Network, network_of}
use Rattle.run_calls.specs.Run.{run_answer}

-- "the arguments of each running call (of the lent registers and outputs, only the lengths)"
pub record Call : Type 0 where
  pub rows : List ℕ
  pub row_count_of : ℕ
  pub taps : List ℕ
  pub tap_count : ℕ
  pub samples : List ℤ
  pub registers : ℕ
  pub outputs : ℕ

-- the network that a call is handed
abbrev pub network_in : Call → Network
network_in c = network_of c.rows c.row_count_of c.taps c.tap_count

-- "A call turned down by the table below": the refusal. "Any other call is accepted": the coefficients of its network
abbrev pub table_answer : Call → Answer (List ℤ)
table_answer c = run_answer c.rows c.row_count_of c.taps c.tap_count c.samples c.registers c.outputs

-- "They keep one list of samples": a call turned down "adds nothing to the list", of an accepted one "its samples join the list in order"
abbrev pub joined : List ℤ → Call → List ℤ
joined xs c = stored (table_answer c) (λ (h : List ℤ). xs ++ c.samples) xs

-- what the sums say of a call
pub record Said : Type 0 where
  -- "its answer is the table's"
  pub answer : Answer (Unit {0})
  -- "The output for a sample", for each sample of an accepted call
  pub outputs : List ℤ
  -- "After the call r(k) is ..", for k from 0 to 255
  pub registers : List ℤ

-- of a call that comes after the samples xs
abbrev pub said_of : List ℤ → List ℤ → Call → Said
said_of h xs c =
    record {
      answer = outcome (table_answer c);
      outputs = stored (table_answer c) (λ (g : List ℤ). output_sums h xs c.samples) [];
      registers = up_to 256 (register_sum h (joined xs c));
    }

-- of every call
unfoldable pub said_from : List ℤ → List ℤ → List Call → List Said
said_from h xs [] = []
said_from h xs (c ∷ cs) = said_of h xs c ∷ said_from h (joined xs c) cs

-- "They keep one list of samples, empty at first"
abbrev pub said : List ℤ → List Call → List Said
said h cs = said_from h [] cs
