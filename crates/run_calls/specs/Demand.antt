-- Demand 3 of running calls: "a single claim about the whole list of them, not one for each call". Definitions only; the theorem is in
-- proofs/Theorem.antt.
use Rattle.std.specs.Prelude.{◌≡◌, List, [], ◌∷◌, map, ◌+◌, ◌≤◌, ℤ, length}
use Rattle.std.specs.Int.{w16}
use Rattle.refusal.specs.Answer.{given}
use Rattle.run_convolution.specs.Bounds.{Within}
use Rattle.network.specs.Rows.{Network, row_table, tap_table}
use Rattle.run_calls.specs.Call.{Call, network_in, table_answer, said}
use Rattle.run_calls.specs.Memory.{Lending, Step, Trace, due_all, found_from, cleared}

-- a call of the list, where net is the network that was built
pub record Fair (net : Network) (l : Lending) : Type 0 where
  -- the memory is as long as the call says
  pub registers : l.start + l.call.registers ≤ 256 + length l.beyond
  pub outputs : length l.held ≡ l.call.outputs
  -- "whatever 16-bit samples they bring"
  pub samples : Within w16 l.call.samples
  -- "Each call gets the registers that the last one left": the first of them is the first that is lent; a refused call may get any part
  pub whole : (g : List ℤ) → table_answer l.call ≡ given g → l.start ≡ 0
  -- "every accepted call is handed the built network and no other"; a refused one may be handed anything
  pub network : (g : List ℤ) → table_answer l.call ≡ given g → network_in l.call ≡ net

abbrev pub EachFair : Network → List Step → Type 0
EachFair net [] = Unit {0}
EachFair net (s ∷ ss) = Fair net s.lending × EachFair net ss

-- no table that a call lends is under its length
pub record FullLength (c : Call) : Type 0 where
  pub rows : row_table ≤ length c.rows
  pub taps : tap_table ≤ length c.taps
  pub registers : 256 ≤ c.registers
  pub outputs : length c.samples ≤ c.outputs

-- "any list of running calls, refused ones included, on one set of registers cleared at the start, each accepted call with that network", and what they
-- left
pub record Calls (net : Network) (ss : List Step) : Type 0 where
  pub ran : Trace cleared ss
  pub fair : EachFair net ss

-- the demand on such calls, where the network net was built for the coefficients h
pub record Demand (h : List ℤ) (net : Network) (ss : List Step) : Type 0 where
  -- after each call is found what the sums say
  pub sums : found_from cleared ss ≡ due_all (said h (map (λ (s : Step). s.lending.call) ss)) (map (λ (s : Step). s.lending) ss)
  -- and a call is not turned down that is handed the network in tables of full length
  pub accepts : (c : Call) → network_in c ≡ net → FullLength c → table_answer c ≡ given h
