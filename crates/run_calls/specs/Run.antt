-- A running call: its answer and what it leaves in the lent registers and outputs. Document 01, "The network" and "Turned down". Definitions only.
use Rattle.std.specs.Prelude.{◌≡◌, ◌||◌, List, ◌++◌, ℕ, ltb, ℤ, length, drop}
use Rattle.refusal.specs.Answer.{Answer, stored}
use Rattle.run_convolution.specs.Running.{registers_of, outputs_of}
use Rattle.network.specs.Check.{network_answer, outcome}

-- the coefficients of the network, or the refusal: of the lent tables, "registers 256 .. outputs one per sample"
abbrev pub run_answer : List ℕ → ℕ → List ℕ → ℕ → List ℤ → ℕ → ℕ → Answer (List ℤ)
run_answer rows row_count_of taps tap_count samples registers outputs = network_answer (ltb registers 256 || ltb outputs (length samples)) rows row_count_of taps tap_count

-- the lent registers after a call that is answered so; "unchanged" on a refusal
abbrev pub run_registers : Answer (List ℤ) → List ℤ → List ℕ → List ℕ
run_registers answer samples registers = stored answer (λ (h : List ℤ). registers_of h registers samples) registers

-- the lent outputs after it; "elements past those that the result fills are untouched"
abbrev pub run_outputs : Answer (List ℤ) → List ℤ → List ℕ → List ℤ → List ℤ
run_outputs answer samples registers outputs = stored answer (λ (h : List ℤ). outputs_of h registers samples ++ drop (length samples) outputs) outputs

-- a running call with the tables rows and taps, the samples, the lent registers r and the lent outputs o: it answers a and leaves r' and o' in them.
-- The contract of `run`, and what every claim about running calls speaks of
pub record Ran (rows : List ℕ) (row_count_of : ℕ) (taps : List ℕ) (tap_count : ℕ) (samples : List ℤ) (r : List ℕ) (o : List ℤ) (a : Answer (Unit {0})) (r' : List ℕ)
    (o' : List ℤ) : Type 0 where
  pub answer : a ≡ outcome (run_answer rows row_count_of taps tap_count samples (length r) (length o))
  pub registers : r' ≡ run_registers (run_answer rows row_count_of taps tap_count samples (length r) (length o)) samples r
  pub outputs : o' ≡ run_outputs (run_answer rows row_count_of taps tap_count samples (length r) (length o)) samples r o
