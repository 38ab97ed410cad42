-- A call on its way, for the contracts of inner functions; document 01 does not speak of it. Definitions only.
use Rattle.std.specs.Prelude.{◌≡◌, List, ℕ, ◌-◌, ◌%◌, ◌<◌, ℤ, length, drop}
use Rattle.std.proofs.lemmas.List.Edits.{sets}
use Rattle.run_convolution.specs.Running.{outputs_of, registers_of}
use Rattle.run_convolution.specs.Bounds.{Words}
use Rattle.run_tables.specs.Inner.{Raised, ZeroFrom}

-- how many of n samples go by fours
abbrev pub fourfold : ℕ → ℕ
fourfold n = n - n % 4

-- of the samples xs, which met the registers r and the outputs outs, i have passed: the words are registers, raised, from which the rest gives what is to come
pub record Passed (h : List ℤ) (w : ℕ) (v r : List ℕ) (xs outs : List ℤ) (i bias : ℕ) (words : List ℕ) (news : List ℤ) : Type 0 where
  pub registers : List ℕ
  pub zero_from : ZeroFrom w h registers
  pub size : length registers ≡ length r
  pub past : drop 256 registers ≡ drop 256 r
  pub fit : 0 < i → Words registers
  pub raised : Raised w v bias registers words
  pub to_come_lem : registers_of h registers (drop i xs) ≡ registers_of h r xs
  pub outputs : sets news i (outputs_of h registers (drop i xs)) ≡ sets outs 0 (outputs_of h r xs)
