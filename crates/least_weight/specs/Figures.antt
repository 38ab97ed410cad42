-- Least weights and logarithms of some numbers. Statements only; proofs/Figures.antt proves `WeightFigures`.
use Rattle.std.specs.Prelude.{◌≡◌, ◌+◌, ◌-◌, ◌^◌, pos, neg_ℤ, ◌+ℤ◌}
use Rattle.least_weight.specs.Logarithm.{log2up}
use Rattle.least_weight.specs.Weight.{minimal_weight}

pub record WeightFigures : Type 0 where
  pub of_0 : minimal_weight (pos 0) ≡ 0
  pub of_1 : minimal_weight (pos 1) ≡ 1
  -- document 01, "Bench figures": 64-16-4+1, and "1431655765 (0x55555555): weight 16"
  pub of_45 : minimal_weight (pos 45) ≡ 4
  pub of_minus_45 : minimal_weight (neg_ℤ (pos 45)) ≡ 4
  pub of_1431655765 : minimal_weight (pos 1431655765) ≡ 16
  -- past 32 places
  pub of_64_ones : minimal_weight (pos (2 ^ 64 - 1)) ≡ 2
  -- a sum can have the weights of both, and less
  pub of_4_and_1 : minimal_weight (pos 4 +ℤ pos 1) ≡ minimal_weight (pos 4) + minimal_weight (pos 1)
  pub of_1_and_1 : minimal_weight (pos 1 +ℤ pos 1) ≡ 1
  -- at a power of 2, and past it
  pub log_1 : log2up 1 ≡ 0
  pub log_16 : log2up 16 ≡ 4
  pub log_17 : log2up 17 ≡ 5
