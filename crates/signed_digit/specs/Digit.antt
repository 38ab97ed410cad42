-- Document 01, "Digits": "digits 1, 0 and -1".
use Rattle.std.specs.Prelude.{ℕ, ℤ, pos, neg_ℤ}

pub data Digit : Type 0 where
  one : Digit
  nought : Digit
  minus_one : Digit
  deriving Discrete as Digit-discrete

-- the whole number that a digit is
abbrev pub digit_value : Digit → ℤ
digit_value one = pos 1
digit_value nought = pos 0
digit_value minus_one = neg_ℤ (pos 1)

-- 1 for a nonzero digit, 0 for the digit 0
abbrev pub nonzero : Digit → ℕ
nonzero one = 1
nonzero nought = 0
nonzero minus_one = 1
