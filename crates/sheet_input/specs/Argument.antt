-- The first argument of the program. Document 01, "The sheet". Definitions only.
use Rattle.std.specs.Prelude.{not, ◌&&◌, Bool, Option, Some, None, List, ℕ, leb, ltb, length}
use Rattle.std.specs.Borrow.{Bor}
use Rattle.refusal.specs.Answer.{Answer, given, refuse_if}
use Rattle.text.specs.Numbers.{are_digits, number_from}

-- missing, or its bytes
pub data Argument : Type 0 where
  missing : Argument
  text : List ℕ → Argument

-- as the program hands it on
abbrev pub argument_of : Option (Bor (List ℕ)) → Argument
argument_of None = missing
argument_of (Some bytes) = text bytes.now

-- "the digits of a decimal number up to 31, leading zeros allowed": one digit at least
unfoldable pub is_fraction : List ℕ → Bool
is_fraction bytes = ltb 0 (length bytes) && are_digits bytes && leb (number_from 0 bytes) 31

-- "F = 15 unless its first argument gives F (anything there but the digits of a decimal number up to 31 .. is refusal 4)"
unfoldable pub fraction_bits_of : Argument → Answer ℕ
fraction_bits_of missing = given 15
fraction_bits_of (text bytes) = refuse_if (not (is_fraction bytes)) 4 (given (number_from 0 bytes))
