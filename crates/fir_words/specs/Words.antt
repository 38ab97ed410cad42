-- A refusal as the 64-bit word that a function for C answers. Definitions only.
use Rattle.std.specs.Prelude.{ℕ, ◌+◌, ◌*◌, ◌^◌}
use Rattle.refusal.specs.Answer.{Answer, given, refused}

-- the refusal number in the upper half and its place in the lower; 0 for none
abbrev pub refusal_word_of : {A : Type 0} → Answer A → ℕ
refusal_word_of (given a) = 0
refusal_word_of (refused number place) = number * 2 ^ 32 + place
