-- The reduction and the trimmed filter as C sees them. Definitions only.
use Rattle.std.specs.Prelude.{◌≡◌, List, ℕ, ℤ}
use Rattle.signed_digit.specs.Reduction.{positive, negative}
use Rattle.coefficient.specs.Parts.{Parts, no_odd_part, parts, ReducedTo}
use Rattle.coefficient.specs.Stretch.{StretchStarts, StretchEnds}

-- the parts of a coefficient as numbers: a sign of 1 for negative, and 0 each where there is no odd part
abbrev pub negative_in : Parts → ℕ
negative_in no_odd_part = 0
negative_in (parts positive odd_part shift) = 0
negative_in (parts negative odd_part shift) = 1

abbrev pub odd_part_in : Parts → ℕ
odd_part_in no_odd_part = 0
odd_part_in (parts sign odd_part shift) = odd_part

abbrev pub shift_in : Parts → ℕ
shift_in no_odd_part = 0
shift_in (parts sign odd_part shift) = shift

-- nothing is turned down, and the lent numbers become the parts that `reduce` answers, each 0 for zero: the contract of `fir_reduce`
pub record ReducedToWord (n : ℤ) (received negative' odd_part' shift' : ℕ) : Type 0 where
  pub answer : Parts
  pub word : received ≡ 0
  pub negative : negative' ≡ negative_in answer
  pub odd_part : odd_part' ≡ odd_part_in answer
  pub shift : shift' ≡ shift_in answer
  pub reduced : ReducedTo n answer

-- nothing is turned down, and the lent numbers become the start and the end of the trimmed filter of h: the contract of `fir_trimmed`
pub record TrimmedToWord (h : List ℤ) (received start' end' : ℕ) : Type 0 where
  pub word : received ≡ 0
  pub starts : StretchStarts h start'
  pub ends : StretchEnds h end'
