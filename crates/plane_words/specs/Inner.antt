-- One cell more in a table of planes, and the cells of a word that overlap. Definitions of the algorithm's own.
use Rattle.std.specs.Prelude.{ℕ, zero, suc, ◌+◌, ◌*◌, ◌/◌, ◌%◌, ◌^◌, cond, List, ◌++◌, eqb, get_or, drop}
use Rattle.std.specs.Int.Bits.{bit_and, bit_or}
use Rattle.sequence.specs.UpTo.{up_to}
use Rattle.plane_masks.specs.Binary.{bit_at}

-- the bit of word k that cell c's mask sets
unfoldable pub share : ℕ → ℕ → ℕ → ℕ
share mask c k = cond (eqb (k % 4) (c / 64)) (bit_at mask (k / 4)) 0

-- a table with the mask of cell c added
unfoldable pub with_cell : ℕ → ℕ → List ℕ → List ℕ
with_cell mask c table = up_to 128 (λ (k : ℕ). get_or table k 0 + 2 ^ (c % 64) * share mask c k) ++ drop 128 table

-- the bits of word j that both tables have in one of the first n planes
unfoldable pub both_word : ℕ → List ℕ → List ℕ → ℕ → ℕ
both_word zero plus minus j = 0
both_word (suc n) plus minus j = bit_or (both_word n plus minus j) (bit_and (get_or plus (4 * n + j) 0) (get_or minus (4 * n + j) 0))
