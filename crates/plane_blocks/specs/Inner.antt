-- Transposing a square of 32 by 32 bits, and the rows that hold a block of cells. Definitions of the algorithm's own.
use Rattle.std.specs.Prelude.{ℕ, ◌+◌, ◌*◌, ◌/◌, ◌%◌, ◌^◌, cond, List, eqb, get_or}
use Rattle.std.specs.Int.Bits.{bit_and, bit_or}
use Rattle.sequence.specs.UpTo.{up_to}
use Rattle.plane_masks.specs.Binary.{bit_at, binary}

-- row r after a stage that shifts by j: of the rows r / 2 and r / 2 + 16, an even row joins the bits where m has ones, and an odd row those j places above
unfoldable pub mixed : ℕ → ℕ → List ℕ → ℕ → ℕ
mixed j m from r =
    cond (eqb (r % 2) 0)
    (bit_or (bit_and (get_or from (r / 2) 0) m) (bit_and (get_or from (r / 2 + 16) 0) m * 2 ^ j % 2 ^ 32))
    (bit_or (bit_and (get_or from (r / 2) 0 / 2 ^ j) m) (bit_and (get_or from (r / 2 + 16) 0) (m * 2 ^ j % 2 ^ 32)))

-- bit b of each of 32 rows
unfoldable pub column : List ℕ → ℕ → ℕ
column rows b = binary 32 (λ (p : ℕ). bit_at (get_or rows p 0) b)

-- bit b of row r is bit r of row b of the rows that are transposed
unfoldable pub transposed : List ℕ → List ℕ
transposed rows = up_to 32 (column rows)

-- the 32 cells of a block in plane p: half a word
unfoldable pub half_word : List ℕ → ℕ → ℕ → ℕ
half_word table block p = get_or table (4 * p + block / 2) 0 / 2 ^ (32 * (block % 2)) % 2 ^ 32
