-- The assign of a tap that is not empty as its writer makes it, for its contract. Definitions only.
use Rattle.std.specs.Prelude.{List, ◌++◌, ℕ, ◌+◌, length}
use Rattle.network.specs.declared.TapRow.{TapRow}
use Rattle.text.specs.Ascii.{ascii}
use Rattle.text.specs.Numbers.{decimal}

-- a tap's row and shift between two texts, after the name of its output
abbrev pub product_of : ℕ → List ℕ → TapRow → List ℕ → List ℕ
product_of k before t after = (ascii "assign t" ++ decimal k) ++ ((before ++ decimal t.row) ++ ((ascii " <<< " ++ decimal t.shift) ++ after))

-- and its bytes
abbrev pub product_bytes : ℕ → List ℕ → TapRow → List ℕ → ℕ
product_bytes k before t after = 13 + (length before + (length after + (length (decimal k) + (length (decimal t.row) + length (decimal t.shift)))))
