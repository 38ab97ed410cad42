-- The lines of a sheet. Document 01, "The sheet". Definitions only.
use Rattle.std.specs.Prelude.{cond, List, [], ◌∷◌, ◌++◌, ℕ, zero, suc, eqb, ℤ}
use Rattle.network.specs.declared.Row.{Row}
use Rattle.network.specs.declared.TapRow.{TapRow}
use Rattle.network.specs.Rows.{none}
use Rattle.text.specs.Ascii.{ascii}
use Rattle.text.specs.Numbers.{decimal, integer}

-- "RFC 4180 text, every line closed by CR LF": the fields with a comma between each two of them
unfoldable pub line : List ℕ → List (List ℕ) → List ℕ
line field [] = field ++ (13 ∷ 10 ∷ [])
line field (next ∷ rest) = field ++ (44 ∷ line next rest)

-- "Columns: kind, number, left row, shift, sign, right row, value". specs/Inner.antt has the most bytes of each
unfoldable pub columns : (kind number left shift sign right value : List ℕ) → List ℕ
columns kind number left shift sign right value = line kind (number ∷ left ∷ shift ∷ sign ∷ right ∷ value ∷ [])

unfoldable pub header : List ℕ
header = columns (ascii "kind") (ascii "number") (ascii "left") (ascii "shift") (ascii "sign") (ascii "right") (ascii "value")

-- "Fields with nothing to hold are empty"
abbrev pub empty : List ℕ
empty = []

-- a sign, which is stored as its character
abbrev pub sign_field : ℕ → List ℕ
sign_field sign = sign ∷ []

-- a later row, "a row or tap number under number"
abbrev pub later_line_of : ℕ → Row → List ℕ
later_line_of i r = columns (ascii "node") (decimal i) (decimal r.left) (decimal r.shift) (sign_field r.sign) (decimal r.right) (decimal r.value)

-- row i: "Fields with nothing to hold are empty: for row 0 all but number and value"
unfoldable pub node_line_of : ℕ → Row → List ℕ
node_line_of zero r = columns (ascii "node") (decimal 0) empty empty empty empty (decimal r.value)
node_line_of (suc i) r = later_line_of (suc i) r

-- "and so for an empty tap, whose value is 0"
abbrev pub empty_tap_line_of : ℕ → List ℕ
empty_tap_line_of i = columns (ascii "tap") (decimal i) empty empty empty empty (decimal 0)

-- "a tap's row stands under left"
abbrev pub product_line_of : ℕ → TapRow → ℤ → List ℕ
product_line_of i t value = columns (ascii "tap") (decimal i) (decimal t.row) (decimal t.shift) (sign_field t.sign) empty (integer value)

-- tap i, whose coefficient is `value`
unfoldable pub tap_line_text : ℕ → TapRow → ℤ → List ℕ
tap_line_text i t value = cond (eqb t.sign none) (empty_tap_line_of i) (product_line_of i t value)

-- "the total line with the total under number"
unfoldable pub total_line_of : ℕ → List ℕ
total_line_of total = columns (ascii "total") (decimal total) empty empty empty empty empty

-- "`refused,N,,,,,P`", "N the refusal number and P the place"
unfoldable pub refused_line_of : ℕ → ℕ → List ℕ
refused_line_of number place = columns (ascii "refused") (decimal number) empty empty empty empty (decimal place)
