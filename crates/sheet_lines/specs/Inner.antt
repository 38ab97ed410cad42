-- The parts that lines have in common, for the contracts of their writers, and the most bytes of a line. Definitions only.
use Rattle.std.specs.Prelude.{List, [], ◌∷◌, ◌++◌, ℕ, ◌+◌, ◌*◌, ◌-◌, ◌/◌, ◌^◌, length}
use Rattle.text.specs.Numbers.{decimal}
use Rattle.text.specs.Inner.{number_bytes, integer_bytes}

-- the fields from the number to the sign, each with its comma, and what comes after them
abbrev pub to_sign : (number left shift sign : ℕ) → List ℕ → List ℕ
to_sign number left shift sign rest = decimal number ++ (44 ∷ (decimal left ++ (44 ∷ (decimal shift ++ (44 ∷ sign ∷ 44 ∷ rest)))))

-- the number and the empty fields between it and the value, each with its comma, and what comes after them
abbrev pub to_value : (number : ℕ) → List ℕ → List ℕ
to_value number rest = decimal number ++ (44 ∷ 44 ∷ 44 ∷ 44 ∷ 44 ∷ rest)

-- what comes after the value: the end of the line
abbrev pub after_value : List ℕ
after_value = 13 ∷ 10 ∷ []

-- ---- the most bytes of these parts
abbrev pub to_sign_bytes : ℕ
to_sign_bytes = 3 * (number_bytes + 1) + 2

abbrev pub to_value_bytes : ℕ
to_value_bytes = number_bytes + 5

abbrev pub after_value_bytes : ℕ
after_value_bytes = length after_value

-- ---- the most bytes of a line
-- by those of its fields: a comma between each two of the seven, and CR LF
abbrev pub line_bytes : (kind number left shift sign right value : ℕ) → ℕ
line_bytes kind number left shift sign right value = kind + number + left + shift + sign + right + value + 6 + 2

abbrev pub header_bytes : ℕ
header_bytes = line_bytes 4 6 4 5 4 5 5

abbrev pub node_line_bytes : ℕ
node_line_bytes = line_bytes 4 number_bytes number_bytes number_bytes 1 number_bytes number_bytes

abbrev pub tap_line_bytes : ℕ
tap_line_bytes = line_bytes 3 number_bytes number_bytes number_bytes 1 0 integer_bytes

abbrev pub total_line_bytes : ℕ
total_line_bytes = line_bytes 5 number_bytes 0 0 0 0 0

abbrev pub refused_line_bytes : ℕ
refused_line_bytes = line_bytes 7 number_bytes 0 0 0 0 number_bytes

-- ---- a sheet
-- an area for one
abbrev pub area_bytes : ℕ
area_bytes = 2 ^ 18

-- the node lines that it has room for beside the header, a line for each of 256 taps and the total line
abbrev pub most_node_lines : ℕ
most_node_lines = (area_bytes - (header_bytes + 256 * tap_line_bytes + total_line_bytes)) / node_line_bytes
